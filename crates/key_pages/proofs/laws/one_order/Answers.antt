-- The order of entries is total, and tells them apart.
use Rattle.key_pages.specs.Order.{entry_cmp}
use Rattle.key_pages.proofs.OrderLemmas.{entry_total, entry_exact}
use Rattle.key_pages.proofs.MemberLemmas.{one_list}
use Rattle.key_pages.proofs.laws.one_order.Goals as goal

pub returns : goal.returns
returns c falling some others sorted also same =
    one_list (entry_cmp falling) (entry_total falling) (entry_exact falling) some others sorted also (λ entry. (same entry).0) (λ entry. (same entry).1)

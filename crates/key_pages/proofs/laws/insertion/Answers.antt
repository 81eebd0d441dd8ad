-- The order of entries is total, and tells them apart.
use Rattle.key_pages.specs.Order.{entry_cmp}
use Rattle.key_pages.proofs.OrderLemmas.{entry_total, entry_exact, IsInOrder-with_entry}
use Rattle.key_pages.proofs.MemberLemmas.{insert_members}
use Rattle.key_pages.proofs.laws.insertion.Goals as goal

pub returns-clause-order : goal.returns-clause-order
returns-clause-order c = IsInOrder-with_entry

pub returns-clause-entries : goal.returns-clause-entries
returns-clause-entries c falling = insert_members (entry_cmp falling) (entry_total falling) (entry_exact falling)

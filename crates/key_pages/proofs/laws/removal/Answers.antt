-- The order of entries is total, and tells them apart.
use Rattle.key_pages.specs.Order.{entry_cmp}
use Rattle.key_pages.proofs.OrderLemmas.{entry_total, entry_exact, IsInOrder-without_entry}
use Rattle.key_pages.proofs.MemberLemmas.{remove_members}
use Rattle.key_pages.proofs.laws.removal.Goals as goal

pub returns-clause-order : goal.returns-clause-order
returns-clause-order c = IsInOrder-without_entry

pub returns-clause-entries : goal.returns-clause-entries
returns-clause-entries c falling = remove_members (entry_cmp falling) (entry_total falling) (entry_exact falling)

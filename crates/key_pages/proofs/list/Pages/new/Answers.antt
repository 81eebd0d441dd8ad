-- An empty list is in order.
use Rattle.std.proofs.Common.{refl, arith}
use Rattle.std.specs.List.Sorted.{IsStrictlySortedBy}
use Rattle.key_pages.proofs.list.Pages.new.Goals as goal

pub invariant_of-result : goal.invariant_of-result
unfolding IsStrictlySortedBy
invariant_of-result c = rw c.new.ensures (record { ordered = tt; counted = refl; fits = omega arith; enough = omega arith })

use Rattle.std.proofs.Common.{◌≡◌, drop, length}
use Rattle.std.specs.Ordering.{nat_cmp}
use Rattle.std.specs.Cmp.Lexicographic.{slice_cmp}
use Rattle.script_numbers.specs.Order.{text_order, filled}
use Rattle.script_numbers.proofs.order.text_order.Given as goal

abbrev pub invariant-loop-place : goal.invariant-loop-place
invariant-loop-place l =
    slice_cmp nat_cmp (drop l.place (filled (length l.right) l.left)) (drop l.place (filled (length l.left) l.right)) ≡ text_order l.left l.right

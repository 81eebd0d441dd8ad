use Rattle.std.proofs.Common.{◌≡◌, ◌≤◌, length, take, reverse}
use Rattle.range_images.specs.Breaks.{first_break_in}
use Rattle.range_images.proofs.breaks.last_break.Given as goal

abbrev pub invariant-loop-left : goal.invariant-loop-left
invariant-loop-left l =
    (l.left ≤ length l.entries) × (first_break_in l.kind l.number (reverse (take l.left l.entries)) ≡ first_break_in l.kind l.number (reverse l.entries))

abbrev pub decreases-loop-left : goal.decreases-loop-left
decreases-loop-left l = l.left

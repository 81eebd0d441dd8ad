use Rattle.std.proofs.Common.{◌≡◌, ◌≤◌, length, take, reverse}
use Rattle.range_images.specs.Images.{lacking_in}
use Rattle.range_images.proofs.walks.last_lacking.Given as goal

abbrev pub invariant-loop-left : goal.invariant-loop-left
invariant-loop-left l = (l.left ≤ length l.changes) × (lacking_in (reverse (take l.left l.changes)) ≡ lacking_in (reverse l.changes))

abbrev pub decreases-loop-left : goal.decreases-loop-left
decreases-loop-left l = l.left

use Rattle.std.proofs.Common.{◌≤◌, length, take, map}
use Rattle.range_images.specs.Sides.{numbered_of}
use Rattle.range_images.proofs.WayLemmas.{IsUndone}
use Rattle.range_images.proofs.walks.undone.Given as goal

abbrev pub invariant-loop-left : goal.invariant-loop-left
invariant-loop-left l = (l.left ≤ length l.changes) × IsUndone l.member.state.slots (map numbered_of l.changes) (map numbered_of (take l.left l.changes)) l.overlay

abbrev pub decreases-loop-left : goal.decreases-loop-left
decreases-loop-left l = l.left

use Rattle.std.proofs.Common.{drop, map}
use Rattle.range_images.specs.Sides.{numbered_of}
use Rattle.range_images.proofs.WayLemmas.{IsRedone}
use Rattle.range_images.proofs.walks.redone.Given as goal

abbrev pub invariant-loop-change : goal.invariant-loop-change
invariant-loop-change l = IsRedone l.member.state.slots (map numbered_of l.changes) (map numbered_of (drop l.change-index l.changes)) l.overlay

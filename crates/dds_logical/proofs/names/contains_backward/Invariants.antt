use Rattle.std.proofs.Common.{length, ◌≡◌, ◌≤◌, take, reverse}
use Rattle.dds_physical.specs.Names.{is_among}
use Rattle.dds_logical.proofs.names.contains_backward.Given as goal

abbrev pub invariant-loop-left : goal.invariant-loop-left
invariant-loop-left l = (l.left ≤ length l.names) × (is_among l.name (reverse (take l.left l.names)) ≡ is_among l.name (reverse l.names))

abbrev pub decreases-loop-left : goal.decreases-loop-left
decreases-loop-left l = l.left

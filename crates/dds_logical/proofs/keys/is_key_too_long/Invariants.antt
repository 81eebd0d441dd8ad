use Rattle.std.proofs.Common.{length, ◌≡◌, ◌+◌, ◌≤◌}
use Rattle.dds_physical.specs.Draft.{key_length}
use Rattle.dds_logical.proofs.keys.is_key_too_long.Given as goal

abbrev pub invariant-loop-rest : goal.invariant-loop-rest
invariant-loop-rest l = (l.left ≤ 120) × (key_length l.parts + l.left ≡ 120 + key_length l.rest)

abbrev pub decreases-loop-rest : goal.decreases-loop-rest
decreases-loop-rest l = length l.rest

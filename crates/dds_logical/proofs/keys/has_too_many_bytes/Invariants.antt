use Rattle.std.proofs.Common.{length, ◌≡◌, ◌+◌, ◌≤◌}
use Rattle.dds_logical.specs.JudgedKeys.{bytes_of}
use Rattle.dds_logical.proofs.keys.has_too_many_bytes.Given as goal

abbrev pub invariant-loop-rest : goal.invariant-loop-rest
invariant-loop-rest l = (l.left ≤ 32766) × (bytes_of l.named + l.left ≡ 32766 + bytes_of l.rest)

abbrev pub decreases-loop-rest : goal.decreases-loop-rest
decreases-loop-rest l = length l.rest

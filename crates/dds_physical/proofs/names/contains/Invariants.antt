use Rattle.std.proofs.Common.{length, ◌≡◌}
use Rattle.dds_physical.specs.Names.{is_among}
use Rattle.dds_physical.proofs.names.contains.Given as goal

abbrev pub invariant-loop-rest : goal.invariant-loop-rest
invariant-loop-rest l = is_among l.name l.rest ≡ is_among l.name l.names

abbrev pub decreases-loop-rest : goal.decreases-loop-rest
decreases-loop-rest l = length l.rest

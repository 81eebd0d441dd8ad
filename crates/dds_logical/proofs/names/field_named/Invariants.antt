use Rattle.std.proofs.Common.{length, ◌≡◌}
use Rattle.dds_physical.specs.Names.{field_named}
use Rattle.dds_logical.proofs.names.field_named.Given as goal

abbrev pub invariant-loop-rest : goal.invariant-loop-rest
invariant-loop-rest l = field_named l.name l.rest ≡ field_named l.name l.fields

abbrev pub decreases-loop-rest : goal.decreases-loop-rest
decreases-loop-rest l = length l.rest

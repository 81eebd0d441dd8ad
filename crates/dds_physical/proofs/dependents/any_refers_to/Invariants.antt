use Rattle.std.proofs.Common.{◌≡◌, length}
use Rattle.dds_physical.specs.References.{any_refers_to}
use Rattle.dds_physical.proofs.dependents.any_refers_to.Given as goal

abbrev pub invariant-loop-rest : goal.invariant-loop-rest
invariant-loop-rest l = any_refers_to l.file l.rest ≡ any_refers_to l.file l.specifications

abbrev pub decreases-loop-rest : goal.decreases-loop-rest
decreases-loop-rest l = length l.rest

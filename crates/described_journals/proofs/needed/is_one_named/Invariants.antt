use Rattle.std.proofs.Common.{◌≡◌, length}
use Rattle.std.specs.List.{list_any}
use Rattle.dds_physical.specs.References.{refers_to}
use Rattle.described_journals.proofs.needed.is_one_named.Given as goal

abbrev pub invariant-loop-rest : goal.invariant-loop-rest
invariant-loop-rest l = list_any (refers_to l.name) l.rest ≡ list_any (refers_to l.name) l.wanted

abbrev pub decreases-loop-rest : goal.decreases-loop-rest
decreases-loop-rest l = length l.rest

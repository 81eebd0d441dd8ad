use Rattle.std.proofs.Common.{◌≡◌, length}
use Rattle.dds_physical.specs.Keywords.{first_named}
use Rattle.described_journals.proofs.naming.first_named.Given as goal

abbrev pub invariant-loop-rest : goal.invariant-loop-rest
invariant-loop-rest l = first_named l.name l.rest ≡ first_named l.name l.keywords

abbrev pub decreases-loop-rest : goal.decreases-loop-rest
decreases-loop-rest l = length l.rest

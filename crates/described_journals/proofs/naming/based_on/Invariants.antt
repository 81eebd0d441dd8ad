use Rattle.std.proofs.Common.{◌≡◌, length}
use Rattle.dds_logical.specs.FormatLines.{based_on}
use Rattle.described_journals.proofs.naming.based_on.Given as goal

abbrev pub invariant-loop-rest : goal.invariant-loop-rest
invariant-loop-rest l = based_on l.rest ≡ based_on l.keywords

abbrev pub decreases-loop-rest : goal.decreases-loop-rest
decreases-loop-rest l = length l.rest

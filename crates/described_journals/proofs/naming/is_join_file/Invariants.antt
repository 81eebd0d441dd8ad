use Rattle.std.proofs.Common.{◌≡◌, length}
use Rattle.dds_logical.specs.FormatLines.{formats_in, is_join_file}
use Rattle.described_journals.proofs.naming.is_join_file.Given as goal

abbrev pub invariant-loop-rest : goal.invariant-loop-rest
invariant-loop-rest l = is_join_file (formats_in l.rest) ≡ is_join_file (formats_in l.specifications)

abbrev pub decreases-loop-rest : goal.decreases-loop-rest
decreases-loop-rest l = length l.rest

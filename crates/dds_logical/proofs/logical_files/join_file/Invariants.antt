use Rattle.std.proofs.Common.{◌≡◌, length}
use Rattle.dds_logical.specs.FormatLines.{formats_in}
use Rattle.dds_logical.proofs.logical_files.join_file.Given as goal

abbrev pub invariant-loop-rest : goal.invariant-loop-rest
invariant-loop-rest g l = formats_in l.rest ≡ formats_in l.specifications

abbrev pub decreases-loop-rest : goal.decreases-loop-rest
decreases-loop-rest g l = length l.rest

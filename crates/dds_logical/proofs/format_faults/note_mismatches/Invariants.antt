use Rattle.std.proofs.Common.{◌≡◌, length, []}
use Rattle.dds_physical.specs.Faults.{first_after}
use Rattle.dds_logical.specs.Mismatches.{mismatches}
use Rattle.dds_logical.proofs.format_faults.note_mismatches.Given as goal

abbrev pub invariant-loop-rest : goal.invariant-loop-rest
invariant-loop-rest g l = first_after l.first.fault (mismatches (g.B.Bases.bases l.bases) l.earlier l.rest) ≡ first_after l.fn.first.fault (mismatches (g.B.Bases.bases l.bases) [] l.specifications)

abbrev pub decreases-loop-rest : goal.decreases-loop-rest
decreases-loop-rest g l = length l.rest

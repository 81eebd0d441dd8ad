use Rattle.std.proofs.Common.{◌≡◌, length, flat_map}
use Rattle.dds_physical.specs.Faults.{first_after}
use Rattle.dds_logical.specs.FormatLines.{formats_in}
use Rattle.dds_logical.specs.JoinViews.{join_faults}
use Rattle.dds_logical.proofs.join_faults.note_joins.Given as goal

abbrev pub invariant-loop-rest : goal.invariant-loop-rest
invariant-loop-rest g l = first_after l.first.fault (flat_map (join_faults (g.B.Bases.bases l.bases) l.last_line) (formats_in l.rest))
    ≡ first_after l.fn.first.fault (flat_map (join_faults (g.B.Bases.bases l.bases) l.last_line) (formats_in l.specifications))

abbrev pub decreases-loop-rest : goal.decreases-loop-rest
decreases-loop-rest g l = length l.rest

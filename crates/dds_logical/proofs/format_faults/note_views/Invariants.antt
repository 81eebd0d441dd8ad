use Rattle.std.proofs.Common.{◌≡◌, length, flat_map}
use Rattle.dds_physical.specs.Faults.{first_after}
use Rattle.dds_logical.specs.FormatLines.{formats_in}
use Rattle.dds_logical.specs.Logical.{view_faults}
use Rattle.dds_logical.proofs.format_faults.note_views.Given as goal

abbrev pub invariant-loop-rest : goal.invariant-loop-rest
invariant-loop-rest g l = first_after l.first.fault (flat_map (view_faults (g.B.Bases.bases l.bases) l.last_line l.is_multi) (formats_in l.rest))
    ≡ first_after l.fn.first.fault (flat_map (view_faults (g.B.Bases.bases l.bases) l.last_line l.is_multi) (formats_in l.specifications))

abbrev pub decreases-loop-rest : goal.decreases-loop-rest
decreases-loop-rest g l = length l.rest

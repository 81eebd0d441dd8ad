use Rattle.std.proofs.Common.{◌≡◌, ◌++◌, length, map}
use Rattle.dds_logical.specs.FormatLines.{formats_in}
use Rattle.dds_logical.specs.Logical.{view_described}
use Rattle.dds_logical.specs.Complete.{AreComplete}
use Rattle.dds_logical.proofs.logical_files.views_described.Given as goal

abbrev pub invariant-loop-rest : goal.invariant-loop-rest
invariant-loop-rest g l = record {
  complete : AreComplete (g.B.Bases.bases l.bases) (formats_in l.rest);
  described : l.views.items ++ map (view_described (g.B.Bases.bases l.bases) l.keywords l.is_multi l.positions) (formats_in l.rest)
      ≡ map (view_described (g.B.Bases.bases l.bases) l.keywords l.is_multi l.positions) (formats_in l.specifications);
}

abbrev pub decreases-loop-rest : goal.decreases-loop-rest
decreases-loop-rest g l = length l.rest

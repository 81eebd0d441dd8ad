use Rattle.std.proofs.Common.{◌≡◌, ◌++◌, drop, map}
use Rattle.std.specs.List.{filter_map}
use Rattle.dds_logical.specs.Bases.{fields_of_file}
use Rattle.dds_logical.specs.JoinSteps.{named_of_placed, placed_if, places_of_placed}
use Rattle.dds_logical.proofs.join_fields.placed_fields.Given as goal

abbrev pub invariant-loop-line : goal.invariant-loop-line
invariant-loop-line g l = record {
  named : l.fields.named ++ named_of_placed (filter_map (placed_if l.files (map (fields_of_file (g.B.Bases.bases l.bases)) l.files)) (drop l.line-index l.lines))
      ≡ named_of_placed (filter_map (placed_if l.files (map (fields_of_file (g.B.Bases.bases l.bases)) l.files)) l.lines);
  places : l.fields.places ++ places_of_placed (filter_map (placed_if l.files (map (fields_of_file (g.B.Bases.bases l.bases)) l.files)) (drop l.line-index l.lines))
      ≡ places_of_placed (filter_map (placed_if l.files (map (fields_of_file (g.B.Bases.bases l.bases)) l.files)) l.lines);
}

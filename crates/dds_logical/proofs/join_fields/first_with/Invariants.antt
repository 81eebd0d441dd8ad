use Rattle.std.proofs.Common.{◌≡◌, ◌+◌, length, map}
use Rattle.dds_logical.specs.Bases.{fields_of_file}
use Rattle.dds_logical.specs.Origins.{origin_names}
use Rattle.dds_logical.specs.JoinFields.{first_place, places_with}
use Rattle.dds_logical.proofs.join_fields.first_with.Given as goal

abbrev pub invariant-loop-rest : goal.invariant-loop-rest
invariant-loop-rest g l = (l.place + length l.rest ≡ length l.files)
    × (first_place (places_with l.place (map (fields_of_file (g.B.Bases.bases l.bases)) l.rest) (origin_names l.line))
    ≡ first_place (places_with 0 (map (fields_of_file (g.B.Bases.bases l.bases)) l.files) (origin_names l.line)))

abbrev pub decreases-loop-rest : goal.decreases-loop-rest
decreases-loop-rest g l = length l.rest

use Rattle.std.proofs.Common.{◌≡◌, ◌==◌, length}
use Rattle.std.specs.List.{list_any}
use Rattle.dds_logical.specs.FormatLines.{field_lines, formats_in}
use Rattle.dds_logical.proofs.whole_file.is_one_fieldless.Given as goal

abbrev pub invariant-loop-rest : goal.invariant-loop-rest
invariant-loop-rest l = list_any (λ f. length (field_lines f) == 0) (formats_in l.rest) ≡ list_any (λ f. length (field_lines f) == 0) (formats_in l.specifications)

abbrev pub decreases-loop-rest : goal.decreases-loop-rest
decreases-loop-rest l = length l.rest

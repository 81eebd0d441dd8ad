use Rattle.std.proofs.Common.{◌≡◌, ◌++◌, drop}
use Rattle.std.specs.List.{filter_map}
use Rattle.dds_logical.specs.Named.{field_if}
use Rattle.dds_logical.proofs.named_fields.fields_of_lines.Given as goal

abbrev pub invariant-loop-line : goal.invariant-loop-line
invariant-loop-line l = l.fields ++ filter_map (field_if l.base) (drop l.line-index l.lines) ≡ filter_map (field_if l.base) l.lines

-- Which fields do lines describe, of which types? (Our own.)
use Rattle.std.specs.Prelude.{Bool, false, List, All, Option, None, if◌then◌else◌}
use Rattle.record_fmt.specs.FieldTypes.{IsFieldType}
use Rattle.record_fmt.specs.declared.formats.Field.{Field}
use Rattle.dds_physical.below.dds_source.specs.declared.specifications.Specification.{Specification}
use Rattle.dds_logical.specs.declared.named_fields.NamedField.{NamedField}
use Rattle.dds_logical.specs.declared.format_lines.LineKind.TheVariants as line_kinds
use Rattle.dds_logical.specs.Fields.{field_of_line}
use Rattle.dds_logical.specs.Judged.{is_of}

-- its type is one that a data description can give
abbrev pub IsShown : NamedField → Type 0
IsShown f = IsFieldType f.shown.field.ty

abbrev pub AreShown : List NamedField → Type 0
AreShown fs = All IsShown fs

-- the field of a line, if it describes one
unfoldable pub field_if : List Field → Specification → Option NamedField
field_if base s = if is_of line_kinds.Field s.kind then field_of_line false base s else None

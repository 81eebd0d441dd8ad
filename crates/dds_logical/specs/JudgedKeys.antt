-- What are the keys of formats before their fields have places in a record? (Our own.)
use Rattle.std.specs.Prelude.{ℕ, ◌+◌, List, [], ◌∷◌, ◌++◌, drop, length, Option, Some, None, nat_eq, false, if◌then◌else◌, codes}
use lib.Pointwise.{pointwise}
use Rattle.key_spec.specs.declared.KeyPart.{KeyPart}
use Rattle.key_spec.specs.declared.KeyPart.TheVariants as parts
use Rattle.record_fmt.specs.FieldTypes.{width}
use Rattle.dds_physical.below.dds_source.specs.declared.keywords.Keyword.{Keyword}
use Rattle.dds_physical.below.dds_source.specs.declared.specifications.Specification.{Specification}
use Rattle.dds_physical.below.dds_source.specs.declared.faults.DdsFault.{DdsFault}
use Rattle.dds_physical.below.dds_source.specs.declared.faults.DdsCause.TheVariants.{KeyMismatch}
use Rattle.dds_physical.specs.Entries.{when}
use Rattle.std.specs.List.{list_any, filter_map}
use Rattle.dds_physical.specs.Places.{fault_at}
use Rattle.record_fmt.specs.declared.formats.Field.{Field}
use Rattle.dds_physical.specs.Draft.{key_part}
use Rattle.dds_logical.specs.Keys.{parts_differ, first_part, field_of_name}
use Rattle.dds_physical.specs.Names.{name_of}
use Rattle.dds_physical.specs.Keywords.{is_there}
use Rattle.dds_logical.specs.declared.named_fields.NamedField.{NamedField}
use Rattle.dds_logical.specs.declared.format_lines.LineKind.TheVariants as line_kinds
use Rattle.dds_physical.specs.Reading.{is_record}
use Rattle.dds_logical.specs.FormatLines.{key_lines}
use Rattle.dds_logical.specs.Judged.{is_of, lines_of, format_of}

-- the field of a name
abbrev pub named_of : List ℕ → List NamedField → Option NamedField
named_of name [] = None
named_of name (f ∷ fs) = if pointwise nat_eq f.name name then Some f else named_of name fs

abbrev pub named_or_none : List NamedField → Option (List ℕ) → Option NamedField
named_or_none fields None = None
named_or_none fields (Some name) = named_of name fields

-- the position that a field is, at the place 0
abbrev pub judged_part : Option NamedField → List Keyword → KeyPart
judged_part None ks = parts.Absent
judged_part (Some f) ks = parts.Field f.shown.field.ty 0 (is_there (codes "DESCEND") ks) (is_there (codes "ABSVAL") ks)

-- the position of a line, if it is a key field's
abbrev pub judged_if : List NamedField → Specification → Option KeyPart
judged_if fields s = if is_of line_kinds.Key s.kind then Some (judged_part (named_or_none fields (name_of s.name)) s.keywords) else None

-- the bytes of a record with these fields
abbrev pub bytes_of : List NamedField → ℕ
bytes_of [] = 0
bytes_of (f ∷ fs) = width f.shown.field.ty + bytes_of fs

-- KeyMismatch: a position differs from that of an earlier format; so many positions stand before these
abbrev pub positions_from : (place : ℕ) → (earlier : List (List KeyPart)) → List KeyPart → List Specification → List DdsFault
positions_from place earlier [] ss = []
positions_from place earlier (p ∷ ps) [] = []
positions_from place earlier (p ∷ ps) (s ∷ ss) =
    when (list_any (λ others. parts_differ (first_part (drop place others)) p) earlier) (fault_at s 19 KeyMismatch)
    ++ positions_from (place + 1) earlier ps ss

-- among lines with these fields
abbrev pub positions_of : (place : ℕ) → (earlier : List (List KeyPart)) → List NamedField → List Specification → List DdsFault
positions_of place earlier fields ss = positions_from place earlier (filter_map (judged_if fields) ss) (lines_of line_kinds.Key ss)

-- without its place in a record
abbrev pub forget_place : KeyPart → KeyPart
forget_place parts.Absent = parts.Absent
forget_place (parts.Field t at descend absval) = parts.Field t 0 descend absval

-- the position of a line, if it is a key field's
abbrev pub part_if : List Field → Specification → Option KeyPart
part_if fields s = if is_of line_kinds.Key s.kind then Some (key_part (field_of_name fields (name_of s.name)) s.keywords) else None

-- how many key lines the format has that a line begins
abbrev pub parts_at : Specification → List Specification → ℕ
parts_at s ss = if is_record s.kind then length (key_lines (format_of s ss)) else 0

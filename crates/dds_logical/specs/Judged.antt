-- What do the parts of the judgement say that the body has in functions of their own? (Our own.)
use Rattle.std.specs.Prelude.{ℕ, ◌-◌, ◌&&◌, ◌==◌, not, Bool, true, false, List, [], ◌∷◌, ◌++◌, length, map, flat_map, filter, Option, Some, None, is_none, Result, Ok, Err, if◌then◌else◌}
use Rattle.field_types.specs.declared.kinds.FieldType.{FieldType}
use Rattle.record_fmt.specs.declared.formats.Field.{Field}
use Rattle.dds_physical.specs.Attributes.{attributes}
use Rattle.dds_logical.specs.Fields.{narrowing_faults, field_entry_faults, made_faults, file_number_faults}
use Rattle.std.specs.List.{before_first}
use Rattle.dds_physical.below.dds_source.specs.declared.keywords.Keyword.{Keyword}
use Rattle.dds_physical.below.dds_source.specs.declared.faults.DdsFault.{DdsFault}
use Rattle.dds_physical.below.dds_source.specs.declared.specifications.Specification.{Specification}
use Rattle.dds_physical.below.dds_source.specs.declared.specifications.SpecificationKind.{SpecificationKind}
use Rattle.dds_physical.specs.Reading.{is_record, is_condition}
use Rattle.dds_physical.specs.declared.physical_files.PhysicalSpec.{PhysicalSpec}
use Rattle.dds_physical.specs.WholeFile.{is_field_kind, is_key_kind}
use Rattle.dds_logical.specs.declared.format_lines.LineKind.{LineKind}
use Rattle.dds_logical.specs.declared.format_lines.LineKind.TheVariants as line_kinds
use Rattle.dds_logical.specs.FormatLines.{FormatLines, field_lines, is_join_kind}
use Rattle.dds_logical.specs.KeywordRules.{unknown_faults, argument_faults, twice_faults}
use Rattle.dds_logical.specs.LineOrder.{stage_faults, kind_faults, out_of_order}

-- what is wrong with a keyword, before others
unfoldable pub one_keyword_faults : Bool → Keyword → List Keyword → List DdsFault
one_keyword_faults is_known k more = unknown_faults is_known k ++ argument_faults is_known k ++ twice_faults is_known k more

-- ---- lines

abbrev pub is_of : LineKind → SpecificationKind → Bool
is_of line_kinds.Record kind = is_record kind
is_of line_kinds.Join kind = is_join_kind kind
is_of line_kinds.Field kind = is_field_kind kind
is_of line_kinds.Key kind = is_key_kind kind
is_of line_kinds.Selection kind = is_condition kind

abbrev pub lines_of : LineKind → List Specification → List Specification
lines_of kind ss = filter (λ s. is_of kind s.kind) ss

-- the format that a line of a record format begins
abbrev pub format_of : Specification → List Specification → FormatLines
format_of s ss = record { head = s; body = before_first (λ other. is_record other.kind) ss }

-- it begins a format without lines of fields
unfoldable pub is_fieldless_at : Specification → List Specification → Bool
is_fieldless_at s ss = is_record s.kind && (length (field_lines (format_of s ss)) == 0)

-- what is wrong with the format that a line begins, if it begins one
unfoldable pub faults_at : (FormatLines → List DdsFault) → Specification → List Specification → List DdsFault
faults_at wrong s ss = if is_record s.kind then wrong (format_of s ss) else []

-- ---- order

abbrev pub order_faults_of : (is_join : Bool) → FormatLines → List DdsFault
order_faults_of is_join f = stage_faults 0 f.body ++ flat_map (kind_faults is_join) f.body

-- record formats behind the first one, which has come or is still to come
abbrev pub second_formats : (is_there : Bool) → List FormatLines → List DdsFault
second_formats true fs = map (λ other. out_of_order other.head) fs
second_formats false [] = []
second_formats false (f ∷ fs) = map (λ other. out_of_order other.head) fs

-- ---- lines of a kind

-- what is wrong with a line, if it is of the kind
unfoldable pub line_faults_of : LineKind → (Specification → List DdsFault) → Specification → List DdsFault
line_faults_of kind wrong s = if is_of kind s.kind then wrong s else []

abbrev pub first_line : List Specification → Option Specification
first_line [] = None
first_line (s ∷ ss) = Some s

-- what is wrong with the type of a field that is made of what has this type
abbrev pub type_or_narrowing : Specification → FieldType → Result FieldType DdsFault → List DdsFault
type_or_narrowing s own (Ok t) = narrowing_faults s t own
type_or_narrowing s own (Err fault) = fault ∷ []

abbrev pub types_faults : Specification → FieldType → List DdsFault
types_faults s own = type_or_narrowing s own (attributes s (Some own))

abbrev pub field_line_faults : List Field → Specification → List DdsFault
field_line_faults base s = field_entry_faults false s ++ made_faults base s ++ file_number_faults s

-- the name, if there is one, is no physical file's
abbrev pub is_missing_base : (List ℕ → Option PhysicalSpec) → Option (List ℕ) → Bool
is_missing_base bases None = false
is_missing_base bases (Some file) = is_none (bases file)

-- a format by its line and the lines behind it
abbrev pub format_with : Specification → List Specification → FormatLines
format_with s body = record { head = s; body = body }

-- it begins no format
unfoldable pub stands_within : Specification → Bool
stands_within s = not (is_record s.kind)

-- the line is one of the kind, and no more may come
unfoldable pub is_beyond : LineKind → Specification → (left : ℕ) → Bool
is_beyond kind s left = is_of kind s.kind && (left == 0)

-- of so many lines of the kind that may come, how many may come behind this one
unfoldable pub left_behind : LineKind → Specification → (left : ℕ) → ℕ
left_behind kind s left = if is_of kind s.kind then left - 1 else left

-- What is wrong with the lines of a physical file, and what they describe.
-- (DDS for Physical and Logical Files, "Positional entries for physical and logical files".)
use Rattle.std.specs.Prelude.{ℕ, Bool, true, false, not, ◌||◌, ◌==◌, nat_lt, List, [], ◌∷◌, ◌++◌, length, Option, Some, None, is_some, is_none, Result, Ok, Err, if◌then◌else◌}
use Rattle.field_types.specs.declared.kinds.FieldType.{FieldType}
use Rattle.record_fmt.specs.declared.formats.Format.{Format}
use Rattle.record_fmt.specs.declared.formats.TheConstants.{MOST_FIELDS}
use Rattle.record_fmt.specs.Layout.{record_length}
use Rattle.dds_source.specs.declared.faults.DdsFault.{DdsFault}
use Rattle.dds_source.specs.declared.faults.DdsCause.TheVariants.{BadName, OutOfOrder, DuplicateName, BadType, NoSuchField, TooLarge}
use Rattle.dds_source.specs.declared.keywords.Keyword.{Keyword}
use Rattle.dds_source.specs.declared.specifications.NameEntry.{NameEntry}
use Rattle.dds_source.specs.declared.specifications.NameEntry.TheVariants as names
use Rattle.dds_source.specs.declared.specifications.Specification.{Specification}
use Rattle.dds_source.specs.declared.specifications.SpecificationKind.{SpecificationKind}
use Rattle.dds_source.specs.declared.specifications.SpecificationKind.TheVariants as kinds
use Rattle.dds_source.specs.Entries.{when}
use Rattle.dds_physical.specs.declared.draft.Draft.{Draft}
use Rattle.dds_physical.specs.declared.draft.TheConstants.{MOST_KEY_FIELDS}
use Rattle.dds_physical.specs.declared.keyword_names.Place.TheVariants as places
use Rattle.dds_physical.specs.Places.{fault_at}
use Rattle.dds_physical.specs.Names.{name_of, field_named, is_field, is_listed}
use Rattle.dds_physical.specs.KeywordRules.{keyword_faults}
use Rattle.dds_physical.specs.Attributes.{kind_by_letter}
use Rattle.dds_physical.specs.References.{typed, reference_faults}
use Rattle.dds_physical.specs.Defaults.{default_of, default_faults, text_of}
use Rattle.dds_physical.specs.Draft.{key_part}

-- Every line.

-- another letter than a data type's
abbrev pub is_letter_wrong : Option ℕ → Bool
is_letter_wrong None = false
is_letter_wrong (Some letter) = is_none (kind_by_letter letter)

-- another letter than B
abbrev pub is_usage_wrong : Option ℕ → Bool
is_usage_wrong None = false
is_usage_wrong (Some usage) = not (usage == 66)

-- BadType: in 35, and in 38
abbrev pub entry_faults : Specification → List DdsFault
entry_faults s =
    when (is_letter_wrong s.columns.data_type) (fault_at s 35 BadType)
    ++ when (is_usage_wrong s.columns.usage) (fault_at s 38 BadType)

-- The record format.

-- OutOfOrder: a second one
abbrev pub record_faults : Draft → Specification → List DdsFault
record_faults d s =
    when (is_some d.name) (fault_at s 17 OutOfOrder)
    ++ when (is_none (name_of s.name)) (fault_at s 19 BadName)
    ++ entry_faults s
    ++ keyword_faults places.Record s.keywords

-- Fields.

-- OutOfOrder: before the record format, or behind a key field. DuplicateName: an earlier field has the name.
abbrev pub place_faults : Draft → Specification → List DdsFault
place_faults d s =
    when (is_none d.name || not (length d.key_names == 0)) (fault_at s 19 OutOfOrder)
    ++ when (is_none (name_of s.name)) (fault_at s 19 BadName)
    ++ when (is_field (name_of s.name) d.fields) (fault_at s 19 DuplicateName)

-- why there is no type, or a default that it refuses
abbrev pub type_faults : Result FieldType DdsFault → List Keyword → List DdsFault
type_faults (Ok t) ks = default_faults t ks
type_faults (Err fault) ks = fault ∷ []

-- TooLarge: more fields than a format has
abbrev pub field_faults : (List ℕ → Option Format) → Option (List ℕ) → Draft → Specification → List DdsFault
field_faults formats file d s =
    place_faults d s
    ++ entry_faults s
    ++ keyword_faults places.Field s.keywords
    ++ reference_faults formats file d.fields s
    ++ type_faults (typed formats file d.fields s) s.keywords
    ++ when (not (nat_lt (length d.fields) MOST_FIELDS)) (fault_at s 19 TooLarge)

abbrev pub with_named_field : Draft → Option (List ℕ) → Result FieldType DdsFault → List Keyword → Draft
with_named_field d None typed ks = d
with_named_field d (Some name) (Err fault) ks = d
with_named_field d (Some name) (Ok t) ks =
    record d { fields = d.fields ++ record { name = name; ty = t; offset = record_length d.fields; default = default_of t.kind ks; text = text_of ks } ∷ [] }

-- behind the others, where there is room for it
abbrev pub with_field : Draft → Option (List ℕ) → Result FieldType DdsFault → List Keyword → Draft
with_field d name typed ks = if not (nat_lt (length d.fields) MOST_FIELDS) then d else with_named_field d name typed ks

-- Key fields.

-- no name, and not *NONE
abbrev pub is_blank : NameEntry → Bool
is_blank names.Blank = true
is_blank (names.Named name) = false
is_blank names.StarNone = false

-- OutOfOrder: before the record format. DuplicateName: an earlier key field has the name. NoSuchField: no field before it has it.
abbrev pub key_place_faults : Draft → Specification → List DdsFault
key_place_faults d s =
    when (is_none d.name) (fault_at s 17 OutOfOrder)
    ++ when (is_blank s.name) (fault_at s 19 BadName)
    ++ when (is_listed (name_of s.name) d.key_names) (fault_at s 19 DuplicateName)
    ++ when (not (is_field (name_of s.name) d.fields)) (fault_at s 19 NoSuchField)

-- TooLarge: more key fields than a key has
abbrev pub key_faults : Draft → Specification → List DdsFault
key_faults d s =
    key_place_faults d s
    ++ entry_faults s
    ++ keyword_faults places.Key s.keywords
    ++ when (not (nat_lt (length d.key_names) MOST_KEY_FIELDS)) (fault_at s 19 TooLarge)

abbrev pub with_key : Draft → Option (List ℕ) → List Keyword → Draft
with_key d None ks = d
with_key d (Some name) ks = record d { key_names = d.key_names ++ name ∷ []; key_parts = d.key_parts ++ key_part (field_named name d.fields) ks ∷ [] }

-- Lines.

-- by position 17; OutOfOrder: a select, an omit or a join
abbrev pub line_faults_of : (List ℕ → Option Format) → Option (List ℕ) → Draft → Specification → SpecificationKind → List DdsFault
line_faults_of formats file d s kinds.Record = record_faults d s
line_faults_of formats file d s kinds.Field = field_faults formats file d s
line_faults_of formats file d s kinds.Key = key_faults d s
line_faults_of formats file d s kinds.Select = fault_at s 17 OutOfOrder ∷ []
line_faults_of formats file d s kinds.Omit = fault_at s 17 OutOfOrder ∷ []
line_faults_of formats file d s kinds.And = fault_at s 17 OutOfOrder ∷ []
line_faults_of formats file d s kinds.Join = fault_at s 17 OutOfOrder ∷ []

-- what is wrong with a line, behind what the draft has
unfoldable pub line_faults : (List ℕ → Option Format) → Option (List ℕ) → Draft → Specification → List DdsFault
line_faults formats file d s = line_faults_of formats file d s s.kind

abbrev pub described_of : (List ℕ → Option Format) → Option (List ℕ) → Draft → Specification → SpecificationKind → Draft
described_of formats file d s kinds.Record = record d { name = name_of s.name }
described_of formats file d s kinds.Field = with_field d (name_of s.name) (typed formats file d.fields s) s.keywords
described_of formats file d s kinds.Key = with_key d (name_of s.name) s.keywords
described_of formats file d s kinds.Select = d
described_of formats file d s kinds.Omit = d
described_of formats file d s kinds.And = d
described_of formats file d s kinds.Join = d

-- the draft with what a line describes
unfoldable pub described : (List ℕ → Option Format) → Option (List ℕ) → Draft → Specification → Draft
described formats file d s = described_of formats file d s s.kind

-- the faults of one line, or where it has none those of what follows
abbrev pub or_those : List DdsFault → List DdsFault → List DdsFault
or_those [] more = more
or_those (f ∷ fs) more = f ∷ fs

-- with what follows, unless there are faults
abbrev pub unless_faulty : List DdsFault → Draft → Draft → Draft
unless_faulty [] here behind = behind
unless_faulty (f ∷ fs) here behind = here

-- what is wrong with the first line that is at fault: the lines behind it come later, and aren't judged
abbrev pub lines_faults : (List ℕ → Option Format) → Option (List ℕ) → Draft → List Specification → List DdsFault
lines_faults formats file d [] = []
lines_faults formats file d (s ∷ ss) = or_those (line_faults formats file d s) (lines_faults formats file (described formats file d s) ss)

-- what the lines up to it describe, and it with them
abbrev pub lines_described : (List ℕ → Option Format) → Option (List ℕ) → Draft → List Specification → Draft
lines_described formats file d [] = d
lines_described formats file d (s ∷ ss) = unless_faulty (line_faults formats file d s) (described formats file d s) (lines_described formats file (described formats file d s) ss)

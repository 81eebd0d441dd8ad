-- What are the fields of a logical format, and what is wrong with their lines? (DDS for Physical and Logical Files, "Length",
-- "Data type", "Decimal positions" and "Usage" of logical files.)
use Rattle.std.specs.Prelude.{ℕ, ◌+◌, ◌-◌, Bool, true, false, not, ◌&&◌, ◌||◌, ◌==◌, nat_lt, List, [], ◌∷◌, ◌++◌, drop, map, flat_map, Option, Some, None, is_some, is_none, Result, Ok, Err, if◌then◌else◌, codes}
use Rattle.std.specs.List.{filter_map}
use Rattle.field_types.specs.declared.kinds.Kind.{Kind}
use Rattle.field_types.specs.declared.kinds.Kind.TheVariants.{Char, Zoned, Packed, Binary, Date, Time, Stamp}
use Rattle.field_types.specs.declared.kinds.FieldType.{FieldType}
use Rattle.record_fmt.specs.FieldTypes.{width, is_numeric}
use Rattle.record_fmt.specs.declared.formats.Field.{Field}
use Rattle.record_fmt.specs.declared.formats.TheConstants.{MOST_FIELDS}
use Rattle.dds_physical.below.dds_source.specs.declared.faults.DdsFault.{DdsFault}
use Rattle.dds_physical.below.dds_source.specs.declared.faults.DdsCause.TheVariants.{BadName, DuplicateName, BadType, BadArguments, UnknownReference, TooLarge, ReadOnlyMapping, Narrowing}
use Rattle.dds_physical.below.dds_source.specs.declared.specifications.Specification.{Specification}
use Rattle.dds_physical.specs.Entries.{when}
use Rattle.dds_physical.specs.Places.{fault_at, at_keyword}
use Rattle.dds_physical.specs.Names.{name_of, is_listed}
use Rattle.dds_physical.specs.Keywords.{first_named}
use Rattle.dds_physical.specs.Attributes.{attributes}
use Rattle.dds_physical.specs.Defaults.{unspecified, text_of}
use Rattle.dds_physical.specs.Lines.{is_letter_wrong}
use Rattle.file_model.specs.declared.views.FieldSource.{FieldSource}
use Rattle.file_model.specs.declared.views.FieldSource.TheVariants.{Copied, Converted, Concatenated, Substring}
use Rattle.file_model.specs.declared.views.ViewField.{ViewField}
use Rattle.file_model.specs.declared.views.LogicalField.{LogicalField}
use Rattle.dds_logical.specs.declared.named_fields.NamedField.{NamedField}
use Rattle.dds_logical.specs.declared.keyword_places.KeywordPlace.TheVariants as places
use Rattle.dds_logical.specs.KeywordRules.{logical_keyword_faults}
use Rattle.dds_logical.specs.Origins.{Origin, origin, origin_faults, is_substring}

-- ---- the type

abbrev pub kind_letter : Kind → ℕ
kind_letter Char = 65
kind_letter Zoned = 83
kind_letter Packed = 80
kind_letter Binary = 66
kind_letter Date = 76
kind_letter Time = 84
kind_letter Stamp = 90

abbrev pub is_same_type : FieldType → FieldType → Bool
is_same_type a b = (kind_letter a.kind == kind_letter b.kind) && (a.length == b.length) && (a.decimals == b.decimals)

-- both are numbers, or both are characters, dates, times or timestamps
abbrev pub are_alike : FieldType → FieldType → Bool
are_alike a b = if is_numeric a.kind then is_numeric b.kind else (kind_letter a.kind == kind_letter b.kind)

-- a field of another type than what it is made of shows the same value at its own type
abbrev pub source_at : FieldType → Origin → FieldSource → FieldSource
source_at t o (Copied offset) = if is_same_type t o.own_type then Copied offset else Converted o.own_type offset
source_at t o (Converted from offset) = Converted from offset
source_at t o (Concatenated pieces) = Concatenated pieces
source_at t o (Substring piece) = Substring piece

abbrev pub view_field : FieldType → Origin → ViewField
view_field t o = record { ty = t; source = source_at t o o.source }

-- Narrowing: another kind than that of what it is made of, at 35
abbrev pub narrows_kind : FieldType → FieldType → Bool
narrows_kind t base = not (are_alike t base)

-- Narrowing: fewer decimal positions, at 36
abbrev pub narrows_decimals : FieldType → FieldType → Bool
narrows_decimals t base = are_alike t base && nat_lt t.decimals base.decimals

-- Narrowing: fewer digits before the point, or a shorter text: at 30, or at 36 where decimals alone make them fewer
abbrev pub narrows_length : FieldType → FieldType → Bool
narrows_length t base = are_alike t base && nat_lt (t.length - t.decimals) (base.length - base.decimals)

abbrev pub length_column : Specification → ℕ
length_column s = if is_some s.columns.length then 30 else 36

abbrev pub narrowing_faults : Specification → FieldType → FieldType → List DdsFault
narrowing_faults s t base =
    when (narrows_kind t base) (fault_at s 35 Narrowing)
    ++ when (narrows_decimals t base) (fault_at s 36 Narrowing)
    ++ when (narrows_length t base) (fault_at s (length_column s) Narrowing)

abbrev pub typed_faults : Specification → Origin → Result FieldType DdsFault → List DdsFault
typed_faults s o (Ok t) = narrowing_faults s t o.own_type
typed_faults s o (Err fault) = fault ∷ []

-- BadLength, BadDecimals, BadType as in a physical file that refers to what the field is made of; Narrowing
abbrev pub type_faults_over : Specification → Option Origin → List DdsFault
type_faults_over s None = []
type_faults_over s (Some o) = typed_faults s o (attributes s (Some o.own_type))

-- ---- usage

-- B may stand in each file, I in logical files, N in join files
abbrev pub is_usage : (is_join : Bool) → Option ℕ → Bool
is_usage is_join None = true
is_usage is_join (Some usage) = (usage == 66) || (usage == 73) || (is_join && (usage == 78))

-- I or N
abbrev pub says_read_only : Option ℕ → Bool
says_read_only None = false
says_read_only (Some usage) = (usage == 73) || (usage == 78)

abbrev pub says_both : Option ℕ → Bool
says_both None = false
says_both (Some usage) = usage == 66

-- BadType: another letter in 35 than a data type's, in 38 than a usage's
abbrev pub letter_faults : (is_join : Bool) → Specification → List DdsFault
letter_faults is_join s =
    when (is_letter_wrong s.columns.data_type) (fault_at s 35 BadType)
    ++ when (not (is_usage is_join s.columns.usage)) (fault_at s 38 BadType)

-- a field of a join file, or part of a field
abbrev pub is_read_only_mapping : (is_join : Bool) → Specification → Bool
is_read_only_mapping is_join s = is_join || is_substring s

-- ReadOnlyMapping: usage both on such a field
abbrev pub usage_faults : (is_join : Bool) → Specification → List DdsFault
usage_faults is_join s = when (is_read_only_mapping is_join s && says_both s.columns.usage) (fault_at s 38 ReadOnlyMapping)

-- ---- lines

abbrev pub with_name : List (List ℕ) → Option (List ℕ) → List (List ℕ)
with_name names None = names
with_name names (Some name) = name ∷ names

-- DuplicateName: a line before it has the name
abbrev pub names_twice : List (List ℕ) → List Specification → List DdsFault
names_twice earlier [] = []
names_twice earlier (s ∷ ss) = when (is_listed (name_of s.name) earlier) (fault_at s 19 DuplicateName) ++ names_twice (with_name earlier (name_of s.name)) ss

-- UnknownReference: R in 29
abbrev pub reference_column_faults : Specification → List DdsFault
reference_column_faults s = when s.columns.reference (fault_at s 29 UnknownReference)

-- what is wrong with the entries and keywords of a field's line
abbrev pub field_entry_faults : (is_join : Bool) → Specification → List DdsFault
field_entry_faults is_join s =
    when (is_none (name_of s.name)) (fault_at s 19 BadName)
    ++ reference_column_faults s
    ++ usage_faults is_join s
    ++ logical_keyword_faults is_join places.Field s.keywords

-- what is wrong with what it is made of, over the fields of a file, and with its type; where it is made of nothing, no type is judged
abbrev pub made_faults : List Field → Specification → List DdsFault
made_faults base s = origin_faults base s ++ type_faults_over s (origin base s)

-- BadArguments: JREF outside a join file
abbrev pub file_number_faults : Specification → List DdsFault
file_number_faults s = at_keyword BadArguments (first_named (codes "JREF") s.keywords)

abbrev pub first_too_many : List Specification → List DdsFault
first_too_many [] = []
first_too_many (s ∷ ss) = fault_at s 19 TooLarge ∷ []

-- TooLarge: more than a format has, at the first that is too many
abbrev pub too_many_faults : (most : ℕ) → List Specification → List DdsFault
too_many_faults most ss = first_too_many (drop most ss)

-- the fields of a format that isn't a join's
abbrev pub field_lines_faults : List Field → List Specification → List DdsFault
field_lines_faults base ss =
    names_twice [] ss
    ++ too_many_faults MOST_FIELDS ss
    ++ flat_map (λ s. field_entry_faults false s ++ made_faults base s ++ file_number_faults s) ss

-- ---- what they describe

abbrev pub typed_field : Specification → Origin → Option (List ℕ) → Result FieldType DdsFault → (read_only : Bool) → Option NamedField
typed_field s o None typed read_only = None
typed_field s o (Some name) (Err fault) read_only = None
typed_field s o (Some name) (Ok t) read_only =
    Some (record { name = name; text = text_of s.keywords; shown = record { field = view_field t o; read_only = read_only } })

abbrev pub field_over : (is_join : Bool) → Specification → Option Origin → Option NamedField
field_over is_join s None = None
field_over is_join s (Some o) = typed_field s o (name_of s.name) (attributes s (Some o.own_type)) (is_read_only_mapping is_join s || says_read_only s.columns.usage)

-- the field of a line over the fields of a file
abbrev pub field_of_line : (is_join : Bool) → List Field → Specification → Option NamedField
field_of_line is_join base s = field_over is_join s (origin base s)

-- a field of the base file as it is
abbrev pub field_as_it_is : Field → NamedField
field_as_it_is f = record { name = f.name; text = f.text; shown = record { field = record { ty = f.ty; source = Copied f.offset }; read_only = false } }

-- those of the lines, or without lines all of the base file
abbrev pub named_fields : List Field → List Specification → List NamedField
named_fields base [] = map field_as_it_is base
named_fields base (s ∷ ss) = filter_map (field_of_line false base) (s ∷ ss)

-- one behind the other, from a byte on
abbrev pub laid_out : ℕ → List NamedField → List Field
laid_out at [] = []
laid_out at (f ∷ fs) =
    record { name = f.name; ty = f.shown.field.ty; offset = at; default = unspecified f.shown.field.ty.kind; text = f.text }
    ∷ laid_out (at + width f.shown.field.ty) fs

abbrev pub mapping_of : List NamedField → List LogicalField
mapping_of fields = map (λ f. f.shown) fields

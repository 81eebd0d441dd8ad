-- What does the body's account of what a field is made of mean? (Our own.)
use Rattle.std.specs.Prelude.{ℕ, ◌≤◌, ◌+◌, ◌-◌, Bool, true, false, is_none, ◌||◌, List, [], ◌∷◌, Option, Some, None, if◌then◌else◌, codes}
use Rattle.field_types.specs.declared.kinds.FieldType.{FieldType}
use Rattle.record_fmt.specs.declared.formats.Field.{Field}
use Rattle.record_fmt.specs.declared.formats.TheConstants.{MOST_BYTES}
use Rattle.dds_physical.below.dds_source.specs.declared.arguments.Argument.{Argument}
use Rattle.dds_physical.below.dds_source.specs.declared.keywords.Keyword.{Keyword}
use Rattle.dds_physical.specs.Keywords.{is_there}
use Rattle.file_model.specs.declared.views.FieldSource.TheVariants.{Copied, Concatenated, Substring}
use Rattle.file_model.specs.Views.{character, pieces_length}
use Rattle.dds_logical.specs.declared.origins.MadeOf.{MadeOf}
use Rattle.dds_logical.specs.declared.origins.MadeOf.TheVariants as made
use Rattle.dds_logical.specs.declared.origins.OwnType.{OwnType}
use Rattle.dds_logical.specs.declared.parts.Part.{Part}
use Rattle.dds_logical.specs.KeywordArguments.{names_among}
use Rattle.dds_logical.specs.Origins.{Origin, lacks_one, fields_of_names, is_character, concatenated, substring_of, first_copied, part_origin, if_within, part_said}

abbrev pub type_of : OwnType → FieldType
type_of t = record { kind = t.kind; length = t.length; decimals = t.decimals }

abbrev pub made_by : MadeOf → Origin
made_by (made.Whole t offset) = record { own_type = t; source = Copied offset }
made_by (made.Pieces pieces) = record { own_type = character (pieces_length pieces); source = Concatenated pieces }
made_by (made.Part piece) = record { own_type = character piece.length; source = Substring piece }

abbrev pub first_of : List Field → Option Field
first_of [] = None
first_of (f ∷ fs) = Some f

abbrev pub is_text_or_none : Option Field → Bool
is_text_or_none None = true
is_text_or_none (Some f) = is_character f.ty.kind

-- a keyword tells what it is made of
abbrev pub names_another : List Keyword → Bool
names_another ks = is_there (codes "CONCAT") ks || is_there (codes "SST") ks || is_there (codes "RENAME") ks

-- by CONCAT, by SST, and by a name
abbrev pub origin_by_concat : List Field → List (List ℕ) → Option Origin
origin_by_concat base names = if lacks_one base names then None else concatenated (fields_of_names base names)

abbrev pub origin_by_part : List Field → List Argument → Option Origin
origin_by_part base args = if lacks_one base (names_among args) then None else substring_of args (fields_of_names base (names_among args))

abbrev pub origin_by_name : List Field → List (List ℕ) → Option Origin
origin_by_name base names = if lacks_one base names then None else first_copied (fields_of_names base names)

-- by the first of the fields that are named
abbrev pub part_by : List Argument → Option Field → Option Origin
part_by args None = None
part_by args (Some f) = if is_character f.ty.kind then part_origin f (if_within f.ty.length (part_said f.ty.length args)) else None

abbrev pub is_outside_of : List Argument → Option Field → Bool
is_outside_of args None = false
is_outside_of args (Some f) = is_none (if_within f.ty.length (part_said f.ty.length args))

abbrev pub or_first : Option Field → Option Field → Option Field
or_first None other = other
or_first (Some f) other = Some f

-- part of a field that begins there
abbrev pub part_at : (offset : ℕ) → Part → Origin
part_at offset p = record { own_type = character p.size; source = Substring (record { offset = offset + p.start - 1; length = p.size }) }

-- it begins within a record, if it is there
abbrev pub IsLow : Option Field → Type 0
IsLow None = Unit {0}
IsLow (Some f) = f.offset ≤ MOST_BYTES

-- What is a field of a logical format made of? (DDS for Physical and Logical Files, RENAME, CONCAT, SST. That CONCAT counts
-- before SST, and SST before RENAME, is this project's own.)
use Rattle.std.specs.Prelude.{ℕ, ◌+◌, ◌-◌, Bool, true, false, not, ◌&&◌, ◌||◌, nat_le, List, [], ◌∷◌, ◌++◌, map, Option, Some, None, is_some, is_none, if◌then◌else◌, codes}
use Rattle.std.specs.List.{filter_map, list_all}
use Rattle.field_types.specs.declared.kinds.Kind.{Kind}
use Rattle.field_types.specs.declared.kinds.Kind.TheVariants.{Char, Zoned, Packed, Binary, Date, Time, Stamp}
use Rattle.field_types.specs.declared.kinds.FieldType.{FieldType}
use Rattle.record_fmt.specs.declared.formats.Field.{Field}
use Rattle.dds_physical.below.dds_source.specs.declared.arguments.Argument.{Argument}
use Rattle.dds_physical.below.dds_source.specs.declared.faults.DdsFault.{DdsFault}
use Rattle.dds_physical.below.dds_source.specs.declared.faults.DdsCause.TheVariants.{BadArguments, NoBaseField}
use Rattle.dds_physical.below.dds_source.specs.declared.keywords.Keyword.{Keyword}
use Rattle.dds_physical.below.dds_source.specs.declared.specifications.Specification.{Specification}
use Rattle.dds_physical.specs.Entries.{when}
use Rattle.dds_physical.specs.Places.{fault_at, fault_of_keyword}
use Rattle.dds_physical.specs.Names.{name_of, field_named}
use Rattle.dds_physical.specs.Keywords.{first_named, is_there, arguments_of}
use Rattle.file_model.specs.declared.views.Piece.{Piece}
use Rattle.file_model.specs.declared.views.FieldSource.{FieldSource}
use Rattle.file_model.specs.declared.views.FieldSource.TheVariants.{Copied, Concatenated, Substring}
use Rattle.file_model.specs.Views.{character, pieces_length}
use Rattle.dds_logical.specs.declared.parts.Part.{Part}
use Rattle.dds_logical.specs.KeywordArguments.{names_among, whole_number}

-- what a field is made of, with the type that it has there
pub record Origin : Type 0 where
  pub own_type : FieldType
  pub source : FieldSource

-- ---- the fields that are named

abbrev pub keyword_names : Option Keyword → List (List ℕ)
keyword_names None = []
keyword_names (Some k) = names_among (arguments_of k)

abbrev pub own_name : Option (List ℕ) → List (List ℕ)
own_name None = []
own_name (Some name) = name ∷ []

-- those of CONCAT, else of SST, else of RENAME, else the field's own name
abbrev pub origin_names : Specification → List (List ℕ)
origin_names s =
    if is_there (codes "CONCAT") s.keywords then keyword_names (first_named (codes "CONCAT") s.keywords)
    else (if is_there (codes "SST") s.keywords then keyword_names (first_named (codes "SST") s.keywords)
    else (if is_there (codes "RENAME") s.keywords then keyword_names (first_named (codes "RENAME") s.keywords)
    else own_name (name_of s.name)))

-- the fields of these names that are there
abbrev pub fields_of_names : List Field → List (List ℕ) → List Field
fields_of_names base names = filter_map (λ name. field_named name base) names

-- a name that no field has
abbrev pub lacks_one : List Field → List (List ℕ) → Bool
lacks_one base names = not (list_all (λ name. is_some (field_named name base)) names)

abbrev pub is_character : Kind → Bool
is_character Char = true
is_character Zoned = false
is_character Packed = false
is_character Binary = false
is_character Date = false
is_character Time = false
is_character Stamp = false

abbrev pub are_characters : List Field → Bool
are_characters fields = list_all (λ f. is_character f.ty.kind) fields

-- ---- parts of a field

-- without a length it goes to the end of the field
abbrev pub part_to_end : (field_length : ℕ) → Option ℕ → Option Part
part_to_end field_length None = None
part_to_end field_length (Some start) = Some (record { start = start; size = field_length + 1 - start })

abbrev pub part_of_size : Option ℕ → Option ℕ → Option Part
part_of_size None size = None
part_of_size (Some start) None = None
part_of_size (Some start) (Some size) = Some (record { start = start; size = size })

-- what SST says
abbrev pub part_said : (field_length : ℕ) → List Argument → Option Part
part_said field_length [] = None
part_said field_length (a ∷ []) = None
part_said field_length (a ∷ b ∷ []) = part_to_end field_length (whole_number b)
part_said field_length (a ∷ b ∷ c ∷ more) = part_of_size (whole_number b) (whole_number c)

-- it has a character, and begins and ends within the field
abbrev pub lies_within : (field_length : ℕ) → Part → Bool
lies_within field_length p = nat_le 1 p.start && nat_le 1 p.size && nat_le (p.start + p.size) (field_length + 1)

abbrev pub if_within : (field_length : ℕ) → Option Part → Option Part
if_within field_length None = None
if_within field_length (Some p) = if lies_within field_length p then Some p else None

-- ---- what a field is made of

abbrev pub copied_from : Option Field → Option Origin
copied_from None = None
copied_from (Some f) = Some (record { own_type = f.ty; source = Copied f.offset })

abbrev pub first_copied : List Field → Option Origin
first_copied [] = None
first_copied (f ∷ fs) = copied_from (Some f)

-- fields one after another
abbrev pub whole_field : Field → Piece
whole_field f = record { offset = f.offset; length = f.ty.length }

abbrev pub concatenated : List Field → Option Origin
concatenated fields =
    if are_characters fields then Some (record { own_type = character (pieces_length (map whole_field fields)); source = Concatenated (map whole_field fields) }) else None

-- part of a field
abbrev pub part_origin : Field → Option Part → Option Origin
part_origin f None = None
part_origin f (Some p) = Some (record { own_type = character p.size; source = Substring (record { offset = f.offset + p.start - 1; length = p.size }) })

abbrev pub substring_of : List Argument → List Field → Option Origin
substring_of args [] = None
substring_of args (f ∷ fs) = if is_character f.ty.kind then part_origin f (if_within f.ty.length (part_said f.ty.length args)) else None

abbrev pub arguments_said : Option Keyword → List Argument
arguments_said None = []
arguments_said (Some k) = arguments_of k

-- by CONCAT, else by SST, else the field that RENAME names, else that of the same name
abbrev pub made_of : Specification → List Field → Option Origin
made_of s fields =
    if is_there (codes "CONCAT") s.keywords then concatenated fields
    else (if is_there (codes "SST") s.keywords then substring_of (arguments_said (first_named (codes "SST") s.keywords)) fields
    else first_copied fields)

-- what a line's field is made of, where the base file has what it names and it may be made so
abbrev pub origin : List Field → Specification → Option Origin
origin base s = if lacks_one base (origin_names s) then None else made_of s (fields_of_names base (origin_names s))

-- it takes no value: part of a field
abbrev pub is_substring : Specification → Bool
is_substring s = is_there (codes "SST") s.keywords && not (is_there (codes "CONCAT") s.keywords)

-- ---- what is wrong with it

-- NoBaseField: a field that a keyword names isn't there
abbrev pub missing_faults : List Field → Option Keyword → List DdsFault
missing_faults base None = []
missing_faults base (Some k) = when (lacks_one base (names_among (arguments_of k))) (fault_of_keyword NoBaseField k)

-- NoBaseField: nothing is named, and the base has no field of the line's name
abbrev pub own_name_faults : List Field → Specification → List DdsFault
own_name_faults base s =
    when (not (is_there (codes "CONCAT") s.keywords || is_there (codes "SST") s.keywords || is_there (codes "RENAME") s.keywords)
    && lacks_one base (own_name (name_of s.name))) (fault_at s 19 NoBaseField)

-- BadArguments: CONCAT or SST of a field that is no character field
abbrev pub character_faults : List Field → Option Keyword → List DdsFault
character_faults base None = []
character_faults base (Some k) = when (not (are_characters (fields_of_names base (names_among (arguments_of k))))) (fault_of_keyword BadArguments k)

-- BadArguments: SST of what isn't within the field
abbrev pub is_part_outside : List Argument → List Field → Bool
is_part_outside args [] = false
is_part_outside args (f ∷ fs) = is_none (if_within f.ty.length (part_said f.ty.length args))

abbrev pub part_faults : List Field → Option Keyword → List DdsFault
part_faults base None = []
part_faults base (Some k) = when (is_part_outside (arguments_of k) (fields_of_names base (names_among (arguments_of k)))) (fault_of_keyword BadArguments k)

abbrev pub origin_faults : List Field → Specification → List DdsFault
origin_faults base s =
    own_name_faults base s
    ++ missing_faults base (first_named (codes "CONCAT") s.keywords)
    ++ missing_faults base (first_named (codes "SST") s.keywords)
    ++ missing_faults base (first_named (codes "RENAME") s.keywords)
    ++ character_faults base (first_named (codes "CONCAT") s.keywords)
    ++ character_faults base (first_named (codes "SST") s.keywords)
    ++ part_faults base (first_named (codes "SST") s.keywords)

-- References to other fields: REF, REFFLD, and R in position 29.
-- (DDS for Physical and Logical Files, "Reference", position 29; REF; REFFLD.)
use Rattle.std.specs.Prelude.{ℕ, Bool, true, false, not, ◌&&◌, ◌||◌, nat_eq, List, [], ◌∷◌, Option, Some, None, Result, Ok, Err, if◌then◌else◌, codes}
use lib.Pointwise.{pointwise}
use Rattle.field_types.specs.declared.kinds.FieldType.{FieldType}
use Rattle.record_fmt.specs.declared.formats.Field.{Field}
use Rattle.record_fmt.specs.declared.formats.Format.{Format}
use Rattle.dds_source.specs.declared.arguments.Argument.{Argument}
use Rattle.dds_source.specs.declared.keywords.Keyword.{Keyword}
use Rattle.dds_source.specs.declared.faults.DdsFault.{DdsFault}
use Rattle.dds_source.specs.declared.faults.DdsCause.{DdsCause}
use Rattle.dds_source.specs.declared.faults.DdsCause.TheVariants.{NoSuchField, UnknownReference}
use Rattle.dds_source.specs.declared.specifications.Source.{Source}
use Rattle.dds_source.specs.declared.specifications.Specification.{Specification}
use Rattle.dds_physical.specs.Places.{fault_at, fault_of_keyword, error_list}
use Rattle.dds_physical.specs.Names.{name_of, field_named}
use Rattle.dds_physical.specs.Keywords.{first_named, is_there, arguments_of}
use Rattle.dds_physical.specs.KeywordRules.{argument_name, is_special}
use Rattle.dds_physical.specs.Attributes.{attributes}

-- What is named.

abbrev pub type_of_field : Option Field → Option FieldType
type_of_field None = None
type_of_field (Some f) = Some f.ty

-- the type of the field of a name
abbrev pub type_in : List ℕ → List Field → Option FieldType
type_in name fields = type_of_field (field_named name fields)

abbrev pub type_in_format : List ℕ → Option Format → Option FieldType
type_in_format field None = None
type_in_format field (Some format) = type_in field format.fields

-- the type of a field of a physical file, where both are named and there
abbrev pub type_in_file : (List ℕ → Option Format) → Option (List ℕ) → Option (List ℕ) → Option FieldType
type_in_file formats None field = None
type_in_file formats (Some file) None = None
type_in_file formats (Some file) (Some field) = type_in_format field (formats file)

-- the type of an earlier field of the same source
abbrev pub own_type : Option (List ℕ) → List Field → Option FieldType
own_type None own = None
own_type (Some field) own = type_in field own

-- REFFLD(field): of the file that REF names. REFFLD(field file): of that file. REFFLD(field *SRC): an earlier field of the same source.
abbrev pub reference_type : (List ℕ → Option Format) → Option (List ℕ) → List Field → List Argument → Option FieldType
reference_type formats file own [] = None
reference_type formats file own (a ∷ []) = type_in_file formats file (argument_name a)
reference_type formats file own (a ∷ b ∷ []) = if is_special (codes "*SRC") b then own_type (argument_name a) own else type_in_file formats (argument_name b) (argument_name a)
reference_type formats file own (a ∷ b ∷ c ∷ more) = None

-- NoSuchField: *SRC, and no earlier field. UnknownReference: no such file, or no such field in it.
abbrev pub reference_cause : List Argument → DdsCause
reference_cause [] = UnknownReference
reference_cause (a ∷ []) = UnknownReference
reference_cause (a ∷ b ∷ []) = if is_special (codes "*SRC") b then NoSuchField else UnknownReference
reference_cause (a ∷ b ∷ c ∷ more) = UnknownReference

abbrev pub found_or : Option FieldType → DdsFault → Result FieldType DdsFault
found_or None fault = Err fault
found_or (Some t) fault = Ok t

-- by REFFLD, or without it the field of the same name in the file that REF names
abbrev pub referenced_by : (List ℕ → Option Format) → Option (List ℕ) → List Field → Specification → Option Keyword → Result FieldType DdsFault
referenced_by formats file own s None = found_or (type_in_file formats file (name_of s.name)) (fault_at s 29 UnknownReference)
referenced_by formats file own s (Some k) = found_or (reference_type formats file own (arguments_of k)) (fault_of_keyword (reference_cause (arguments_of k)) k)

-- the type of the field that a line refers to, or that it isn't there
abbrev pub referenced : (List ℕ → Option Format) → Option (List ℕ) → List Field → Specification → Result FieldType DdsFault
referenced formats file own s = referenced_by formats file own s (first_named (codes "REFFLD") s.keywords)

-- The type of a field.

abbrev pub typed_by : Specification → Result FieldType DdsFault → Result FieldType DdsFault
typed_by s (Ok t) = attributes s (Some t)
typed_by s (Err fault) = Err fault

-- with R in 29 its line changes what it refers to, else its line alone says it
abbrev pub typed : (List ℕ → Option Format) → Option (List ℕ) → List Field → Specification → Result FieldType DdsFault
typed formats file own s = if s.columns.reference then typed_by s (referenced formats file own s) else attributes s None

-- REFFLD without R in 29 copies nothing
abbrev pub names_more : Specification → Bool
names_more s = not s.columns.reference && is_there (codes "REFFLD") s.keywords

-- and what it names has to be there all the same
abbrev pub reference_faults : (List ℕ → Option Format) → Option (List ℕ) → List Field → Specification → List DdsFault
reference_faults formats file own s = if names_more s then error_list (referenced formats file own s) else []

-- REF.

abbrev pub file_of : List Argument → Option (List ℕ)
file_of [] = None
file_of (a ∷ more) = argument_name a

abbrev pub file_of_keyword : Option Keyword → Option (List ℕ)
file_of_keyword None = None
file_of_keyword (Some k) = file_of (arguments_of k)

-- the file that REF names
abbrev pub reference_file : List Keyword → Option (List ℕ)
reference_file ks = file_of_keyword (first_named (codes "REF") ks)

-- the name, if there is one, is this
abbrev pub is_named : List ℕ → Option (List ℕ) → Bool
is_named name None = false
is_named name (Some other) = pointwise nat_eq other name

-- the format is none, or REF names another format than the file's
abbrev pub is_format_missing : List Argument → Option Format → Bool
is_format_missing args None = true
is_format_missing [] (Some format) = false
is_format_missing (a ∷ []) (Some format) = false
is_format_missing (a ∷ b ∷ more) (Some format) = not (is_named format.name (argument_name b))

abbrev pub is_missing : (List ℕ → Option Format) → List Argument → Option (List ℕ) → Bool
is_missing formats args None = true
is_missing formats args (Some file) = is_format_missing args (formats file)

-- REF names a file, or a format of it, that isn't there
abbrev pub is_file_missing : (List ℕ → Option Format) → List Argument → Bool
is_file_missing formats args = is_missing formats args (file_of args)

-- Which files a source refers to.

abbrev pub place_is : List ℕ → List Argument → Bool
place_is file [] = false
place_is file (a ∷ []) = false
place_is file (a ∷ b ∷ []) = is_named file (argument_name b)
place_is file (a ∷ b ∷ c ∷ more) = false

abbrev pub keyword_refers_to : List ℕ → Option Keyword → Bool
keyword_refers_to file None = false
keyword_refers_to file (Some k) = place_is file (arguments_of k)

-- by REFFLD, whether or not it copies
abbrev pub line_refers_to : List ℕ → Specification → Bool
line_refers_to file s = keyword_refers_to file (first_named (codes "REFFLD") s.keywords)

abbrev pub any_refers_to : List ℕ → List Specification → Bool
any_refers_to file [] = false
any_refers_to file (s ∷ ss) = line_refers_to file s || any_refers_to file ss

-- by REF or by a REFFLD
abbrev pub refers_to : List ℕ → Source → Bool
refers_to file source = is_named file (reference_file source.file) || any_refers_to file source.specifications

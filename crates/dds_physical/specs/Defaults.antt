-- Default values, and the texts and headings of a field.
-- (DDS for Physical and Logical Files, DFT, TEXT, COLHDG.)
use Rattle.std.specs.Prelude.{ℕ, Bool, false, ◌==◌, List, [], ◌∷◌, ◌++◌, length, Option, Some, None, is_some, if◌then◌else◌, codes, pos}
use Rattle.std.specs.List.{filter_map}
use Rattle.ebc_text.specs.CodePage.{ebcdic_of}
use Rattle.field_types.specs.declared.kinds.Kind.{Kind}
use Rattle.field_types.specs.declared.kinds.Kind.TheVariants.{Char, Zoned, Packed, Binary, Date, Time, Stamp}
use Rattle.field_types.specs.declared.kinds.FieldType.{FieldType}
use Rattle.field_types.specs.declared.values.Value.{Value}
use Rattle.field_types.specs.declared.values.Value.TheVariants as values
use Rattle.record_fmt.specs.FieldBytes.{fault_of}
use Rattle.dds_source.specs.declared.arguments.Argument.{Argument}
use Rattle.dds_source.specs.declared.arguments.Argument.TheVariants as arguments
use Rattle.dds_source.specs.declared.keywords.Keyword.{Keyword}
use Rattle.dds_source.specs.declared.faults.DdsFault.{DdsFault}
use Rattle.dds_source.specs.declared.faults.DdsCause.TheVariants.{BadArguments}
use Rattle.dds_source.specs.Entries.{when}
use Rattle.dds_physical.specs.Places.{fault_of_keyword}
use Rattle.dds_physical.specs.Keywords.{first_named, arguments_of, is_heading}

-- characters by their codes
abbrev pub in_code_page : List ℕ → List ℕ
in_code_page characters = filter_map ebcdic_of characters

-- the value of a literal: a text in code page 037, the bytes themselves, or a number
abbrev pub literal_value : Argument → Option Value
literal_value (arguments.Name name) = None
literal_value (arguments.Number n) = Some (values.Number n)
literal_value (arguments.Special word) = None
literal_value (arguments.Word word) = None
literal_value (arguments.Quoted text) = Some (values.Chars (in_code_page text))
literal_value (arguments.Hexadecimal bytes) = Some (values.Chars bytes)

-- of the only argument
abbrev pub literal_of : List Argument → Option Value
literal_of [] = None
literal_of (a ∷ []) = literal_value a
literal_of (a ∷ b ∷ more) = None

-- Defaults.

-- blanks, 0, the first day, midnight, and both
abbrev pub unspecified : Kind → Value
unspecified Char = values.Chars []
unspecified Zoned = values.Number (record { units = pos 0; scale = 0 })
unspecified Packed = values.Number (record { units = pos 0; scale = 0 })
unspecified Binary = values.Number (record { units = pos 0; scale = 0 })
unspecified Date = values.Chars (in_code_page (codes "0001-01-01"))
unspecified Time = values.Chars (in_code_page (codes "00.00.00"))
unspecified Stamp = values.Chars (in_code_page (codes "0001-01-01-00.00.00.000000"))

abbrev pub given_default : Option Keyword → Option Value
given_default None = None
given_default (Some k) = literal_of (arguments_of k)

abbrev pub value_or : Option Value → Value → Value
value_or None other = other
value_or (Some v) other = v

-- what DFT says, else by the data type
abbrev pub default_of : Kind → List Keyword → Value
default_of kind ks = value_or (given_default (first_named (codes "DFT") ks)) (unspecified kind)

-- the field can't hold it
abbrev pub is_refused : FieldType → Option Value → Bool
is_refused t None = false
is_refused t (Some v) = is_some (fault_of t v)

abbrev pub default_keyword_faults : FieldType → Option Keyword → List DdsFault
default_keyword_faults t None = []
default_keyword_faults t (Some k) = when (is_refused t (literal_of (arguments_of k))) (fault_of_keyword BadArguments k)

-- BadArguments: a default that the field refuses
abbrev pub default_faults : FieldType → List Keyword → List DdsFault
default_faults t ks = default_keyword_faults t (first_named (codes "DFT") ks)

-- Texts and headings.

-- behind a text that isn't empty, a line feed of code page 037 and the next
abbrev pub with_piece : List ℕ → Option Value → List ℕ
with_piece text None = text
with_piece text (Some (values.Number n)) = text
with_piece text (Some (values.Chars piece)) = if length text == 0 then piece else text ++ 0x25 ∷ piece

abbrev pub with_pieces : List ℕ → List Argument → List ℕ
with_pieces text [] = text
with_pieces text (a ∷ more) = with_pieces (with_piece text (literal_value a)) more

abbrev pub with_texts : List ℕ → List Keyword → List ℕ
with_texts text [] = text
with_texts text (k ∷ ks) = with_texts (if is_heading k then with_pieces text (arguments_of k) else text) ks

-- the texts of TEXT and COLHDG, each on a line of its own
abbrev pub text_of : List Keyword → List ℕ
text_of ks = with_texts [] ks

-- How names, numbers and values are printed in a listing. (CL's notation of parameters and literals; the rest is our own.)
use Rattle.std.specs.Prelude.{ℕ, ◌+◌, ◌-◌, ◌/◌, ◌%◌, ℤ, pos, negsuc, Bool, ◌==◌, nat_lt, if◌then◌else◌, Option, Some, None, List, [], ◌∷◌, ◌++◌, length, take, drop, replicate, map, codes}
use Rattle.std.specs.List.{list_all, flat_map}
use Rattle.std.specs.Option.{is_some, unwrap_or}
use Rattle.std.specs.Fmt.{decimal}
use Rattle.ebc_text.specs.CodePage.{ascii_of}
use Rattle.field_types.specs.declared.values.Dec.{Dec}
use Rattle.field_types.specs.declared.values.Value.{Value}
use Rattle.field_types.specs.declared.values.Value.TheVariants.{Chars, Number}

-- a parameter behind a word: a blank, its keyword, and its value in parentheses
unfoldable pub parameter : List ℕ → List ℕ → List ℕ
parameter keyword value = 32 ∷ (keyword ++ 40 ∷ (value ++ 41 ∷ []))

-- a parameter whose value is a number
abbrev pub number_parameter : List ℕ → ℕ → List ℕ
number_parameter keyword number = parameter keyword (decimal number)

-- the character of a byte of code page 037; one without a character is not printed so
abbrev pub character_of : ℕ → ℕ
character_of byte = unwrap_or (ascii_of byte) 0

abbrev pub has_character : ℕ → Bool
has_character byte = is_some (ascii_of byte)

-- a character within apostrophes, of which one is written as two
abbrev pub quoted_character : ℕ → List ℕ
quoted_character byte = if character_of byte == 39 then 39 ∷ 39 ∷ [] else character_of byte ∷ []

-- a hexadecimal digit in upper case
abbrev pub hex_digit : ℕ → ℕ
hex_digit n = if nat_lt n 10 then 48 + n else 55 + n

abbrev pub hex_pair : ℕ → List ℕ
hex_pair byte = hex_digit (byte / 16) ∷ hex_digit (byte % 16) ∷ []

-- a text: '..' where each byte has a character, else X'..'
unfoldable pub text_literal : List ℕ → List ℕ
text_literal text =
    if list_all has_character text
    then 39 ∷ (flat_map quoted_character text ++ 39 ∷ [])
    else 88 ∷ 39 ∷ (flat_map hex_pair text ++ 39 ∷ [])

abbrev pub sign_of : ℤ → List ℕ
sign_of (pos n) = []
sign_of (negsuc n) = 45 ∷ []

abbrev pub magnitude : ℤ → ℕ
magnitude (pos n) = n
magnitude (negsuc n) = n + 1

-- at least one digit more than the decimals, with zeros in front
abbrev pub padded_digits : ℕ → List ℕ → List ℕ
padded_digits scale digits = replicate (scale + 1 - length digits) 48 ++ digits

-- digits with the decimal point before the last ones
abbrev pub pointed : ℕ → List ℕ → List ℕ
pointed scale digits =
    if scale == 0 then digits else take (length digits - scale) digits ++ 46 ∷ drop (length digits - scale) digits

-- a number with exactly its decimals
unfoldable pub number_literal : Dec → List ℕ
number_literal number = sign_of number.units ++ pointed number.scale (padded_digits number.scale (decimal (magnitude number.units)))

abbrev pub value_text : Value → List ℕ
value_text (Chars text) = text_literal text
value_text (Number number) = number_literal number

-- a value that is given, or *N
abbrev pub given_text : Option Value → List ℕ
given_text None = codes "*N"
given_text (Some value) = value_text value

-- with a blank between each two
abbrev pub with_blanks_behind : List (List ℕ) → List ℕ
with_blanks_behind [] = []
with_blanks_behind (text ∷ texts) = 32 ∷ (text ++ with_blanks_behind texts)

abbrev pub joined_by_blanks : List (List ℕ) → List ℕ
joined_by_blanks [] = []
joined_by_blanks (text ∷ texts) = text ++ with_blanks_behind texts

-- a list of values
unfoldable pub values_text : List Value → List ℕ
values_text values = joined_by_blanks (map value_text values)

unfoldable pub given_values_text : List (Option Value) → List ℕ
given_values_text values = joined_by_blanks (map given_text values)

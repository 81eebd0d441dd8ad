-- Literals: '..' with an apostrophe written twice, X'..', and numbers. The characters of a text stand for their bytes in code page 037.
-- (CL reference, "Constant values".)
use Rattle.std.specs.Prelude.{ℕ, ◌+◌, pos, neg_ℤ, ◌&&◌, ◌==◌, nat_eq, nat_le, if◌then◌else◌, Option, Some, None, List, [], ◌∷◌, length, take, drop, codes, option_map}
use Rattle.std.specs.Option.{option_map_or}
use Rattle.std.specs.List.{prefix_len}
use Rattle.std.specs.Cmp.Lexicographic.{pointwise}
use Rattle.ebc_text.specs.CodePage.{ebcdic_of}
use Rattle.field_types.specs.declared.values.Dec.{Dec}
use Rattle.field_types.specs.declared.values.Value.{Value}
use Rattle.field_types.specs.declared.values.Value.TheVariants.{Chars, Number}
use Rattle.text_lines.specs.Characters.{hex_digit_value, hex_byte}
use Rattle.text_lines.specs.Decimal.{is_digit, digits_from}
use Rattle.statement_reader.specs.Lists.{let_some, onto_others}
use Rattle.statement_reader.specs.Words.{has_text}
use Rattle.statement_reader.specs.Parameters.{behind}
use Rattle.statement_reader.specs.declared.numbers.Digits.{Digits}
use Rattle.statement_reader.specs.declared.numbers.TheConstants.{MOST_DIGITS, MOST_UNITS}

-- no bytes, where nothing but the apostrophe that ends a literal is left
abbrev pub ended : List ℕ → Option (List ℕ)
ended text = if pointwise nat_eq text (codes "'") then Some [] else None

-- the bytes of a text up to the apostrophe that ends it, in which an apostrophe stands twice
abbrev pub quoted : List ℕ → Option (List ℕ)
quoted [] = None
quoted (c ∷ []) = if c == 39 then Some [] else None
quoted (c ∷ d ∷ text) =
    if c == 39 then (if d == 39 then onto_others (ebcdic_of 39) (quoted text) else None) else onto_others (ebcdic_of c) (quoted (d ∷ text))

-- the bytes of pairs of digits up to the apostrophe that ends them
abbrev pub hexadecimal : List ℕ → Option (List ℕ)
hexadecimal [] = None
hexadecimal (c ∷ []) = if c == 39 then Some [] else None
hexadecimal (c ∷ d ∷ text) = onto_others (hex_byte (hex_digit_value c) (hex_digit_value d)) (hexadecimal text)

-- digits before and behind a point, from 1 to 31 in all: their number without the point, and how many stand behind it
abbrev pub scaled : List ℕ → List ℕ → Option Digits
scaled whole fraction =
    if has_text whole && nat_le (length whole + length fraction) MOST_DIGITS
    then let_some (digits_from MOST_UNITS 0 whole) (λ front. let_some (digits_from MOST_UNITS front fraction) (λ units. Some (record { units = units; scale = length fraction })))
    else None

-- these digits, and what stands behind them: nothing, or a point and more digits
abbrev pub pointed : List ℕ → List ℕ → Option Digits
pointed whole [] = scaled whole []
pointed whole (c ∷ fraction) = if (c == 46) && has_text fraction then scaled whole fraction else None

unfoldable pub unsigned : List ℕ → Option Digits
unsigned text = pointed (take (prefix_len is_digit text) text) (drop (prefix_len is_digit text) text)

abbrev pub positive : Digits → Dec
positive digits = record { units = pos digits.units; scale = digits.scale }

abbrev pub negative : Digits → Dec
negative digits = record { units = neg_ℤ (pos digits.units); scale = digits.scale }

-- the number of a word: an optional -, digits, and optionally a point and digits
unfoldable pub number_of : List ℕ → Option Dec
number_of word = option_map_or (λ digits. option_map negative (unsigned digits)) (behind (codes "-") word) (option_map positive (unsigned word))

-- the literal that a word is
unfoldable pub literal_of : List ℕ → Option Value
literal_of word =
    option_map_or (λ text. option_map Chars (quoted text)) (behind (codes "'") word)
    (option_map_or (λ digits. option_map Chars (hexadecimal digits)) (behind (codes "X'") word) (option_map Number (number_of word)))

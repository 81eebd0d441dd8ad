-- The texts of numbers and values, read back.
use Rattle.std.specs.Prelude.{ℕ, ◌+◌, ◌-◌, ◌*◌, pos, neg_ℤ, ◌==◌, nat_le, if◌then◌else◌, Option, Some, None, List, [], ◌∷◌, length, codes, option_map}
use Rattle.std.specs.Option.{option_map_or}
use Rattle.std.specs.List.{position_or_len}
use Rattle.field_types.specs.declared.values.Dec.{Dec}
use Rattle.field_types.specs.declared.values.Value.{Value}
use Rattle.field_types.specs.declared.values.Value.TheVariants.{Chars, Number}
use Rattle.text_lines.specs.Decimal.{is_digit}
use Rattle.statement_reader.specs.Commands.{is_word}
use Rattle.statement_reader.specs.Lists.{let_some, each}
use Rattle.statement_reader.specs.Literals.{quoted, hexadecimal}
use Rattle.statement_reader.specs.Parameters.{behind}
use Rattle.statement_reader.specs.Words.{words}
use Rattle.listing_words.specs.Words.{given}
use Rattle.listing_words.specs.declared.numbers.TheConstants.{MOST_UNITS, MOST_NUMBER, MOST_LONG}

-- the number of these digits behind those of another, where it passes no limit; a point among them counts for nothing
abbrev pub units_after : ℕ → ℕ → List ℕ → Option ℕ
units_after limit number [] = if nat_le number limit then Some number else None
units_after limit number (d ∷ text) =
    if d == 46 then units_after limit number text
    else (if is_digit d then units_after limit (10 * number + (d - 48)) text else None)

-- the number that digits spell
unfoldable pub units : ℕ → List ℕ → Option ℕ
units limit text = units_after limit 0 text

-- a number of four bytes as a parameter, and one of eight
unfoldable pub number_in : List ℕ → List (List ℕ) → Option ℕ
number_in keyword words = let_some (given keyword words) (units MOST_NUMBER)

unfoldable pub long_in : List ℕ → List (List ℕ) → Option ℕ
long_in keyword words = let_some (given keyword words) (units MOST_LONG)

-- how many digits stand behind the point
abbrev pub decimals : List ℕ → ℕ
decimals text = length text - (position_or_len (λ c. c == 46) text + 1)

abbrev pub positive : ℕ → ℕ → Dec
positive number scale = record { units = pos number; scale = scale }

abbrev pub negative : ℕ → ℕ → Dec
negative number scale = record { units = neg_ℤ (pos number); scale = scale }

-- a number without a sign
unfoldable pub unsigned : (ℕ → ℕ → Dec) → List ℕ → Option Dec
unsigned signed text =
    let_some (units MOST_UNITS text) (λ number. if nat_le (decimals text) 255 then Some (signed number (decimals text)) else None)

-- digits, with a point or without, and a - before them where they are below 0
unfoldable pub number_of : List ℕ → Option Dec
number_of word = option_map_or (λ number. Some number) (unsigned positive word) (let_some (behind (codes "-") word) (unsigned negative))

-- the bytes of a text in apostrophes or in hexadecimal
unfoldable pub text_of : List ℕ → Option (List ℕ)
text_of word = option_map_or quoted (behind (codes "'") word) (let_some (behind (codes "X'") word) hexadecimal)

unfoldable pub value_of : List ℕ → Option Value
value_of word = option_map_or (λ number. Some (Number number)) (number_of word) (option_map Chars (text_of word))

-- values, each a word
unfoldable pub values_of : List ℕ → Option (List Value)
values_of text = each value_of (words text)

-- a value, or *N
unfoldable pub given_value_of : List ℕ → Option (Option Value)
given_value_of word = option_map_or (λ value. Some (Some value)) (value_of word) (if is_word (codes "*N") word then Some None else None)

unfoldable pub given_values_of : List ℕ → Option (List (Option Value))
given_values_of text = each given_value_of (words text)

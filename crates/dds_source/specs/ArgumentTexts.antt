-- Which arguments stand in the parentheses of a keyword.
-- (DDS for Physical and Logical Files, "Syntax rules for DDS keywords and parameter values".)
use Rattle.std.specs.Prelude.{ℕ, ◌+◌, ◌-◌, Bool, true, false, not, ◌&&◌, ◌||◌, ◌==◌, nat_le, List, [], ◌∷◌, ◌++◌, length, take, slice_index, slice_range, Option, Some, None, is_some, option_and_then, if◌then◌else◌, pos, neg_ℤ, ℤ}
use Rattle.std.specs.List.{before_first, after_first, list_any, list_all}
use Rattle.std.specs.Option.{option_map, option_map_or}
use Rattle.text_lines.specs.SystemName.{is_name}
use Rattle.text_lines.specs.Characters.{hex_digit_value, hex_byte}
use Rattle.text_lines.below.field_types.specs.declared.values.Dec.{Dec}
use Rattle.dds_source.specs.declared.arguments.Argument.{Argument}
use Rattle.dds_source.specs.declared.arguments.Argument.TheVariants as arguments
use Rattle.text_lines.specs.Lines.{is_blank}
use Rattle.text_lines.specs.Decimal.{is_digit}
use Rattle.dds_source.specs.Continuation.{toggled}
use Rattle.dds_source.specs.Numbers.{decimal, are_digits}
use Rattle.dds_source.specs.KeywordTexts.{unless_empty, is_unfinished}

-- what stands between the outermost parentheses
abbrev pub argument_part : List ℕ → List ℕ
argument_part keyword =
    let inner = after_first (λ c. c == 40) keyword in
    if is_unfinished keyword then inner else take (length inner - 1) inner

-- Arguments end before a blank outside apostrophes.
-- What has come of an argument and what follows give the arguments from there on.
abbrev pub argument_texts : Bool → List ℕ → List ℕ → List (List ℕ)
argument_texts quoted begun [] = unless_empty begun
argument_texts quoted begun (c ∷ cs) =
    if not quoted && is_blank c then unless_empty begun ++ argument_texts false [] cs
    else argument_texts (toggled quoted c) (begun ++ c ∷ []) cs

-- the arguments of a keyword
unfoldable pub arguments_in : List ℕ → List (List ℕ)
arguments_in keyword = argument_texts false [] (argument_part keyword)

-- Literals in apostrophes.

-- the text from behind the opening apostrophe on, where the closing one is the last character, and two within are one; behind an apostrophe, or not
abbrev pub text_behind : Bool → List ℕ → Option (List ℕ)
text_behind apostrophe [] = if apostrophe then Some [] else None
text_behind apostrophe (c ∷ cs) =
    if apostrophe then (if c == 39 then option_map (λ text. 39 ∷ text) (text_behind false cs) else None)
    else (if c == 39 then text_behind true cs else option_map (λ text. c ∷ text) (text_behind false cs))

-- the text of a literal '..'
abbrev pub quoted_text : List ℕ → Option (List ℕ)
quoted_text [] = None
quoted_text (c ∷ cs) = if c == 39 then text_behind false cs else None

-- Literals X'..'.

abbrev pub begins_hexadecimal : List ℕ → Bool
begins_hexadecimal [] = false
begins_hexadecimal (c ∷ []) = false
begins_hexadecimal (c ∷ d ∷ cs) = (c == 88) && (d == 39)

-- what stands in the apostrophes of a literal X'..'
abbrev pub hexadecimal_digits : List ℕ → Option (List ℕ)
hexadecimal_digits word =
    if begins_hexadecimal word && nat_le 3 (length word) && (slice_index word (length word - 1) == 39)
    then Some (slice_range word 2 (length word - 1))
    else None

-- a byte in front of others
abbrev pub onto_bytes : Option ℕ → Option (List ℕ) → Option (List ℕ)
onto_bytes None bytes = None
onto_bytes (Some byte) None = None
onto_bytes (Some byte) (Some bytes) = Some (byte ∷ bytes)

-- the bytes of hexadecimal digits, two for each
abbrev pub bytes_of_digits : List ℕ → Option (List ℕ)
bytes_of_digits [] = Some []
bytes_of_digits (c ∷ []) = None
bytes_of_digits (c ∷ d ∷ cs) = onto_bytes (hex_byte (hex_digit_value c) (hex_digit_value d)) (bytes_of_digits cs)

-- the bytes of a literal X'..'
abbrev pub hexadecimal_bytes : List ℕ → Option (List ℕ)
hexadecimal_bytes word = option_and_then bytes_of_digits (hexadecimal_digits word)

-- inside apostrophes behind these characters
abbrev pub is_quoted_behind : Bool → List ℕ → Bool
is_quoted_behind quoted [] = quoted
is_quoted_behind quoted (c ∷ cs) = is_quoted_behind (toggled quoted c) cs

-- begins as X'..', is closed, and has no bytes
abbrev pub is_bad_hexadecimal : List ℕ → Bool
is_bad_hexadecimal word = begins_hexadecimal word && not (is_quoted_behind false word) && not (is_some (hexadecimal_bytes word))

-- Numbers.

-- the point, if there is one, has digits on both sides; there are at most 31 digits
abbrev pub is_unsigned : List ℕ → Bool
is_unsigned word =
    are_digits (before_first (λ c. c == 46) word)
    && list_all is_digit (after_first (λ c. c == 46) word)
    && (not (list_any (λ c. c == 46) word) || not (length (after_first (λ c. c == 46) word) == 0))
    && nat_le (length (before_first (λ c. c == 46) word) + length (after_first (λ c. c == 46) word)) 31

-- a number, or its negative
abbrev pub signed : Bool → ℕ → ℤ
signed negative n = if negative then neg_ℤ (pos n) else pos n

-- the number of all digits, and how many stand behind the point
abbrev pub number_of : Bool → List ℕ → Option Dec
number_of negative word =
    if is_unsigned word
    then Some (record { units = signed negative (decimal (before_first (λ c. c == 46) word ++ after_first (λ c. c == 46) word)); scale = length (after_first (λ c. c == 46) word) })
    else None

-- a number literal: perhaps a minus sign, then the digits
abbrev pub number : List ℕ → Option Dec
number [] = None
number (c ∷ cs) = if c == 45 then number_of true cs else number_of false (c ∷ cs)

-- All arguments.

abbrev pub begins_with_asterisk : List ℕ → Bool
begins_with_asterisk [] = false
begins_with_asterisk (c ∷ cs) = c == 42

-- a word that is no literal
abbrev pub word_of : List ℕ → Argument
word_of word =
    if is_name word then arguments.Name word
    else (if begins_with_asterisk word then arguments.Special word
    else arguments.Word word)

-- what an argument is
unfoldable pub argument_of : List ℕ → Argument
argument_of word =
    option_map_or (λ text. arguments.Quoted text) (quoted_text word)
    (option_map_or (λ bytes. arguments.Hexadecimal bytes) (hexadecimal_bytes word)
    (option_map_or (λ n. arguments.Number n) (number word) (word_of word)))

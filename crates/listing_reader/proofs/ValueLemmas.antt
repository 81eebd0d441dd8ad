-- What is read of the texts of numbers, texts and values.
use Rattle.std.specs.Prelude.{⊤}
use Rattle.std.proofs.Common.{◌≡◌, ℕ, zero, suc, if◌then◌else◌, ◌+◌, ◌-◌, ◌*◌, ◌/◌, ◌%◌, ◌<◌, ◌≤◌, ◌^◌, ℤ, pos, negsuc, true, false, cond, ◌&&◌, ◌==◌, not, nat_le, Option, Some, None, option_map, List, [], ◌∷◌, ◌++◌, length, take, drop, replicate, map, codes, refl, ap, ◌∙◌, sym, subst, append_assoc, append-nil, take-append-drop, length-append, length-drop, length-take-le, arith}
use Rattle.std.specs.List.{list_all, flat_map, position_or_len}
use Rattle.std.specs.Option.{option_map_or}
use Rattle.std.specs.Fmt.{decimal}
use Rattle.std.proofs.lemmas.Bool.{and_parts, cond-true, cond-false, eqb-true, le-leb, leb-true}
use Rattle.std.proofs.lemmas.Bool.Decides.{nat_tests}
use Rattle.std.proofs.lemmas.Fmt.{decimal_by_steps_wide}
use Rattle.std.proofs.lemmas.List.{length-replicate}
use Rattle.ebc_text.specs.CodePage.{ebcdic_of}
use Rattle.field_types.specs.SystemName.{is_name, begins_name, continues_name}
use Rattle.field_types.specs.declared.values.Dec.{Dec}
use Rattle.field_types.specs.declared.values.Value.{Value}
use Rattle.field_types.specs.declared.values.Value.TheVariants.{Chars, Number}
use Rattle.text_lines.specs.Characters.{hex_digit_value, hex_byte}
use Rattle.text_lines.specs.Decimal.{is_digit}
use Rattle.statement_reader.specs.Commands.{is_word}
use Rattle.statement_reader.specs.Lists.{let_some, onto_others, each}
use Rattle.statement_reader.specs.Literals.{quoted, hexadecimal}
use Rattle.statement_reader.specs.Parameters.{behind}
use Rattle.statement_reader.specs.Words.{has_text, words}
use Rattle.listing.specs.Texts.{character_of, has_character, quoted_character, hex_digit, hex_pair, text_literal, sign_of, magnitude, padded_digits, pointed, number_literal, value_text, given_text, with_blanks_behind, joined_by_blanks, values_text, given_values_text}
use Rattle.listing_words.specs.Values.{units_after, units, decimals, positive, negative, unsigned, number_of, text_of, value_of, values_of, given_value_of, given_values_of}
use Rattle.listing_reader.specs.Listed.{is_byte, IsValue, AreValues, IsGiven, AreGiven}
use Rattle.listing_words.specs.declared.numbers.TheConstants.{MOST_UNITS, MOST_NUMBER, MOST_LONG}
use Rattle.listing_reader.proofs.ScanLemmas.{LiesInside, IsWord, AreWords, spaced, inside-append, spaced-words}
use Rattle.listing_reader.proofs.TextLemmas.{apart, byte-is, padded-digits, all-cut, text-inside, text-word, number-closed, number-inside}

-- ---- numbers

digit-step : (limit number d : ℕ) (rest : List ℕ) → d < 10 → units_after limit number ((48 + d) ∷ rest) ≡ units_after limit (10 * number + d) rest
digit-step limit number d rest small =
    let is : is_digit (48 + d) ≡ true = grind (arith, nat_tests) in
    let point : (48 + d == 46) ≡ false = apart is_digit (48 + d) 46 is refl in
    let same : 48 + d - 48 ≡ d = omega arith in
    ap (λ v. cond v (units_after limit number rest) (cond (is_digit (48 + d)) (units_after limit (10 * number + (48 + d - 48)) rest) None)) point
    ∙ ap (λ v. cond v (units_after limit (10 * number + (48 + d - 48)) rest) None) is
    ∙ ap (λ v. units_after limit (10 * number + v) rest) same

-- the digits of a number stand for it
decimal-units : (limit n : ℕ) (rest : List ℕ) → n < 10 ^ 64 → units_after limit 0 (decimal n ++ rest) ≡ units_after limit n rest
decimal-units limit n rest small =
    let whole : (more : List ℕ) → units_after limit 0 (decimal n ++ more) ≡ units_after limit n more =
    decimal_by_steps_wide (λ n ds. (more : List ℕ) → units_after limit 0 (ds ++ more) ≡ units_after limit n more)
    (λ n one more. let same : 10 * 0 + n ≡ n = omega arith in digit-step limit 0 n more one ∙ ap (λ v. units_after limit v more) same)
    (λ n ds large so_far more.
    let whole : 10 * (n / 10) + n % 10 ≡ n = omega arith in
    ap (units_after limit 0) (append_assoc ds ((48 + n % 10) ∷ []) more) ∙ so_far ((48 + n % 10) ∷ more) ∙ digit-step limit (n / 10) (n % 10) more (omega arith) ∙ ap
    (λ v. units_after limit v more) whole)
    n small in
    whole rest

up-to : (limit n : ℕ) → n ≤ limit → units_after limit n [] ≡ Some n
up-to limit n within = cond-true (nat_le n limit) (Some n) None (le-leb n limit within)

pub units-decimal : (limit n : ℕ) → n ≤ limit → limit < 10 ^ 64 → units limit (decimal n) ≡ Some n
unfolding units
units-decimal limit n within small =
    sym (ap (units_after limit 0) (append-nil (decimal n))) ∙ decimal-units limit n [] (omega arith) ∙ up-to limit n within

pub number-decimal : (n : ℕ) → n < 2 ^ 32 → units MOST_NUMBER (decimal n) ≡ Some n
number-decimal n small = units-decimal MOST_NUMBER n (omega arith) (omega arith)

pub long-decimal : (n : ℕ) → n < 2 ^ 64 → units MOST_LONG (decimal n) ≡ Some n
long-decimal n small = units-decimal MOST_LONG n (omega arith) (omega arith)

zeros-units : (limit k : ℕ) (rest : List ℕ) → units_after limit 0 (replicate k 48 ++ rest) ≡ units_after limit 0 rest
zeros-units limit zero rest = refl
zeros-units limit (suc k) rest = zeros-units limit k rest

-- a point counts for nothing
point-units : (limit number : ℕ) (front back : List ℕ) → units_after limit number (front ++ 46 ∷ back) ≡ units_after limit number (front ++ back)
point-units limit number [] back = refl
point-units limit number (d ∷ front) back =
    elim (d == 46) as (λ v. cond v (units_after limit number (front ++ 46 ∷ back)) (cond (is_digit d) (units_after limit (10 * number + (d - 48)) (front ++ 46 ∷ back)) None)
    ≡ cond v (units_after limit number (front ++ back)) (cond (is_digit d) (units_after limit (10 * number + (d - 48)) (front ++ back)) None)) [
      | true ↦ point-units limit number front back
      | false ↦ ap (λ v. cond (is_digit d) v None) (point-units limit (10 * number + (d - 48)) front back)
    ]

pointed-units : (limit scale : ℕ) (digits : List ℕ) → units_after limit 0 (pointed scale digits) ≡ units_after limit 0 digits
pointed-units limit scale digits =
    elim (scale == 0) as (λ v. units_after limit 0 (cond v digits (take (length digits - scale) digits ++ 46 ∷ drop (length digits - scale) digits)) ≡ units_after limit 0 digits) [
      | true ↦ refl
      | false ↦ point-units limit 0 (take (length digits - scale) digits) (drop (length digits - scale) digits) ∙ ap (units_after limit 0) (take-append-drop (length digits - scale) digits)
    ]

padded-units : (limit scale n : ℕ) → n ≤ limit → limit < 10 ^ 64 → units_after limit 0 (padded_digits scale (decimal n)) ≡ Some n
padded-units limit scale n within small =
    zeros-units limit (scale + 1 - length (decimal n)) (decimal n)
    ∙ sym (ap (units_after limit 0) (append-nil (decimal n))) ∙ decimal-units limit n [] (omega arith) ∙ up-to limit n within

-- ---- where the point stands

no-point : (d : ℕ) → is_digit d ≡ true → (d == 46) ≡ false
no-point d is = apart is_digit d 46 is refl

whole-length : (front back : List ℕ) → list_all is_digit front ≡ true → position_or_len (λ c. c == 46) (front ++ 46 ∷ back) ≡ length front
whole-length [] back all = refl
whole-length (d ∷ front) back all =
    let parts = and_parts (is_digit d) (list_all is_digit front) all in
    ap (λ v. cond (not v) (1 + position_or_len (λ c. c == 46) (front ++ 46 ∷ back)) 0) (no-point d parts.0) ∙ ap (λ v. 1 + v) (whole-length front back parts.1) ∙ omega arith

all-length : (text : List ℕ) → list_all is_digit text ≡ true → position_or_len (λ c. c == 46) text ≡ length text
all-length [] all = refl
all-length (d ∷ text) all =
    let parts = and_parts (is_digit d) (list_all is_digit text) all in
    ap (λ v. cond (not v) (1 + position_or_len (λ c. c == 46) text) 0) (no-point d parts.0) ∙ ap (λ v. 1 + v) (all-length text parts.1) ∙ omega arith

padded-length : (scale : ℕ) (ds : List ℕ) → scale < length (padded_digits scale ds)
padded-length scale ds =
    let sum : length (replicate (scale + 1 - length ds) 48 ++ ds) ≡ length (replicate (scale + 1 - length ds) 48) + length ds = length-append (replicate (scale + 1 - length ds) 48) ds in
    let long : scale < length (replicate (scale + 1 - length ds) 48 ++ ds) = omega (arith, sum, length-replicate {A = ℕ} (scale + 1 - length ds) 48) in
    long

-- the point stands behind the first digits
cut-decimals : (k scale : ℕ) (digits : List ℕ) → k + scale ≡ length digits → list_all is_digit digits ≡ true → decimals (take k digits ++ 46 ∷ drop k digits) ≡ scale
cut-decimals k scale digits whole all =
    let sum : length (take k digits ++ 46 ∷ drop k digits) ≡ length (take k digits) + suc (length (drop k digits)) = length-append (take k digits) (46 ∷ drop k digits) in
    let place : position_or_len (λ c. c == 46) (take k digits ++ 46 ∷ drop k digits) ≡ length (take k digits) = whole-length (take k digits) (drop k digits) (all-cut is_digit k digits all).0 in
    let front : length (take k digits) ≡ k = length-take-le k digits (omega (arith, whole)) in
    ap (λ n. length (take k digits ++ 46 ∷ drop k digits) - (n + 1)) place ∙ omega (arith, sum, front, length-drop k digits, whole)

pointed-decimals : (scale : ℕ) (digits : List ℕ) → scale < length digits → list_all is_digit digits ≡ true → decimals (pointed scale digits) ≡ scale
pointed-decimals scale digits long all =
    let none : length digits - (length digits + 1) ≡ 0 = omega arith in
    (elim (scale == 0) as (λ v. (scale == 0) ≡ v → decimals (cond v digits (take (length digits - scale) digits ++ 46 ∷ drop (length digits - scale) digits)) ≡ scale) [
      | true ↦ λ zero. ap (λ n. length digits - (n + 1)) (all-length digits all) ∙ none ∙ sym (eqb-true scale 0 zero)
      | false ↦ λ some. cut-decimals (length digits - scale) scale digits (omega (arith, long)) all
    ]) refl

pub unsigned-pointed : (signed : ℕ → ℕ → Dec) (scale n : ℕ) → scale < 256 → n ≤ MOST_UNITS → unsigned signed (pointed scale (padded_digits scale (decimal n))) ≡ Some (signed n scale)
unfolding unsigned units
unsigned-pointed signed scale n fits within =
    let text = pointed scale (padded_digits scale (decimal n)) in
    let read : units_after MOST_UNITS 0 text ≡ Some n = pointed-units MOST_UNITS scale (padded_digits scale (decimal n)) ∙ padded-units MOST_UNITS scale n within (omega arith) in
    let places : decimals text ≡ scale = pointed-decimals scale (padded_digits scale (decimal n)) (padded-length scale (decimal n)) (padded-digits scale n (omega arith)) in
    ap (λ o. let_some o (λ number. if nat_le (decimals text) 255 then Some (signed number (decimals text)) else None)) read
    ∙ ap (λ d. if nat_le d 255 then Some (signed n d) else None) places
    ∙ cond-true (nat_le scale 255) (Some (signed n scale)) None (le-leb scale 255 (omega arith))

minus-none : (text : List ℕ) → unsigned positive (45 ∷ text) ≡ None
unfolding unsigned units
minus-none text = refl

-- a number with a sign or without
signed-number : (u : ℤ) (scale : ℕ) → scale < 256 → magnitude u ≤ MOST_UNITS → number_of (number_literal (record { units = u; scale = scale })) ≡ Some (record { units = u; scale = scale })
unfolding number_of number_literal
signed-number (pos n) scale fits within =
    let text = pointed scale (padded_digits scale (decimal n)) in
    ap (λ o. option_map_or (λ number. Some number) o (let_some (behind (codes "-") text) (unsigned negative))) (unsigned-pointed positive scale n fits within)
signed-number (negsuc n) scale fits within =
    let text = pointed scale (padded_digits scale (decimal (n + 1))) in
    let one : n + 1 ≡ suc n = omega arith in
    let none : unsigned positive (45 ∷ text) ≡ None = minus-none text in
    ap (λ o. option_map_or (λ number. Some number) o (unsigned negative text)) none
    ∙ unsigned-pointed negative scale (n + 1) fits within ∙ ap (λ m. Some (negative m scale)) one

pub number-read : (d : Dec) → d.scale < 256 → magnitude d.units ≤ MOST_UNITS → number_of (number_literal d) ≡ Some d
number-read d fits within = signed-number d.units d.scale fits within

-- ---- texts

quoted-next : (c : ℕ) (text : List ℕ) → has_text text ≡ true → (c == 39) ≡ false → quoted (c ∷ text) ≡ onto_others (ebcdic_of c) (quoted text)
quoted-next c [] some other = absurd cc
quoted-next c (d ∷ text) some other = cond-false (c == 39) (cond (d == 39) (onto_others (ebcdic_of 39) (quoted text)) None) (onto_others (ebcdic_of c) (quoted (d ∷ text))) other

ended-text : (text : List ℕ) → has_text (text ++ 39 ∷ []) ≡ true
ended-text [] = refl
ended-text (c ∷ text) = refl

quoted-step : (byte : ℕ) (rest : List ℕ) → has_character byte ≡ true → has_text rest ≡ true → quoted (quoted_character byte ++ rest) ≡ onto_others (Some byte) (quoted rest)
quoted-step byte rest has some =
    let back = byte-is byte has in
    (elim (character_of byte == 39) as (λ v. (character_of byte == 39) ≡ v → quoted ((cond v (39 ∷ 39 ∷ []) (character_of byte ∷ [])) ++ rest) ≡ onto_others (Some byte) (quoted rest)) [
      | true ↦ λ same. ap (λ o. onto_others o (quoted rest)) (sym (ap ebcdic_of (eqb-true (character_of byte) 39 same)) ∙ back)
      | false ↦ λ other. quoted-next (character_of byte) rest some other ∙ ap (λ o. onto_others o (quoted rest)) back
    ]) refl

quoted-read : (text : List ℕ) → list_all has_character text ≡ true → quoted (flat_map quoted_character text ++ 39 ∷ []) ≡ Some text
quoted-read [] all = refl
quoted-read (byte ∷ text) all =
    let parts = and_parts (has_character byte) (list_all has_character text) all in
    ap quoted (append_assoc (quoted_character byte) (flat_map quoted_character text) (39 ∷ []))
    ∙ quoted-step byte (flat_map quoted_character text ++ 39 ∷ []) parts.0 (ended-text (flat_map quoted_character text))
    ∙ ap (onto_others (Some byte)) (quoted-read text parts.1)

hex-value : (n : ℕ) → n < 16 → hex_digit_value (hex_digit n) ≡ Some n
hex-value n small = grind (arith, nat_tests)

hexadecimal-read : (text : List ℕ) → list_all is_byte text ≡ true → hexadecimal (flat_map hex_pair text ++ 39 ∷ []) ≡ Some text
hexadecimal-read [] all = refl
hexadecimal-read (byte ∷ text) all =
    let parts = and_parts (is_byte byte) (list_all is_byte text) all in
    let small : byte < 256 = leb-true (suc byte) 256 parts.0 in
    let whole : 16 * (byte / 16) + byte % 16 ≡ byte = omega arith in
    ap (λ o. onto_others (hex_byte o (hex_digit_value (hex_digit (byte % 16)))) (hexadecimal (flat_map hex_pair text ++ 39 ∷ []))) (hex-value (byte / 16) (omega arith))
    ∙ ap (λ o. onto_others (hex_byte (Some (byte / 16)) o) (hexadecimal (flat_map hex_pair text ++ 39 ∷ []))) (hex-value (byte % 16) (omega arith))
    ∙ ap (λ b. onto_others (Some b) (hexadecimal (flat_map hex_pair text ++ 39 ∷ []))) whole
    ∙ ap (onto_others (Some byte)) (hexadecimal-read text parts.1)

pub text-read : (text : List ℕ) → list_all is_byte text ≡ true → text_of (text_literal text) ≡ Some text
unfolding text_of text_literal
text-read text bytes =
    (elim (list_all has_character text) as (λ v. list_all has_character text ≡ v → text_of (cond v (39 ∷ (flat_map quoted_character text ++ 39 ∷ [])) (88 ∷ 39
    ∷ (flat_map hex_pair text ++ 39 ∷ []))) ≡ Some text) [
      | true ↦ λ all. quoted-read text all
      | false ↦ λ some. hexadecimal-read text bytes
    ]) refl

-- a text is no number
text-no-number : (text : List ℕ) → number_of (text_literal text) ≡ None
unfolding number_of unsigned units text_literal
text-no-number text =
    elim (list_all has_character text) as (λ v. number_of (cond v (39 ∷ (flat_map quoted_character text ++ 39 ∷ [])) (88 ∷ 39 ∷ (flat_map hex_pair text ++ 39 ∷ [])))
    ≡ None) [ true ↦ refl | false ↦ refl ]

-- ---- values

pub value-read : (value : Value) → IsValue value → value_of (value_text value) ≡ Some value
unfolding value_of
value-read (Chars text) is = ap (λ o. option_map_or (λ number. Some (Number number)) o (option_map Chars (text_of (text_literal text)))) (text-no-number text)
    ∙ ap (option_map Chars) (text-read text is)
value-read (Number number) is = ap (λ o. option_map_or (λ n. Some (Number n)) o (option_map Chars (text_of (number_literal number)))) (number-read number is.0 is.1)

pointed-text : (scale : ℕ) (digits : List ℕ) → scale < length digits → has_text (pointed scale digits) ≡ true
pointed-text scale [] long = absurd (omega arith)
pointed-text scale (d ∷ digits) long =
    let some : length (d ∷ digits) - scale ≡ suc (length digits - scale) = omega arith in
    elim (scale == 0) as (λ v. has_text (cond v (d ∷ digits) (take (length (d ∷ digits) - scale) (d ∷ digits) ++ 46 ∷ drop (length (d ∷ digits) - scale) (d ∷ digits)))
    ≡ true) [ true ↦ refl | false ↦ rw some refl ]

number-text : (d : Dec) → magnitude d.units ≤ MOST_UNITS → has_text (number_literal d) ≡ true
unfolding number_literal
number-text d within =
    (elim (d.units) as (λ (u : ℤ). magnitude u ≤ MOST_UNITS → has_text (sign_of u ++ pointed d.scale (padded_digits d.scale (decimal (magnitude u)))) ≡ true) [
      | pos n ↦ λ small. pointed-text d.scale (padded_digits d.scale (decimal n)) (padded-length d.scale (decimal n))
      | negsuc n ↦ λ small. refl
    ]) within

pub value-word : (value : Value) → IsValue value → IsWord (value_text value)
value-word (Chars text) is = text-word text
value-word (Number number) is = record { text = number-text number is.1; closed = number-closed number (omega (arith, is.1)) }

value-inner : (value : Value) → IsValue value → LiesInside (value_text value)
value-inner (Chars text) is = text-inside text
value-inner (Number number) is = number-inside number (omega (arith, is.1))

words-none : words [] ≡ []
unfolding words
words-none = refl

behind-spaced : (texts : List (List ℕ)) → with_blanks_behind texts ≡ spaced texts
behind-spaced [] = refl
behind-spaced (text ∷ texts) = ap (λ t. 32 ∷ (text ++ t)) (behind-spaced texts)

-- texts that are words, with a blank between each two
joined-spaced : (text : List ℕ) (texts : List (List ℕ)) → joined_by_blanks (text ∷ texts) ≡ text ++ spaced texts
joined-spaced text texts = ap (λ t. text ++ t) (behind-spaced texts)

pub joined-words : (texts : List (List ℕ)) → AreWords texts → words (joined_by_blanks texts) ≡ texts
joined-words [] are = words-none
joined-words (text ∷ texts) are = ap words (joined-spaced text texts) ∙ spaced-words text texts are.0 are.1

-- each of them lies within one pair of parentheses
abbrev pub AreInside : List (List ℕ) → Type 0
AreInside [] = ⊤
AreInside (text ∷ texts) = LiesInside text × AreInside texts

inside-same : {a b : List ℕ} → a ≡ b → LiesInside b → LiesInside a
inside-same same is = subst LiesInside (sym same) is

spaced-inner : (texts : List (List ℕ)) → AreInside texts → LiesInside (spaced texts)
spaced-inner [] are = refl
spaced-inner (text ∷ texts) are = inside-append text (spaced texts) are.0 (spaced-inner texts are.1)

pub joined-inner : (texts : List (List ℕ)) → AreInside texts → LiesInside (joined_by_blanks texts)
joined-inner [] are = refl
joined-inner (text ∷ texts) are = inside-same (joined-spaced text texts) (inside-append text (spaced texts) are.0 (spaced-inner texts are.1))

values-are : (values : List Value) → AreValues values → AreWords (map value_text values) × AreInside (map value_text values)
values-are [] are = (tt, tt)
values-are (value ∷ values) are =
    let rest = values-are values are.1 in
    ((value-word value are.0, rest.0), (value-inner value are.0, rest.1))

values-each : (values : List Value) → AreValues values → each value_of (map value_text values) ≡ Some values
values-each [] are = refl
values-each (value ∷ values) are = ap (λ o. onto_others o (each value_of (map value_text values))) (value-read value are.0) ∙ ap (onto_others (Some value)) (values-each values are.1)

pub values-read : (values : List Value) → AreValues values → values_of (values_text values) ≡ Some values
unfolding values_of values_text
values-read values are = ap (each value_of) (joined-words (map value_text values) (values-are values are).0) ∙ values-each values are

pub values-inner : (values : List Value) → AreValues values → LiesInside (values_text values)
unfolding values_text
values-inner values are = joined-inner (map value_text values) (values-are values are).1

-- values of which some may not be given
not-given : given_value_of (codes "*N") ≡ Some None
unfolding given_value_of value_of number_of unsigned units text_of
not-given = refl

given-read : (value : Option Value) → IsGiven value → given_value_of (given_text value) ≡ Some value
unfolding given_value_of
given-read None is = not-given
given-read (Some value) is = ap (λ o. option_map_or (λ v. Some (Some v)) o (if is_word (codes "*N") (value_text value) then Some None else None)) (value-read value is)

given-word : (value : Option Value) → IsGiven value → IsWord (given_text value)
given-word None is = record { text = refl; closed = refl }
given-word (Some value) is = value-word value is

given-inner : (value : Option Value) → IsGiven value → LiesInside (given_text value)
given-inner None is = refl
given-inner (Some value) is = value-inner value is

givens-are : (values : List (Option Value)) → AreGiven values → AreWords (map given_text values) × AreInside (map given_text values)
givens-are [] are = (tt, tt)
givens-are (value ∷ values) are =
    let rest = givens-are values are.1 in
    ((given-word value are.0, rest.0), (given-inner value are.0, rest.1))

givens-each : (values : List (Option Value)) → AreGiven values → each given_value_of (map given_text values) ≡ Some values
givens-each [] are = refl
givens-each (value ∷ values) are = ap (λ o. onto_others o (each given_value_of (map given_text values))) (given-read value are.0) ∙ ap (onto_others (Some value)) (givens-each values are.1)

pub givens-read : (values : List (Option Value)) → AreGiven values → given_values_of (given_values_text values) ≡ Some values
unfolding given_values_of given_values_text
givens-read values are = ap (each given_value_of) (joined-words (map given_text values) (givens-are values are).0) ∙ givens-each values are

pub givens-inner : (values : List (Option Value)) → AreGiven values → LiesInside (given_values_text values)
unfolding given_values_text
givens-inner values are = joined-inner (map given_text values) (givens-are values are).1

-- a name is no number
digit-no-name : (c : ℕ) → begins_name c ≡ true → is_digit c ≡ false
digit-no-name c is = grind (arith, nat_tests)

pub name-digits : (limit : ℕ) (name : List ℕ) → is_name name ≡ true → units limit name ≡ None
unfolding units
name-digits limit [] is = absurd cc
name-digits limit (c ∷ name) is =
    let first = (and_parts (begins_name c) (list_all continues_name name) (and_parts (begins_name c && list_all continues_name name) (nat_le (length name) 9) is).0).0 in
    ap (λ v. cond v (units_after limit 0 name) (cond (is_digit c) (units_after limit (10 * 0 + (c - 48)) name) None)) (apart begins_name c 46 first refl)
    ∙ ap (λ v. cond v (units_after limit (10 * 0 + (c - 48)) name) None) (digit-no-name c first)

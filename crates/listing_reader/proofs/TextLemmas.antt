-- Which texts lie within one word: names, numbers, texts in apostrophes and values.
use Rattle.std.proofs.Common.{◌≡◌, ℕ, zero, suc, ◌+◌, ◌-◌, ◌/◌, ◌%◌, ◌<◌, ◌^◌, ℤ, pos, negsuc, Bool, true, false, cond, ◌&&◌, ◌||◌, ◌==◌, nat_le, nat_lt, Some, None, is_some, List, [], ◌∷◌, ◌++◌, length, take, drop, replicate, refl, ap, ◌∙◌, sym, append_assoc, append-nil, take-append-drop, true≢false, arith}
use Rattle.std.specs.List.{list_all, flat_map}
use Rattle.std.specs.Option.{unwrap_or}
use Rattle.std.specs.Fmt.{decimal}
use Rattle.std.proofs.lemmas.Bool.{and_parts, cond-false, eqb-true, le-leb}
use Rattle.std.proofs.lemmas.Bool.Decides.{nat_tests}
use Rattle.std.proofs.lemmas.Fmt.{decimal_by_steps_wide}
use Rattle.std.proofs.lemmas.List.Folds.{list_all-append}
use Rattle.ebc_text.specs.CodePage.{ebcdic_of, ascii_of}
use Rattle.ebc_text.proofs.TableLemmas.{ebcdic_of-ascii_of}
use Rattle.field_types.specs.SystemName.{is_name, begins_name, continues_name}
use Rattle.field_types.specs.declared.values.Dec.{Dec}
use Rattle.text_lines.specs.Decimal.{is_digit}
use Rattle.text_lines.specs.Lines.{is_blank}
use Rattle.statement_reader.specs.Words.{after, is_outside, outside, has_text}
use Rattle.listing.specs.Texts.{character_of, has_character, quoted_character, hex_digit, hex_pair, text_literal, sign_of, magnitude, padded_digits, pointed, number_literal}
use Rattle.listing_reader.proofs.ScanLemmas.{scan, IsClosed, LiesInside, IsWord}

-- a character that passes a test isn't one that doesn't
pub apart : (P : ℕ → Bool) (c k : ℕ) → P c ≡ true → P k ≡ false → (c == k) ≡ false
apart P c k here there =
    (elim (c == k) as (λ v. (c == k) ≡ v → v ≡ false) [ true ↦ λ same. absurd (true≢false (sym here ∙ ap P (eqb-true c k same) ∙ there)) | false ↦ λ other. refl ]) refl

-- a place outside apostrophes, by the characters that leave it and come back to it
pub record IsOpen {N : Type 0} (out : N → Bool) (next : N → ℕ → N) (n : N) : Type 0 where
  pub keeps : (c : ℕ) → (c == 39) ≡ false → (c == 40) ≡ false → (c == 41) ≡ false → next n c ≡ n
  pub holds : (c : ℕ) → (c == 39) ≡ false → next (next n 39) c ≡ next n 39
  pub leaves : next (next n 39) 39 ≡ n
  pub hidden : out (next n 39) ≡ false

open-outside : IsOpen is_outside after outside
open-outside = record {
  keeps = λ c apostrophe opening closing. cond-false (c == 39) _ _ apostrophe ∙ cond-false (c == 40) _ _ opening ∙ cond-false (c == 41) _ _ closing;
  holds = λ c other. cond-false (c == 39) _ _ other;
  leaves = refl;
  hidden = refl;
}

open-inside : IsOpen is_outside after (after outside 40)
open-inside = record {
  keeps = λ c apostrophe opening closing. cond-false (c == 39) _ _ apostrophe ∙ cond-false (c == 40) _ _ opening ∙ cond-false (c == 41) _ _ closing;
  holds = λ c other. cond-false (c == 39) _ _ other;
  leaves = refl;
  hidden = refl;
}

-- characters that neither end a word nor begin or end anything
pub record IsPlain (P : ℕ → Bool) : Type 0 where
  pub blank : P 32 ≡ false
  pub tab : P 9 ≡ false
  pub feed : P 10 ≡ false
  pub apostrophe : P 39 ≡ false
  pub opening : P 40 ≡ false
  pub closing : P 41 ≡ false

-- a step at a character that is no blank and no line feed
step : {N : Type 0} (out : N → Bool) (next : N → ℕ → N) (n m : N) (c : ℕ) (text : List ℕ) → is_blank c ≡ false → (c == 10) ≡ false → next n c ≡ m → scan out next n (c ∷ text)
    ≡ scan out next m text
step out next n m c text blank feed to =
    (elim (out n) as (λ v. cond ((v && is_blank c) || (c == 10)) None (scan out next (next n c) text) ≡ scan out next (next n c) text) [
      | true ↦ ap (λ v. cond (v || (c == 10)) None (scan out next (next n c) text)) blank ∙ cond-false (c == 10) None (scan out next (next n c) text) feed
      | false ↦ cond-false (c == 10) None (scan out next (next n c) text) feed
    ]) ∙ ap (λ x. scan out next x text) to

-- a step between apostrophes
quoted-scan : {N : Type 0} (out : N → Bool) (next : N → ℕ → N) (n m : N) (c : ℕ) (text : List ℕ) → out n ≡ false → (c == 10) ≡ false → next n c ≡ m → scan out next n (c ∷ text)
    ≡ scan out next m text
quoted-scan out next n m c text inside feed to =
    ap (λ v. cond ((v && is_blank c) || (c == 10)) None (scan out next (next n c) text)) inside
    ∙ cond-false (c == 10) None (scan out next (next n c) text) feed
    ∙ ap (λ x. scan out next x text) to

no-blank : (c : ℕ) → (c == 32) ≡ false → (c == 9) ≡ false → is_blank c ≡ false
no-blank c blank tab = ap (λ v. v || (c == 9)) blank ∙ tab

pub plain : {N : Type 0} (out : N → Bool) (next : N → ℕ → N) (n : N) → IsOpen out next n → (P : ℕ → Bool) → IsPlain P → (text : List ℕ) → list_all P text ≡ true → scan out next n text ≡ Some n
plain out next n at P is [] all = refl
plain out next n at P is (c ∷ text) all =
    let parts = and_parts (P c) (list_all P text) all in
    step out next n n c text (no-blank c (apart P c 32 parts.0 is.blank) (apart P c 9 parts.0 is.tab)) (apart P c 10 parts.0 is.feed) (at.keeps c (apart P c 39 parts.0 is.apostrophe) (apart P c 40 parts.0 is.opening) (apart P c 41 parts.0 is.closing))
    ∙ plain out next n at P is text parts.1

pub plain-closed : (P : ℕ → Bool) → IsPlain P → (text : List ℕ) → list_all P text ≡ true → IsClosed text
plain-closed P is text all = plain is_outside after outside open-outside P is text all

pub plain-inside : (P : ℕ → Bool) → IsPlain P → (text : List ℕ) → list_all P text ≡ true → LiesInside text
plain-inside P is text all = plain is_outside after (after outside 40) open-inside P is text all

-- ---- names

name-plain : IsPlain continues_name
name-plain = record { blank = refl; tab = refl; feed = refl; apostrophe = refl; opening = refl; closing = refl }

or-left : (a b : Bool) → a ≡ true → a || b ≡ true
or-left a b h = ap (λ v. v || b) h

continues : (text : List ℕ) → is_name text ≡ true → list_all continues_name text ≡ true
continues [] is = absurd cc
continues (c ∷ text) is =
    let parts = and_parts (begins_name c) (list_all continues_name text) (and_parts (begins_name c && list_all continues_name text) (nat_le (length text) 9) is).0 in
    ap (λ v. (v || (nat_le 48 c && nat_le c 57) || (c == 95) || (c == 46)) && list_all continues_name text) parts.0 ∙ parts.1

pub name-inside : (text : List ℕ) → is_name text ≡ true → LiesInside text
name-inside text is = plain-inside continues_name name-plain text (continues text is)

pub name-text : (text : List ℕ) → is_name text ≡ true → has_text text ≡ true
name-text [] is = absurd cc
name-text (c ∷ text) is = refl

pub name-word : (text : List ℕ) → is_name text ≡ true → IsWord text
name-word text is = record { text = name-text text is; closed = plain-closed continues_name name-plain text (continues text is) }

-- ---- numbers

digit-plain : IsPlain is_digit
digit-plain = record { blank = refl; tab = refl; feed = refl; apostrophe = refl; opening = refl; closing = refl }

digit-is : (d : ℕ) → d < 10 → is_digit (48 + d) ≡ true
digit-is d small = grind (arith, nat_tests)

abbrev pub is_long : ℕ → Type 0
is_long n = n < 10 ^ 64

pub decimal-digits : (n : ℕ) → n < 10 ^ 64 → list_all is_digit (decimal n) ≡ true
decimal-digits n small =
    decimal_by_steps_wide (λ n ds. list_all is_digit ds ≡ true)
    (λ n one. ap (λ v. v && true) (digit-is n one))
    (λ n ds more so_far. list_all-append is_digit ds ((48 + n % 10) ∷ []) ∙ ap (λ v. v && (is_digit (48 + n % 10) && true)) so_far ∙ ap (λ v. v && true) (digit-is (n % 10) (omega arith)))
    n small

pub decimal-text : (n : ℕ) → n < 10 ^ 64 → has_text (decimal n) ≡ true
decimal-text n small =
    let whole : (more : List ℕ) → has_text (decimal n ++ more) ≡ true =
    decimal_by_steps_wide (λ n ds. (more : List ℕ) → has_text (ds ++ more) ≡ true)
    (λ n one more. refl)
    (λ n ds large so_far more. ap has_text (append_assoc ds ((48 + n % 10) ∷ []) more) ∙ so_far ((48 + n % 10) ∷ more))
    n small in
    sym (ap has_text (append-nil (decimal n))) ∙ whole []

pub decimal-inside : (n : ℕ) → n < 10 ^ 64 → LiesInside (decimal n)
decimal-inside n small = plain-inside is_digit digit-plain (decimal n) (decimal-digits n small)

pub decimal-word : (n : ℕ) → n < 10 ^ 64 → IsWord (decimal n)
decimal-word n small = record { text = decimal-text n small; closed = plain-closed is_digit digit-plain (decimal n) (decimal-digits n small) }

-- digits, a point and a sign
abbrev pub in_number : ℕ → Bool
in_number c = is_digit c || (c == 46) || (c == 45)

number-plain : IsPlain in_number
number-plain = record { blank = refl; tab = refl; feed = refl; apostrophe = refl; opening = refl; closing = refl }

digits-in : (text : List ℕ) → list_all is_digit text ≡ true → list_all in_number text ≡ true
digits-in [] all = refl
digits-in (c ∷ text) all =
    let parts = and_parts (is_digit c) (list_all is_digit text) all in
    ap (λ v. (v || (c == 46) || (c == 45)) && list_all in_number text) parts.0 ∙ digits-in text parts.1

-- all of a list that is cut in two
pub all-cut : (p : ℕ → Bool) (k : ℕ) (text : List ℕ) → list_all p text ≡ true → (list_all p (take k text) ≡ true) × (list_all p (drop k text) ≡ true)
all-cut p k text all =
    and_parts (list_all p (take k text)) (list_all p (drop k text)) (sym (list_all-append p (take k text) (drop k text)) ∙ ap (list_all p) (take-append-drop k text) ∙ all)

all-both : (p : ℕ → Bool) (a b : List ℕ) → list_all p a ≡ true → list_all p b ≡ true → list_all p (a ++ b) ≡ true
all-both p a b ha hb = list_all-append p a b ∙ ap (λ v. v && list_all p b) ha ∙ hb

zeros-digits : (k : ℕ) → list_all is_digit (replicate k 48) ≡ true
zeros-digits zero = refl
zeros-digits (suc k) = zeros-digits k

pub padded-digits : (scale n : ℕ) → n < 10 ^ 64 → list_all is_digit (padded_digits scale (decimal n)) ≡ true
padded-digits scale n small = all-both is_digit (replicate (scale + 1 - length (decimal n)) 48) (decimal n) (zeros-digits (scale + 1 - length (decimal n))) (decimal-digits n small)

pointed-in : (scale : ℕ) (digits : List ℕ) → list_all is_digit digits ≡ true → list_all in_number (pointed scale digits) ≡ true
pointed-in scale digits all =
    let parts = all-cut is_digit (length digits - scale) digits all in
    elim (scale == 0) as (λ v. list_all in_number (cond v digits (take (length digits - scale) digits ++ 46 ∷ drop (length digits - scale) digits)) ≡ true) [
      | true ↦ digits-in digits all
      | false ↦ all-both in_number (take (length digits - scale) digits) (46
          ∷ drop (length digits - scale) digits) (digits-in (take (length digits - scale) digits) parts.0) (digits-in (drop (length digits - scale) digits) parts.1)
    ]

sign-in : (units : ℤ) → list_all in_number (sign_of units) ≡ true
sign-in (pos n) = refl
sign-in (negsuc n) = refl

number-in : (d : Dec) → magnitude d.units < 10 ^ 64 → list_all in_number (number_literal d) ≡ true
unfolding number_literal
number-in d small =
    all-both in_number (sign_of d.units) (pointed d.scale (padded_digits d.scale (decimal (magnitude d.units)))) (sign-in d.units) (pointed-in d.scale (padded_digits d.scale (decimal (magnitude d.units))) (padded-digits d.scale (magnitude d.units) small))

pub number-closed : (d : Dec) → magnitude d.units < 10 ^ 64 → IsClosed (number_literal d)
number-closed d small = plain-closed in_number number-plain (number_literal d) (number-in d small)

pub number-inside : (d : Dec) → magnitude d.units < 10 ^ 64 → LiesInside (number_literal d)
number-inside d small = plain-inside in_number number-plain (number_literal d) (number-in d small)

-- ---- texts

-- a character of the code page, by its byte
pub character-is : (byte : ℕ) → has_character byte ≡ true → ascii_of byte ≡ Some (character_of byte)
character-is byte has = (elim (ascii_of byte) as (λ o. is_some o ≡ true → o ≡ Some (unwrap_or o 0)) [ None ↦ λ no. absurd cc | Some character ↦ λ yes. refl ]) has

pub byte-is : (byte : ℕ) → has_character byte ≡ true → ebcdic_of (character_of byte) ≡ Some byte
byte-is byte has = ebcdic_of-ascii_of byte (character_of byte) (character-is byte has)

abbrev pub in_code_page : ℕ → Bool
in_code_page character = is_some (ebcdic_of character)

no-feed : (byte : ℕ) → has_character byte ≡ true → (character_of byte == 10) ≡ false
unfolding ebcdic_of
no-feed byte has = apart in_code_page (character_of byte) 10 (ap is_some (byte-is byte has)) refl

-- a hexadecimal digit
abbrev pub in_hex : ℕ → Bool
in_hex c = nat_le 48 c

digit-in_hex : (n : ℕ) → in_hex (hex_digit n) ≡ true
digit-in_hex n = elim (nat_lt n 10) as (λ v. nat_le 48 (cond v (48 + n) (55 + n)) ≡ true) [ true ↦ le-leb 48 (48 + n) (omega arith) | false ↦ le-leb 48 (55 + n) (omega arith) ]

module _ {N : Type 0} (out : N → Bool) (next : N → ℕ → N) (n : N) (at : IsOpen out next n) where
  quoted-step : (byte : ℕ) (rest : List ℕ) → has_character byte ≡ true → scan out next (next n 39) (quoted_character byte ++ rest) ≡ scan out next (next n 39) rest
  quoted-step byte rest has =
      let feed = no-feed byte has in
      (elim (character_of byte == 39) as (λ v. (character_of byte == 39) ≡ v → scan out next (next n 39) ((cond v (39 ∷ 39 ∷ []) (character_of byte ∷ [])) ++ rest)
      ≡ scan out next (next n 39) rest) [
        | true ↦ λ same. quoted-scan out next (next n 39) n 39 (39 ∷ rest) at.hidden refl at.leaves ∙ step out next n (next n 39) 39 rest refl refl refl
        | false ↦ λ other. quoted-scan out next (next n 39) (next n 39) (character_of byte) rest at.hidden feed (at.holds (character_of byte) other)
      ]) refl

  quotes-scan : (text : List ℕ) → list_all has_character text ≡ true → scan out next (next n 39) (flat_map quoted_character text ++ 39 ∷ []) ≡ Some n
  quotes-scan [] all = quoted-scan out next (next n 39) n 39 [] at.hidden refl at.leaves
  quotes-scan (byte ∷ text) all =
      let parts = and_parts (has_character byte) (list_all has_character text) all in
      ap (scan out next (next n 39)) (append_assoc (quoted_character byte) (flat_map quoted_character text) (39 ∷ []))
      ∙ quoted-step byte (flat_map quoted_character text ++ 39 ∷ []) parts.0
      ∙ quotes-scan text parts.1

  hex-step : (digit : ℕ) (rest : List ℕ) → scan out next (next n 39) (hex_digit digit ∷ rest) ≡ scan out next (next n 39) rest
  hex-step digit rest =
      quoted-scan out next (next n 39) (next n 39) (hex_digit digit) rest at.hidden (apart in_hex (hex_digit digit) 10 (digit-in_hex digit) refl) (at.holds (hex_digit digit) (apart in_hex (hex_digit digit) 39 (digit-in_hex digit) refl))

  hex-scan : (text : List ℕ) → scan out next (next n 39) (flat_map hex_pair text ++ 39 ∷ []) ≡ Some n
  hex-scan [] = quoted-scan out next (next n 39) n 39 [] at.hidden refl at.leaves
  hex-scan (byte ∷ text) =
      hex-step (byte / 16) (hex_digit (byte % 16) ∷ (flat_map hex_pair text ++ 39 ∷ []))
      ∙ hex-step (byte % 16) (flat_map hex_pair text ++ 39 ∷ [])
      ∙ hex-scan text

  text-scan : (text : List ℕ) → scan out next n (text_literal text) ≡ Some n
  unfolding text_literal
  text-scan text =
      (elim (list_all has_character text) as (λ v. list_all has_character text ≡ v → scan out next n (cond v (39 ∷ (flat_map quoted_character text ++ 39 ∷ [])) (88 ∷ 39
      ∷ (flat_map hex_pair text ++ 39 ∷ []))) ≡ Some n) [
        | true ↦ λ all. step out next n (next n 39) 39 (flat_map quoted_character text ++ 39 ∷ []) refl refl refl ∙ quotes-scan text all
        | false ↦ λ some. step out next n n 88 (39 ∷ (flat_map hex_pair text ++ 39 ∷ [])) refl refl (at.keeps 88 refl refl refl)
            ∙ step out next n (next n 39) 39 (flat_map hex_pair text ++ 39 ∷ []) refl refl refl ∙ hex-scan text
      ]) refl

pub text-inside : (text : List ℕ) → LiesInside (text_literal text)
text-inside text = text-scan is_outside after (after outside 40) open-inside text

text-text : (text : List ℕ) → has_text (text_literal text) ≡ true
unfolding text_literal
text-text text = elim (list_all has_character text) as (λ v. has_text (cond v (39 ∷ (flat_map quoted_character text ++ 39 ∷ [])) (88 ∷ 39 ∷ (flat_map hex_pair text ++ 39 ∷ [])))
    ≡ true) [ true ↦ refl | false ↦ refl ]

pub text-word : (text : List ℕ) → IsWord (text_literal text)
text-word text = record { text = text-text text; closed = text-scan is_outside after outside open-outside text }

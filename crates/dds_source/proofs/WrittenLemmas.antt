-- Lines in their columns, written and read.
use Rattle.std.proofs.Common.{◌≡◌, ℕ, zero, suc, ◌-◌, Bool, true, false, not, ◌&&◌, ◌==◌, List, [], ◌∷◌, ◌++◌, length, drop, replicate, Some, refl, ap, ◌∙◌, arith, inl, inr, one-add}
use Rattle.std.specs.List.{list_all, before_first}
use Rattle.std.specs.Option.{is_none, option_map}
use Rattle.std.proofs.lemmas.Bool.{cases_Bool}
use Rattle.std.proofs.Math.Bool.{and-false}
use Rattle.std.proofs.lemmas.List.{drop_at}
use Rattle.text_lines.specs.SystemName.{is_name, begins_name, continues_name}
use Rattle.dds_source.specs.declared.specifications.NameEntry.TheVariants as names
use Rattle.dds_source.specs.declared.specifications.LengthEntry.TheVariants.{Exactly}
use Rattle.text_lines.specs.Lines.{is_blank, are_blanks}
use Rattle.text_lines.specs.Decimal.{is_digit}
use Rattle.dds_source.specs.Numbers.{decimal, from_first, are_digits, unsigned_entry, after_sign, signed_entry}
use Rattle.dds_source.specs.Entries.{name_entry, letter}
use Rattle.dds_source.specs.Written.{left, right, number_said, length_said, letter_said, is_letter_or_blank}

-- Names with blanks behind them.

abbrev are_written : List ℕ → Bool
are_written cs = list_all (λ c. not (is_blank c)) cs

continued_is_written : (c : ℕ) → continues_name c ≡ true → not (is_blank c) ≡ true
continued_is_written c h = grind arith

name_characters : (cs : List ℕ) → list_all continues_name cs ≡ true → are_written cs ≡ true
name_characters [] h = refl
name_characters (c ∷ cs) h =
    let first : continues_name c ≡ true = grind arith in
    let rest : list_all continues_name cs ≡ true = grind arith in
    let written : not (is_blank c) ≡ true = continued_is_written c first in
    rw written (name_characters cs rest)

blanks_are_blank : (n : ℕ) → are_blanks (replicate n 32) ≡ true
blanks_are_blank zero = refl
blanks_are_blank (suc n) = blanks_are_blank n

before_blanks : (n : ℕ) → before_first is_blank (replicate n 32) ≡ []
before_blanks zero = refl
before_blanks (suc n) = refl

before_more : (c : ℕ) (cs : List ℕ) → not (is_blank c) ≡ true → before_first is_blank (c ∷ cs) ≡ c ∷ before_first is_blank cs
before_more c cs h = rw (h, one-add) refl

before_padded : (name : List ℕ) (n : ℕ) → are_written name ≡ true → before_first is_blank (name ++ replicate n 32) ≡ name
before_padded [] n h = before_blanks n
before_padded (c ∷ cs) n h =
    let first : not (is_blank c) ≡ true = grind arith in
    let rest : are_written cs ≡ true = grind arith in
    before_more c (cs ++ replicate n 32) first ∙ ap (λ (xs : List ℕ). c ∷ xs) (before_padded cs n rest)

begun_is_written : (c : ℕ) → begins_name c ≡ true → is_blank c ≡ false
begun_is_written c h = grind arith

padded_first : (name : List ℕ) (n : ℕ) → is_name name ≡ true → are_blanks (name ++ replicate n 32) ≡ false
padded_first [] n h = absurd (cc)
padded_first (c ∷ cs) n h =
    let begins : begins_name c ≡ true = grind arith in
    let first : is_blank c ≡ false = begun_is_written c begins in
    rw first refl

name_entry_is : (is_key : Bool) (cs word : List ℕ) → before_first is_blank cs ≡ word → are_blanks cs ≡ false → are_blanks (drop (length word) cs) ≡ true → is_name word ≡ true
    → name_entry is_key cs ≡ Some (names.Named word)
name_entry_is is_key cs word a b c d = rw (a, b, c, d) refl

is_name_written : (name : List ℕ) → is_name name ≡ true → are_written name ≡ true
is_name_written [] h = absurd (cc)
is_name_written (c ∷ cs) h =
    let begins : continues_name c ≡ true = grind arith in
    let rest : list_all continues_name cs ≡ true = grind arith in
    name_characters (c ∷ cs) (rw begins rest)

pub name_entry-left : (is_key : Bool) (name : List ℕ) → is_name name ≡ true → name_entry is_key (left 10 name) ≡ Some (names.Named name)
name_entry-left is_key name h =
    name_entry_is is_key (left 10 name) name
    (before_padded name (10 - length name) (is_name_written name h))
    (padded_first name (10 - length name) h)
    (rw (drop_at name (replicate (10 - length name) 32) (length name) refl) (blanks_are_blank (10 - length name)))
    h

-- Numbers with blanks ahead of them.

digit_is_written : (d : ℕ) → is_digit d ≡ true → (is_blank d ≡ false) × ((d == 43) ≡ false) × ((d == 45) ≡ false)
digit_is_written d h = (grind arith, grind arith, grind arith)

from_first_padded : (n d : ℕ) (ds : List ℕ) → is_blank d ≡ false → from_first (replicate n 32 ++ d ∷ ds) ≡ d ∷ ds
from_first_padded zero d ds h = rw h refl
from_first_padded (suc n) d ds h = from_first_padded n d ds h

digits_are : (d : ℕ) (ds : List ℕ) → list_all is_digit (d ∷ ds) ≡ true → are_digits (d ∷ ds) ≡ true
digits_are d ds h = grind arith

unsigned_entry_is : (cs digits : List ℕ) → from_first cs ≡ digits → are_digits digits ≡ true → unsigned_entry cs ≡ Some (decimal digits)
unsigned_entry_is cs digits a b = rw (a, b) refl

pub unsigned_entry-right : (ds : List ℕ) → list_all is_digit ds ≡ true → unsigned_entry (right 2 ds) ≡ number_said ds
unsigned_entry-right [] h = refl
unsigned_entry-right (d ∷ ds) h =
    let first : is_digit d ≡ true = grind arith in
    unsigned_entry_is (right 2 (d ∷ ds)) (d ∷ ds) (from_first_padded (2 - length (d ∷ ds)) d ds (digit_is_written d first).0) (digits_are d ds h)

after_digit : (signs : Bool) (d : ℕ) (ds : List ℕ) → is_digit d ≡ true → are_digits (d ∷ ds) ≡ true → after_sign signs (d ∷ ds) ≡ Some (Exactly (decimal (d ∷ ds)))
after_digit signs d ds h g =
    let w = digit_is_written d h in
    let plus : (signs && (d == 43)) ≡ false = rw w.1 (and-false signs) in
    let minus : (signs && (d == 45)) ≡ false = rw w.2 (and-false signs) in
    let number : unsigned_entry (d ∷ ds) ≡ Some (decimal (d ∷ ds)) = unsigned_entry_is (d ∷ ds) (d ∷ ds) (from_first_padded 0 d ds w.0) g in
    rw (plus, minus) (ap (option_map (λ (n : ℕ). Exactly n)) number)

pub signed_entry-right : (signs : Bool) (ds : List ℕ) → list_all is_digit ds ≡ true → signed_entry signs (right 5 ds) ≡ length_said ds
signed_entry-right signs [] h = refl
signed_entry-right signs (d ∷ ds) h =
    let first : is_digit d ≡ true = grind arith in
    ap (after_sign signs) (from_first_padded (5 - length (d ∷ ds)) d ds (digit_is_written d first).0) ∙ after_digit signs d ds first (digits_are d ds h)

pub length_is_right : (signs : Bool) (ds : List ℕ) → list_all is_digit ds ≡ true → (not (are_blanks (right 5 ds)) && is_none (signed_entry signs (right 5 ds))) ≡ false
length_is_right signs [] h = refl
length_is_right signs (d ∷ ds) h = rw (signed_entry-right signs (d ∷ ds) h) (and-false (not (are_blanks (right 5 (d ∷ ds)))))

pub decimals_are_right : (ds : List ℕ) → list_all is_digit ds ≡ true → (not (are_blanks (right 2 ds)) && is_none (unsigned_entry (right 2 ds))) ≡ false
decimals_are_right [] h = refl
decimals_are_right (d ∷ ds) h = rw (unsigned_entry-right (d ∷ ds) h) (and-false (not (are_blanks (right 2 (d ∷ ds)))))

-- Letters.

pub letter_is : (c : ℕ) → is_letter_or_blank c ≡ true → letter c ≡ letter_said c
letter_is c h =
    let no_tab : (c == 9) ≡ false = grind arith in
    elim (cases_Bool (c == 32)) [ inl e ↦ rw (e) refl | inr e ↦ rw (e, no_tab) refl ]

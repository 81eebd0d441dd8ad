-- What follows of packed numbers: their digits byte by byte, and the spare half byte.
use Rattle.std.proofs.Common.{◌≡◌, ℕ, zero, suc, ◌+◌, ◌*◌, ◌%◌, ◌^◌, ◌<◌, ◌≤◌, Bool, true, false, ◌&&◌, ◌==◌, Option, Some, None, List, [], ◌∷◌, ◌++◌, length, take, get_or, refl, sym, ◌∙◌, ap, arith, lit<}
use Rattle.std.proofs.lemmas.List.{take_more, take_all}
use Rattle.std.proofs.lemmas.Bool.{and_parts, and_from}
use Rattle.std.proofs.Math.Bool.{or-true}
use Rattle.std.proofs.Math.Nat.{pow-le-pow_right}
use Rattle.field_values.specs.Digits.{number_in, high_half, low_half, last_byte}
use Rattle.field_values.specs.Packed.{is_digit_pair, is_digit_sign, is_packed, is_spare_clear, packed_digits}
use Rattle.field_values.specs.FirstBad.{IsFirstBad, TellsFirstBad}
use Rattle.field_values.proofs.DigitLemmas.{number_in-append, number_in-more}
use Rattle.field_values.proofs.FirstBadLemmas.{IsFirstBad-head}
use Rattle.field_values.proofs.EndsLemmas.{passes, word, passes-word}

-- the half bytes of bytes
abbrev pub halves : List ℕ → List ℕ
halves [] = []
halves (b ∷ bs) = high_half b ∷ low_half b ∷ halves bs

halves-append : (xs ys : List ℕ) → halves (xs ++ ys) ≡ halves xs ++ halves ys
halves-append [] ys = refl
halves-append (x ∷ xs) ys = ap (λ w. high_half x ∷ low_half x ∷ w) (halves-append xs ys)

-- two digits more of those that are read
pub number_in-halves_pair : (xs : List ℕ) (i : ℕ) → i < length xs → number_in 10 (halves (take (i + 1) xs)) ≡ number_in 10 (halves (take i xs)) * 100 + (10 * high_half (get_or xs i 0) + low_half (get_or xs i 0))
number_in-halves_pair xs i lt =
    let split : halves (take (i + 1) xs) ≡ halves (take i xs) ++ high_half (get_or xs i 0) ∷ low_half (get_or xs i 0) ∷ [] = ap halves (take_more xs i 0 lt) ∙ halves-append (take i xs) (get_or xs i 0 ∷ []) in
    ap (number_in 10) split ∙ number_in-append 10 (halves (take i xs)) (high_half (get_or xs i 0) ∷ low_half (get_or xs i 0) ∷ []) ∙ omega arith

packed_digits-front : (front : List ℕ) (last : ℕ) → packed_digits (front ++ last ∷ []) ≡ halves front ++ high_half last ∷ []
packed_digits-front [] last = refl
packed_digits-front (b ∷ []) last = refl
packed_digits-front (b ∷ c ∷ bs) last = ap (λ w. high_half b ∷ low_half b ∷ w) (packed_digits-front (c ∷ bs) last)

pub front-and-last : (xs : List ℕ) (n : ℕ) → n + 1 ≡ length xs → xs ≡ take n xs ++ get_or xs n 0 ∷ []
front-and-last xs n e = sym (take_all (n + 1) xs (omega arith)) ∙ take_more xs n 0 (omega arith)

-- the number of a packed field's digits
pub number_in-packed_digits : (xs : List ℕ) (n : ℕ) → n + 1 ≡ length xs → number_in 10 (packed_digits xs) ≡ number_in 10 (halves (take n xs)) * 10 + high_half (get_or xs n 0)
number_in-packed_digits xs n e =
    ap (λ w. number_in 10 (packed_digits w)) (front-and-last xs n e)
    ∙ ap (number_in 10) (packed_digits-front (take n xs) (get_or xs n 0))
    ∙ number_in-more 10 (halves (take n xs)) (high_half (get_or xs n 0))

last_byte-more : (front : List ℕ) (last : ℕ) → last_byte (front ++ last ∷ []) ≡ last
last_byte-more [] last = refl
last_byte-more (b ∷ []) last = refl
last_byte-more (b ∷ c ∷ bs) last = last_byte-more (c ∷ bs) last

pub last_byte-get_or : (xs : List ℕ) (n : ℕ) → n + 1 ≡ length xs → last_byte xs ≡ get_or xs n 0
last_byte-get_or xs n e = ap last_byte (front-and-last xs n e) ∙ last_byte-more (take n xs) (get_or xs n 0)

-- n bytes of a packed number
abbrev pub packs : ℕ → ℕ → List ℕ → Bool
packs digits n w = (length w == n) && (is_packed w && is_spare_clear digits w)

packs-from : (digits n : ℕ) (w : List ℕ) → passes is_digit_pair is_digit_sign n w ≡ true → is_spare_clear digits w ≡ true → packs digits n w ≡ true
packs-from digits n w p s =
    let parts : ((length w == n) ≡ true) × (is_packed w ≡ true) = and_parts (length w == n) (is_packed w) p in
    and_from (length w == n) (is_packed w && is_spare_clear digits w) parts.0 (and_from (is_packed w) (is_spare_clear digits w) parts.1 s)

packs-parts : (digits n : ℕ) (w : List ℕ) → packs digits n w ≡ true → (passes is_digit_pair is_digit_sign n w ≡ true) × (is_spare_clear digits w ≡ true)
packs-parts digits n w h =
    let parts : ((length w == n) ≡ true) × ((is_packed w && is_spare_clear digits w) ≡ true) = and_parts (length w == n) (is_packed w && is_spare_clear digits w) h in
    let inner : (is_packed w ≡ true) × (is_spare_clear digits w ≡ true) = and_parts (is_packed w) (is_spare_clear digits w) parts.1 in
    (and_from (length w == n) (is_packed w) parts.0 inner.0, inner.1)

clear-word : (digits n : ℕ) → is_spare_clear digits (word 0 15 n) ≡ true
clear-word digits zero = or-true (digits % 2 == 1)
clear-word digits (suc n) = or-true (digits % 2 == 1)

pub packs-word : (digits n : ℕ) → packs digits (suc n) (word 0 15 n) ≡ true
packs-word digits n = packs-from digits (suc n) (word 0 15 n) (passes-word is_digit_pair is_digit_sign 0 15 n refl refl) (clear-word digits n)

-- a digit stands in the spare half byte
pub IsFirstBad-spare : (digits : ℕ) (image : List ℕ) → 0 < length image → is_spare_clear digits image ≡ false → IsFirstBad (packs digits (length image)) image 0
IsFirstBad-spare digits [] some h = absurd (omega arith)
IsFirstBad-spare digits (b ∷ bs) some h =
    IsFirstBad-head (packs digits (suc (length bs))) b bs (word 0 15 (length bs)) (packs-word digits (length bs))
    (λ other e. (let clear : is_spare_clear digits (b ∷ other) ≡ true = (packs-parts digits (suc (length bs)) (b ∷ other) e).1 in cc))

-- none does: the other bytes decide
pub TellsFirstBad-clear : (digits : ℕ) (image : List ℕ) (place : Option ℕ) → 0 < length image → is_spare_clear digits image ≡ true →
    TellsFirstBad (passes is_digit_pair is_digit_sign (length image)) image place → TellsFirstBad (packs digits (length image)) image place
TellsFirstBad-clear digits [] place some clear h = absurd (omega arith)
TellsFirstBad-clear digits (b ∷ bs) None some clear h = packs-from digits (suc (length bs)) (b ∷ bs) h clear
TellsFirstBad-clear digits (b ∷ bs) (Some zero) some clear h =
    IsFirstBad-head (packs digits (suc (length bs))) b bs (word 0 15 (length bs)) (packs-word digits (length bs)) (λ other e. h.bad other (packs-parts digits (suc (length bs)) (b ∷ other) e).0)
TellsFirstBad-clear digits (b ∷ bs) (Some (suc k)) some clear h = record {
  within = h.within;
  rest = h.rest;
  good = packs-from digits (suc (length bs)) (b ∷ (take k bs ++ h.rest)) h.good clear;
  bad = λ other e. h.bad other (packs-parts digits (suc (length bs)) (take (suc k + 1) (b ∷ bs) ++ other) e).0;
}

-- digits two by two stay small
pub pairs-fit : (m i : ℕ) → m + 2 ≤ 2 * 100 ^ i → i ≤ 15 → m < 2000000000000000000000000000000
pairs-fit m i h le =
    let power : 100 ^ i ≤ 100 ^ 15 = pow-le-pow_right (lit< tt) le in
    omega arith

-- What follows of two's complement: against the words of `byteorder`, and with the sign's bit turned.
use Rattle.std.proofs.Common.{◌≡◌, ℕ, zero, suc, ◌+◌, ◌-◌, ◌*◌, ◌/◌, ◌%◌, ◌^◌, ◌<◌, ◌≤◌, Bool, true, false, cond, ◌&&◌, ◌==◌, nat_lt, Option, Some, None, is_some, ◌⊎◌, inl, inr, ℤ, pos, negsuc, neg_ℤ, ◌-ℤ◌, unsigned_abs, List, [], ◌∷◌, ◌++◌, length, take, drop, map, set, get_or, Fits, FitsSigned, w8, refl, sym, ◌∙◌, ap, subst, arith, lit<}
use Rattle.std.specs.List.{list_all}
use Rattle.std.specs.Int.{w64, bytes_high_first, cast_unsigned}
use Rattle.std.proofs.lemmas.List.{drop_all, length-drop}
use Rattle.std.proofs.lemmas.Nat.{pow-add, one_shl}
use Rattle.std.proofs.lemmas.Bool.{and_parts, and_from, eqb-true, eq-eqb, ne_eqb, ltb-true, lt-ltb, le-ltb, le-leb, lt-leb, cases_lt, cases_eq}
use Rattle.std.proofs.Math.Nat.{pow-suc, one-le-pow, div-one, div-add-mod, mul-le-mul_right, mod-lt, mul_comm, suc-add, pow-le-pow_right}
use Rattle.std.proofs.Math.Seq.{drop-cons, take-append_seam}
use Rattle.byteorder.specs.Endian as endian
use Rattle.field_values.specs.FieldTypes.{is_between, binary_width}
use Rattle.field_values.specs.Digits.{number_in, digits_in}
use Rattle.field_values.specs.Binary.{is_byte, twos_complement, binary_number, binary_bytes}
use Rattle.field_values.specs.Bounds.{spells_between, digit_from}
use Rattle.field_values.specs.FirstBad.{IsFirstBad, TellsFirstBad}
use Rattle.field_values.proofs.DigitLemmas.{number_in-lt, digits_in-above}
use Rattle.field_values.proofs.BoundsLemmas.{is_between-from, is_between-parts}
use Rattle.field_values.proofs.FirstBadLemmas.{IsFirstBad-head, TellsFirstBad-same}

-- two's complement of the bytes from place i on, by the words of `byteorder`
big_from-number_in : (i n : ℕ) (xs : List ℕ) → i + n ≡ length xs → endian.big_from i n xs ≡ number_in 256 (drop i xs)
big_from-number_in i zero xs e = rw (drop_all i xs (omega arith)) refl
big_from-number_in i (suc n) xs e =
    let lt : i < length xs = omega arith in
    let rest : endian.big_from (suc i) n xs ≡ number_in 256 (drop (suc i) xs) = big_from-number_in (suc i) n xs (omega arith) in
    let long : length (drop (suc i) xs) ≡ n = length-drop (suc i) xs ∙ omega arith in
    rw (drop-cons xs i 0 lt, long, rest) refl

pub big_number-number_in : (xs : List ℕ) → endian.big_number (length xs) xs ≡ number_in 256 xs
big_number-number_in xs = big_from-number_in 0 (length xs) xs (omega arith)

pub bytes_high_first-digits_in : (n x : ℕ) → bytes_high_first n x ≡ digits_in 256 n x
bytes_high_first-digits_in zero x = refl
bytes_high_first-digits_in (suc zero) x = rw (div-one x) refl
bytes_high_first-digits_in (suc (suc n)) x = ap (λ w. x / 256 ^ suc n % 256 ∷ w) (bytes_high_first-digits_in (suc n) x)

pub bytes-bits : (n : ℕ) → 256 ^ n ≡ 2 ^ (8 * n)
bytes-bits zero = refl
bytes-bits (suc n) =
    let more : 8 * suc n ≡ 8 * n + 8 = omega arith in
    rw (pow-suc 256 n, more, pow-add 2 (8 * n) 8, bytes-bits n) refl

pub middle-bits : (n : ℕ) → 1 ≤ n → 256 ^ n ≡ 2 * 2 ^ (8 * n - 1)
middle-bits n some =
    let more : 8 * n ≡ suc (8 * n - 1) = omega arith in
    bytes-bits n ∙ ap (λ k. 2 ^ k) more ∙ pow-suc 2 (8 * n - 1) ∙ omega arith

sub-below : (x n : ℕ) → x < n → pos x -ℤ pos n ≡ neg_ℤ (pos (n - x))
sub-below x zero lt = absurd (omega arith)
sub-below x (suc m) lt =
    let less : suc m - x ≡ suc (suc m - suc x) = omega arith in
    rw (lt-ltb x (suc m) lt, less) refl

pub twos_complement-same : (n x : ℕ) → 1 ≤ n → x < 256 ^ n → endian.twos_complement n x ≡ twos_complement n x
twos_complement-same n x some lt =
    let middle : 256 ^ n ≡ 2 * 2 ^ (8 * n - 1) = middle-bits n some in
    elim (cases_lt x (2 ^ (8 * n - 1))) [
      | inl low ↦ (let small : 2 * x < 256 ^ n = omega arith in rw (lt-ltb x (2 ^ (8 * n - 1)) low, lt-ltb (2 * x) (256 ^ n) small) refl)
      | inr high ↦ (let great : 256 ^ n ≤ 2 * x = omega arith in
          rw (le-ltb x (2 ^ (8 * n - 1)) high, le-ltb (2 * x) (256 ^ n) great, ← bytes-bits n) (sub-below x (256 ^ n) lt))
    ]

digits_in-mod : (n x : ℕ) → digits_in 256 n (x % 256 ^ n) ≡ digits_in 256 n x
digits_in-mod n x =
    let split : x / 256 ^ n * 256 ^ n + x % 256 ^ n ≡ x = (omega (arith, div-add-mod x (256 ^ n))) in
    sym (digits_in-above 256 n (x / 256 ^ n) (x % 256 ^ n) (lit< tt)) ∙ ap (digits_in 256 n) split

-- the low bytes of a 64 bit number are its field's bytes
pub bytes-written : (n : ℕ) (z : ℤ) → 1 ≤ n → n ≤ 8 → 2 * unsigned_abs z < 256 ^ n → bytes_high_first n (cast_unsigned w64 z % 2 ^ (8 * n)) ≡ binary_bytes n z
bytes-written n (pos k) some few small = rw (← bytes-bits n) (bytes_high_first-digits_in n (k % 256 ^ n) ∙ digits_in-mod n k)
bytes-written n (negsuc k) some few small =
    let split : 256 ^ 8 ≡ 256 ^ (8 - n) * 256 ^ n = ap (λ e. 256 ^ e) (let e : 8 ≡ (8 - n) + n = omega arith in e) ∙ pow-add 256 (8 - n) n in
    let pos_power : 1 ≤ 256 ^ (8 - n) = one-le-pow (8 - n) 256 (lit< tt) in
    let one_less : 256 ^ (8 - n) ≡ (256 ^ (8 - n) - 1) + 1 = omega arith in
    let product : 256 ^ (8 - n) * 256 ^ n ≡ (256 ^ (8 - n) - 1) * 256 ^ n + 256 ^ n = ap (λ a. a * 256 ^ n) one_less ∙ omega arith in
    let whole : 2 ^ 64 - suc k ≡ (256 ^ (8 - n) - 1) * 256 ^ n + (256 ^ n - suc k) = omega (arith, split, product) in
    rw (← bytes-bits n) (bytes_high_first-digits_in n ((2 ^ 64 - suc k) % 256 ^ n) ∙ digits_in-mod n (2 ^ 64 - suc k) ∙ ap (digits_in 256 n) whole ∙ digits_in-above 256 n (256 ^ (8 - n) - 1) (256 ^ n - suc k) (lit< tt))

-- n bytes of a binary number
abbrev pub binaries : ℕ → ℕ → List ℕ → Bool
binaries digits n w = (length w == n) && (list_all is_byte w && nat_lt (unsigned_abs (twos_complement (length w) (number_in 256 w))) (10 ^ digits))

is_some-cond : {A : Type 0} (b : Bool) (x : A) → is_some (cond b (Some x) None) ≡ b
is_some-cond true x = refl
is_some-cond false x = refl

pub binaries-same : (digits n : ℕ) (w : List ℕ) → binaries digits n w ≡ ((length w == n) && is_some (binary_number digits w))
binaries-same digits n w = ap (λ b. (length w == n) && b) (sym (is_some-cond (list_all is_byte w && nat_lt (unsigned_abs (twos_complement (length w) (number_in 256 w))) (10 ^ digits)) (twos_complement (length w) (number_in 256 w))))

-- the sign's bit turned
abbrev pub turned : ℕ → ℕ
turned b = (b + 128) % 256

both-true : (a b : Bool) → (a ≡ true → b ≡ true) → (b ≡ true → a ≡ true) → a ≡ b
both-true true true f g = refl
both-true true false f g = sym (f refl)
both-true false true f g = g refl
both-true false false f g = refl

low-half : (digits p b n half : ℕ) → b < 128 → n < p → half ≡ 128 * p → 0 < 10 ^ digits →
    is_between (half - (10 ^ digits - 1)) (half + (10 ^ digits - 1)) ((b + 128) * p + n) ≡ nat_lt (unsigned_abs (cond (nat_lt (2 * (b * p + n)) (256 * p)) (pos (b * p + n)) (neg_ℤ (pos (256 * p - (b * p + n)))))) (10 ^ digits)
low-half digits p b n half lt below middle some =
    let wide : (b + 1) * p ≤ 128 * p = mul-le-mul_right p (let le : b + 1 ≤ 128 = omega arith in le) in
    let small : 2 * (b * p + n) < 256 * p = omega arith in
    rw (lt-ltb (2 * (b * p + n)) (256 * p) small)
    (both-true (is_between (half - (10 ^ digits - 1)) (half + (10 ^ digits - 1)) ((b + 128) * p + n)) (nat_lt (b * p + n) (10 ^ digits))
    (λ h. lt-ltb (b * p + n) (10 ^ digits) (let range = is_between-parts (half - (10 ^ digits - 1)) (half + (10 ^ digits - 1)) ((b + 128) * p + n) h in omega (arith, range.1)))
    (λ h. is_between-from (half - (10 ^ digits - 1)) (half + (10 ^ digits - 1)) ((b + 128) * p + n) (omega arith) (let lt10 : b * p + n < 10 ^ digits = ltb-true (b * p + n) (10 ^ digits) h in omega arith)))

unsigned_abs-neg : (n : ℕ) → unsigned_abs (neg_ℤ (pos n)) ≡ n
unsigned_abs-neg zero = refl
unsigned_abs-neg (suc n) = refl

high-half : (digits p e n half : ℕ) → e < 128 → n < p → half ≡ 128 * p → 0 < 10 ^ digits →
    is_between (half - (10 ^ digits - 1)) (half + (10 ^ digits - 1)) (e * p + n) ≡ nat_lt (unsigned_abs (cond (nat_lt (2 * ((e + 128) * p + n)) (256 * p)) (pos ((e + 128) * p + n)) (neg_ℤ (pos (256 * p - ((e + 128) * p + n)))))) (10 ^ digits)
high-half digits p e n half lt below middle some =
    let wide : (e + 1) * p ≤ 128 * p = mul-le-mul_right p (let le : e + 1 ≤ 128 = omega arith in le) in
    let great : 256 * p ≤ 2 * ((e + 128) * p + n) = omega arith in
    rw (le-ltb (2 * ((e + 128) * p + n)) (256 * p) great, unsigned_abs-neg (256 * p - ((e + 128) * p + n)))
    (both-true (is_between (half - (10 ^ digits - 1)) (half + (10 ^ digits - 1)) (e * p + n)) (nat_lt (256 * p - ((e + 128) * p + n)) (10 ^ digits))
    (λ h. lt-ltb (256 * p - ((e + 128) * p + n)) (10 ^ digits) (let range = is_between-parts (half - (10 ^ digits - 1)) (half + (10 ^ digits - 1)) (e * p + n) h in omega (arith, range.0)))
    (λ h. is_between-from (half - (10 ^ digits - 1)) (half + (10 ^ digits - 1)) (e * p + n)
    (let lt10 : 256 * p - ((e + 128) * p + n) < 10 ^ digits = ltb-true (256 * p - ((e + 128) * p + n)) (10 ^ digits) h in omega arith) (omega arith)))

turned-core : (digits m half b n : ℕ) → b < 256 → n < 256 ^ m → half ≡ 128 * 256 ^ m →
    is_between (half - (10 ^ digits - 1)) (half + (10 ^ digits - 1)) (turned b * 256 ^ m + n) ≡ nat_lt (unsigned_abs (cond (nat_lt (2 * (b * 256 ^ m + n)) (256 * 256 ^ m)) (pos (b * 256 ^ m + n)) (neg_ℤ (pos (256 * 256 ^ m - (b * 256 ^ m + n)))))) (10 ^ digits)
turned-core digits m half b n byte below middle =
    let some : 0 < 10 ^ digits = one-le-pow digits 10 (lit< tt) in
    elim (cases_lt b 128) [
      | inl low ↦ (let up : turned b ≡ b + 128 = omega arith in rw up (low-half digits (256 ^ m) b n half low below middle some))
      | inr high ↦ (let down : turned b ≡ b - 128 = omega arith in
          let back : b ≡ (b - 128) + 128 = omega arith in
          let less : b - 128 < 128 = omega arith in
          let core = high-half digits (256 ^ m) (b - 128) n half less below middle some in
          rw down (rw (← back) at core))
    ]

turned-same : (digits m half b : ℕ) → b < 256 → half ≡ 128 * 256 ^ m → (w : List ℕ) → length w ≡ m → (bytes : Bool) → list_all is_byte w ≡ bytes →
    spells_between 256 (half - (10 ^ digits - 1)) (half + (10 ^ digits - 1)) (suc m) (turned b ∷ w) ≡ binaries digits (suc m) (b ∷ w)
turned-same digits m half b byte middle w same false e =
    rw (eq-eqb (suc (length w)) (suc m) (ap suc same), lt-ltb (turned b) 256 (mod-lt (b + 128) (lit< tt)), lt-ltb b 256 byte, e) refl
turned-same digits m half b byte middle w same true e =
    let below : number_in 256 w < 256 ^ m = rw same at (number_in-lt 256 w (lit< tt) e) in
    rw (eq-eqb (suc (length w)) (suc m) (ap suc same), lt-ltb (turned b) 256 (mod-lt (b + 128) (lit< tt)), lt-ltb b 256 byte, e, same, pow-suc 256 m, mul_comm (256 ^ m) 256)
    (turned-core digits m half b (number_in 256 w) byte below middle)

-- with the first byte turned a number of the field lies between the least and the greatest
turned-test : (digits m half b : ℕ) → b < 256 → half ≡ 128 * 256 ^ m → (w : List ℕ) →
    spells_between 256 (half - (10 ^ digits - 1)) (half + (10 ^ digits - 1)) (suc m) (turned b ∷ w) ≡ binaries digits (suc m) (b ∷ w)
turned-test digits m half b byte middle w =
    elim (cases_eq (length w) m) [
      | inl same ↦ turned-same digits m half b byte middle w same (list_all is_byte w) refl
      | inr other ↦ (let differ : suc (length w) ≡ suc m → ⊥ = λ (e : suc (length w) ≡ suc m). other (omega arith) in rw (ne_eqb (suc (length w)) (suc m) differ) refl)
    ]

turned_twice : (b : ℕ) → b < 256 → turned (turned b) ≡ b
turned_twice b lt = omega arith

-- the first byte of an image turned
abbrev pub turned_front : List ℕ → List ℕ
turned_front [] = []
turned_front (b ∷ bs) = turned b ∷ bs

-- what is told of the turned image is told of the image
pub TellsFirstBad-turned : (digits half : ℕ) (image : List ℕ) (m : ℕ) (place : Option ℕ) → length image ≡ suc m → get_or image 0 0 < 256 → half ≡ 128 * 256 ^ m →
    TellsFirstBad (spells_between 256 (half - (10 ^ digits - 1)) (half + (10 ^ digits - 1)) (suc m)) (turned_front image) place → TellsFirstBad (binaries digits (suc m)) image place
TellsFirstBad-turned digits half [] m place long byte middle h = absurd (omega arith)
TellsFirstBad-turned digits half (b ∷ bs) m None long byte middle h = sym (turned-test digits m half b byte middle bs) ∙ h
TellsFirstBad-turned digits half (b ∷ bs) m (Some zero) long byte middle h =
    elim h.rest as (λ r. spells_between 256 (half - (10 ^ digits - 1)) (half + (10 ^ digits - 1)) (suc m) r ≡ true → IsFirstBad (binaries digits (suc m)) (b ∷ bs) 0) [
      | [] ↦ λ good.
          (let none : 0 ≡ suc m = eqb-true 0 (suc m) (and_parts (0 == suc m) true (and_parts ((0 == suc m) && true) (is_between (half - (10 ^ digits - 1)) (half + (10 ^ digits - 1)) 0) good).0).0 in absurd (omega arith))
      | x ∷ xs ↦ λ good.
          (let front = (and_parts ((suc (length xs) == suc m) && (nat_lt x 256 && list_all (λ d. nat_lt d 256) xs)) (is_between (half - (10 ^ digits - 1)) (half + (10 ^ digits - 1)) (x * 256 ^ length xs + number_in 256 xs)) good).0 in
          let digit : x < 256 = ltb-true x 256 (and_parts (nat_lt x 256) (list_all (λ d. nat_lt d 256) xs) (and_parts (suc (length xs) == suc m) (nat_lt x 256 && list_all (λ d. nat_lt d 256) xs) front).1).0 in
          let there : binaries digits (suc m) (turned x ∷ xs) ≡ true = sym (turned-test digits m half (turned x) (mod-lt (x + 128) (lit< tt)) middle xs) ∙ rw (turned_twice x digit) good in
          IsFirstBad-head (binaries digits (suc m)) b bs (turned x ∷ xs) there (λ other e. h.bad other (turned-test digits m half b byte middle other ∙ e)))
    ] h.good
TellsFirstBad-turned digits half (b ∷ bs) m (Some (suc k)) long byte middle h = record {
  within = h.within;
  rest = h.rest;
  good = sym (turned-test digits m half b byte middle (take k bs ++ h.rest)) ∙ h.good;
  bad = λ other e. h.bad other (rw (suc-add k 1) (turned-test digits m half b byte middle (take (k + 1) bs ++ other) ∙ (rw (suc-add k 1) at e)));
}

pub all-bytes : (xs : List ℕ) → ((i : ℕ) → Fits w8 (get_or xs i 0)) → list_all is_byte xs ≡ true
all-bytes [] h = refl
all-bytes (x ∷ xs) h = and_from (nat_lt x 256) (list_all is_byte xs) (lt-ltb x 256 (let byte : x < 256 = omega (arith, h 0) in byte)) (all-bytes xs (λ i. h (suc i)))

pub fits-half : (z : ℤ) (n : ℕ) → n ≤ 8 → 2 * unsigned_abs z < 256 ^ n → FitsSigned w64 z
fits-half (pos k) n le h = (let power : 256 ^ n ≤ 256 ^ 8 = pow-le-pow_right (lit< tt) le in record { sfits = omega arith })
fits-half (negsuc k) n le h = (let power : 256 ^ n ≤ 256 ^ 8 = pow-le-pow_right (lit< tt) le in record { sfits = omega arith })

-- the numbers of so many digits take less than half of those of the bytes
pub binary-room : (digits : ℕ) → digits ≤ 18 → 2 * 10 ^ digits ≤ 256 ^ binary_width digits
binary-room digits le =
    elim (cases_lt 4 digits) [
      | inr four ↦ (let power : 10 ^ digits ≤ 10 ^ 4 = pow-le-pow_right (lit< tt) four in rw (le-leb digits 4 four) (omega arith))
      | inl more ↦ elim (cases_lt 9 digits) [
        | inr nine ↦ (let power : 10 ^ digits ≤ 10 ^ 9 = pow-le-pow_right (lit< tt) nine in rw (lt-leb digits 4 more, le-leb digits 9 nine) (omega arith))
        | inl most ↦ (let power : 10 ^ digits ≤ 10 ^ 18 = pow-le-pow_right (lit< tt) le in rw (lt-leb digits 4 more, lt-leb digits 9 most) (omega arith))
      ]
    ]

pub binary_width-cases : (digits : ℕ) → (binary_width digits ≡ 2) ⊎ ((binary_width digits ≡ 4) ⊎ (binary_width digits ≡ 8))
binary_width-cases digits =
    elim (cases_lt 4 digits) [
      | inr four ↦ inl (rw (le-leb digits 4 four) refl)
      | inl more ↦ elim (cases_lt 9 digits) [
        | inr nine ↦ inr (inl (rw (lt-leb digits 4 more, le-leb digits 9 nine) refl))
        | inl most ↦ inr (inr (rw (lt-leb digits 4 more, lt-leb digits 9 most) refl))
      ]
    ]

pub binary_width-bounds : (digits : ℕ) → (2 ≤ binary_width digits) × (binary_width digits ≤ 8)
binary_width-bounds digits =
    elim (binary_width-cases digits) [
      | inl two ↦ (omega arith, omega arith)
      | inr more ↦ elim more [ inl four ↦ (omega arith, omega arith) | inr eight ↦ (omega arith, omega arith) ]
    ]

pub turned_front-length : (image : List ℕ) → length (turned_front image) ≡ length image
turned_front-length [] = refl
turned_front-length (b ∷ bs) = refl

-- the array whose front is the image with its first byte turned
pub turned-array : (image self rest : List ℕ) → self ≡ image → 0 < length image → take (length image) (set (self ++ rest) 0 ((get_or (self ++ rest) 0 0 + 128) % 256)) ≡ turned_front image
turned-array [] self rest e some = absurd (omega arith)
turned-array (b ∷ bs) self rest e some = rw e (ap (λ w. turned b ∷ w) (take-append_seam bs rest))

digits-zero : (xs : List ℕ) → list_all is_byte xs ≡ true → map (digit_from 0) xs ≡ xs
digits-zero [] h = refl
digits-zero (x ∷ xs) h =
    let parts : (nat_lt x 256 ≡ true) × (list_all is_byte xs ≡ true) = and_parts (nat_lt x 256) (list_all is_byte xs) h in
    let byte : x < 256 = ltb-true x 256 parts.0 in
    let same : (x + 256) % 256 ≡ x = omega arith in
    rw (same, digits-zero xs parts.1) refl

turned_front-bytes : (xs : List ℕ) → list_all is_byte xs ≡ true → list_all is_byte (turned_front xs) ≡ true
turned_front-bytes [] h = refl
turned_front-bytes (x ∷ xs) h =
    and_from (nat_lt (turned x) 256) (list_all is_byte xs) (lt-ltb (turned x) 256 (mod-lt (x + 128) (lit< tt))) (and_parts (nat_lt x 256) (list_all is_byte xs) h).1

-- the number in the middle of those of n bytes
pub middle-shift : (n : ℕ) → 1 ≤ n → n ≤ 8 → (1 * 2 ^ (8 * n - 1)) % 2 ^ 64 ≡ 2 ^ (8 * n - 1)
middle-shift n some few = one_shl (8 * n - 1) 64 (omega arith)

middle-power : (m : ℕ) → 2 ^ (8 * suc m - 1) ≡ 128 * 256 ^ m
middle-power m =
    let more : 8 * suc m - 1 ≡ 8 * m + 7 = omega arith in
    rw (more, pow-add 2 (8 * m) 7, bytes-bits m) (omega arith)

pub IsFirstBad-binary : (digits : ℕ) (image digits_turned : List ℕ) (middle most : ℕ) (place : Option ℕ) →
    TellsFirstBad (spells_between 256 (middle - most) (middle + most) (length digits_turned)) (map (digit_from 0) digits_turned) place →
    0 < length image → ((i : ℕ) → Fits w8 (get_or image i 0)) → digits_turned ≡ turned_front image → middle ≡ 2 ^ (8 * length image - 1) → most ≡ 10 ^ digits - 1 →
    TellsFirstBad (λ bytes. (length bytes == length image) && is_some (binary_number digits bytes)) image place
IsFirstBad-binary digits [] digits_turned middle most place h some bytes same half ten = absurd (omega arith)
IsFirstBad-binary digits (b ∷ bs) digits_turned middle most place h some bytes same half ten =
    let all : list_all is_byte (b ∷ bs) ≡ true = all-bytes (b ∷ bs) bytes in
    let one = subst (λ (w : List ℕ). TellsFirstBad (spells_between 256 (middle - most) (middle + most) (length w)) (map (digit_from 0) w) place) same h in
    let two = subst (λ (w : List ℕ). TellsFirstBad (spells_between 256 (middle - most) (middle + most) (suc (length bs))) w place) (digits-zero (turned_front (b ∷ bs)) (turned_front-bytes (b ∷ bs) all)) one in
    let there = subst (λ (k : ℕ). TellsFirstBad (spells_between 256 (middle - k) (middle + k) (suc (length bs))) (turned_front (b ∷ bs)) place) ten two in
    TellsFirstBad-same (binaries digits (suc (length bs))) (λ w. (length w == suc (length bs)) && is_some (binary_number digits w)) (b ∷ bs) place (binaries-same digits (suc (length bs)))
    (TellsFirstBad-turned digits middle (b ∷ bs) (length bs) place refl (ltb-true b 256 (and_parts (nat_lt b 256) (list_all is_byte bs) all).0) (half ∙ middle-power (length bs)) there)

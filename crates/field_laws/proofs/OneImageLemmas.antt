-- The bytes of an image again from the digits and the sign that stand in it.
use Rattle.std.proofs.Common.{◌≡◌, ℕ, zero, suc, ◌+◌, ◌-◌, ◌*◌, ◌/◌, ◌%◌, ◌^◌, ◌<◌, ◌≤◌, Bool, true, false, not, cond, ◌&&◌, ◌==◌, nat_lt, IsTrue, Some, None, option_map, inl, inr, ℤ, pos, negsuc, neg_ℤ, unsigned_abs, List, [], ◌∷◌, length, map, refl, sym, ◌∙◌, ap, subst, arith, lit<, append-nil}
use Rattle.std.specs.List.{list_all}
use Rattle.std.proofs.lemmas.List.{length-map}
use Rattle.std.proofs.lemmas.Bool.{and_parts, and_from, eqb-true, eqb-false, ltb-false, or_cases, not-true, cases_Bool}
use Rattle.std.proofs.Math.Nat.{mul-div_left, one-le-pow}
use Rattle.field_types.specs.declared.kinds.Kind.{Kind}
use Rattle.field_types.specs.declared.kinds.Kind.TheVariants.{Char, Zoned, Packed, Binary, Date, Time, Stamp}
use Rattle.field_types.specs.declared.kinds.FieldType.{FieldType}
use Rattle.field_types.specs.declared.values.Value.{Value}
use Rattle.field_types.specs.declared.values.Value.TheVariants.{Chars}
use Rattle.field_values.specs.FieldTypes.{IsFieldType, packed_width, binary_width}
use Rattle.field_values.specs.Digits.{number_in, digits_in, is_digit, high_half, low_half, is_minus, is_sign, sign_of, signed, is_negative, last_byte}
use Rattle.field_values.specs.Zoned.{is_zone_digit, is_zoned, zoned_bytes}
use Rattle.field_values.specs.Packed.{is_digit_pair, is_packed, is_spare_clear, packed_digits, packed_bytes}
use Rattle.field_values.specs.Binary.{is_byte, twos_complement}
use Rattle.field_values.specs.Moments.{is_date, is_time, is_timestamp}
use Rattle.field_values.specs.FieldBytes.{held, stands, decimal, written, filled, units_at, number_written}
use Rattle.field_values.proofs.DigitLemmas.{digits_in-number_in, number_in-lt}
use Rattle.field_values.proofs.FieldLemmas.{field}
use Rattle.field_laws.specs.WrittenForm.{is_written_sign, has_written_form}

join-halves : (b : ℕ) → 16 * high_half b + low_half b ≡ b
join-halves b = omega arith

-- a zoned image is its digits under its sign
pub zoned-again : (w : List ℕ) → is_zoned w ≡ true → (zoned_bytes (map low_half w) (high_half (last_byte w)) ≡ w) × (list_all is_digit (map low_half w) ≡ true)
zoned-again [] h = cc
zoned-again (b ∷ []) h =
    let parts : (is_digit (low_half b) ≡ true) × (is_sign (high_half b) ≡ true) = and_parts (is_digit (low_half b)) (is_sign (high_half b)) h in
    (ap (λ (k : ℕ). k ∷ []) (join-halves b), and_from (is_digit (low_half b)) true parts.0 refl)
zoned-again (b ∷ c ∷ bs) h =
    let parts : (is_zone_digit b ≡ true) × (is_zoned (c ∷ bs) ≡ true) = and_parts (is_zone_digit b) (is_zoned (c ∷ bs)) h in
    let digit : (is_digit (low_half b) ≡ true) × ((high_half b == 15) ≡ true) = and_parts (is_digit (low_half b)) (high_half b == 15) parts.0 in
    let zone : b / 16 ≡ 15 = eqb-true (b / 16) 15 digit.1 in
    let byte : 240 + b % 16 ≡ b = omega arith in
    let rest : (zoned_bytes (map low_half (c ∷ bs)) (high_half (last_byte (c ∷ bs))) ≡ c ∷ bs) × (list_all is_digit (map low_half (c ∷ bs)) ≡ true) = zoned-again (c ∷ bs) parts.1 in (
      ap (λ (k : ℕ). k ∷ zoned_bytes (map low_half (c ∷ bs)) (high_half (last_byte (c ∷ bs)))) byte ∙ ap (λ (v : List ℕ). b ∷ v) rest.0,
      and_from (is_digit (low_half b)) (list_all is_digit (map low_half (c ∷ bs))) digit.0 rest.1,
    )

-- a packed image is its digits and its sign
pub packed-again : (w : List ℕ) → is_packed w ≡ true → (packed_bytes (packed_digits w) (low_half (last_byte w)) ≡ w) × (list_all is_digit (packed_digits w) ≡ true) × (length (packed_digits w) ≡ 2 * length w - 1)
packed-again [] h = cc
packed-again (b ∷ []) h =
    let parts : (is_digit (high_half b) ≡ true) × (is_sign (low_half b) ≡ true) = and_parts (is_digit (high_half b)) (is_sign (low_half b)) h in
    (ap (λ (k : ℕ). k ∷ []) (join-halves b), and_from (is_digit (high_half b)) true parts.0 refl, refl)
packed-again (b ∷ c ∷ bs) h =
    let parts : (is_digit_pair b ≡ true) × (is_packed (c ∷ bs) ≡ true) = and_parts (is_digit_pair b) (is_packed (c ∷ bs)) h in
    let digits : (is_digit (high_half b) ≡ true) × (is_digit (low_half b) ≡ true) = and_parts (is_digit (high_half b)) (is_digit (low_half b)) parts.0 in
    let rest = packed-again (c ∷ bs) parts.1 in
    let long : length (packed_digits (c ∷ bs)) ≡ 2 * length (c ∷ bs) - 1 = rest.2 in (
      ap (λ (k : ℕ). k ∷ packed_bytes (packed_digits (c ∷ bs)) (low_half (last_byte (c ∷ bs)))) (join-halves b) ∙ ap (λ (v : List ℕ). b ∷ v) rest.0,
      and_from (is_digit (high_half b)) (list_all is_digit (low_half b ∷ packed_digits (c ∷ bs))) digits.0 (and_from (is_digit (low_half b)) (list_all is_digit (packed_digits (c ∷ bs))) digits.1 rest.1),
      omega (arith, long),
    )

-- the sign that is written for the number is the image's
sign-again : (s m : ℕ) → is_written_sign s m ≡ true → (unsigned_abs (signed (is_minus s) m) ≡ m) × (sign_of (is_negative (signed (is_minus s) m)) ≡ s)
sign-again s m h =
    elim (or_cases (s == 15) ((s == 13) && not (m == 0)) h) [
      | inl plus ↦ (let is : s ≡ 15 = eqb-true s 15 plus in rw is (refl, refl))
      | inr minus ↦
          (let parts : ((s == 13) ≡ true) × (not (m == 0) ≡ true) = and_parts (s == 13) (not (m == 0)) minus in
          let is : s ≡ 13 = eqb-true s 13 parts.0 in
          let some : (m ≡ 0) → ⊥ = eqb-false m 0 (not-true (m == 0) parts.1) in
          rw is (below m some))
    ]
  where
    below : (n : ℕ) → (n ≡ 0 → ⊥) → (unsigned_abs (neg_ℤ (pos n)) ≡ n) × (sign_of (is_negative (neg_ℤ (pos n))) ≡ 13)
    below zero none = absurd (none refl)
    below (suc n) none = (refl, refl)

zoned-only : (n : ℕ) (w : List ℕ) (z : ℤ) → length w ≡ n → is_zoned w ≡ true → z ≡ signed (is_minus (high_half (last_byte w))) (number_in 10 (map low_half w)) → is_written_sign (high_half (last_byte w)) (number_in 10 (map low_half w)) ≡ true → w ≡ number_written Zoned n z
zoned-only n w z long zoned value form =
    let again = zoned-again w zoned in
    let sign = sign-again (high_half (last_byte w)) (number_in 10 (map low_half w)) form in
    let count : length (map low_half w) ≡ n = length-map w low_half ∙ long in
    let digits : digits_in 10 n (number_in 10 (map low_half w)) ≡ map low_half w = subst (λ (k : ℕ). digits_in 10 k (number_in 10 (map low_half w)) ≡ map low_half w) count (digits_in-number_in 10 (map low_half w) (lit< tt) again.1) in
    rw (value, sign.0, sign.1, digits) (sym again.0)

packed-only : (n : ℕ) (w : List ℕ) (z : ℤ) → length w ≡ packed_width n → is_packed w ≡ true → z ≡ signed (is_minus (low_half (last_byte w))) (number_in 10 (packed_digits w)) → is_written_sign (low_half (last_byte w)) (number_in 10 (packed_digits w)) ≡ true → w ≡ number_written Packed n z
packed-only n w z long packed value form =
    let again = packed-again w packed in
    let sign = sign-again (low_half (last_byte w)) (number_in 10 (packed_digits w)) form in
    let count : length (packed_digits w) ≡ 2 * packed_width n - 1 = again.2 ∙ ap (λ (k : ℕ). 2 * k - 1) long in
    let digits : digits_in 10 (2 * packed_width n - 1) (number_in 10 (packed_digits w)) ≡ packed_digits w = subst (λ (k : ℕ). digits_in 10 k (number_in 10 (packed_digits w)) ≡ packed_digits w) count (digits_in-number_in 10 (packed_digits w) (lit< tt) again.1) in
    rw (value, sign.0, sign.1, digits) (sym again.0)

twos-again : (n x : ℕ) → x < 256 ^ n → cond (is_negative (twos_complement n x)) (256 ^ n - unsigned_abs (twos_complement n x)) (unsigned_abs (twos_complement n x)) ≡ x
twos-again n x lt =
    elim (cases_Bool (nat_lt (2 * x) (256 ^ n))) [
      | inl low ↦ rw low refl
      | inr high ↦
          (let half : 256 ^ n ≤ 2 * x = ltb-false (2 * x) (256 ^ n) high in
          let split : 256 ^ n - x ≡ suc (256 ^ n - x - 1) = omega arith in
          let back : 256 ^ n - suc (256 ^ n - x - 1) ≡ x = omega arith in
          rw (high, split) back)
    ]

binary-only : (n : ℕ) (w : List ℕ) (z : ℤ) → length w ≡ binary_width n → list_all is_byte w ≡ true → z ≡ twos_complement (length w) (number_in 256 w) → w ≡ number_written Binary n z
binary-only n w z long bytes value =
    let below : number_in 256 w < 256 ^ length w = number_in-lt 256 w (lit< tt) bytes in
    let number = twos-again (length w) (number_in 256 w) below in
    let same : digits_in 256 (length w) (number_in 256 w) ≡ w = digits_in-number_in 256 w (lit< tt) bytes in
    rw (value, ← long, number) (sym same)

-- a number with the field's decimals is its units
pub units-same : (d : ℕ) (z : ℤ) → units_at d (record { units = z; scale = d }) ≡ z
units-same d (pos k) = ap pos (mul-div_left k (one-le-pow d 10 (lit< tt)))
units-same d (negsuc k) = ap (λ (m : ℕ). neg_ℤ (pos m)) (mul-div_left (suc k) (one-le-pow d 10 (lit< tt)))

-- what stands in a decimal field
pub from-number : (a b : Bool) (d : ℕ) (z : ℤ) (v : Value) → cond a (option_map (decimal d) (cond b (Some z) None)) None ≡ Some v → (a ≡ true) × (b ≡ true) × (v ≡ decimal d z)
from-number true true d z v h = (refl, refl, cc)
from-number true false d z v h = cc
from-number false b d z v h = cc

pub from-moment : (a b : Bool) (w : List ℕ) (v : Value) → cond a (cond b (Some (Chars w)) None) None ≡ Some v → (a ≡ true) × (b ≡ true) × (v ≡ Chars w)
from-moment true true w v h = (refl, refl, cc)
from-moment true false w v h = cc
from-moment false b w v h = cc

pub from-text : (a : Bool) (w : List ℕ) (v : Value) → cond a (Some (Chars w)) None ≡ Some v → (a ≡ true) × (v ≡ Chars w)
from-text true w v h = (refl, cc)
from-text false w v h = cc

filled-whole : (n : ℕ) (w : List ℕ) → length w ≡ n → w ≡ filled n w
filled-whole n w long = (let none : n - length w ≡ 0 = omega arith in rw none (sym (append-nil w)))

of-kind : (kind : Kind) (n d : ℕ) (v : Value) (w : List ℕ) → held (field kind n d) w ≡ Some v → has_written_form kind w ≡ true → w ≡ written (field kind n d) v
unfolding held written
of-kind Char n d v w h form =
    let is = from-text (length w == n) w v h in
    rw is.1 (filled-whole n w (eqb-true (length w) n is.0))
of-kind Zoned n d v w h form =
    let is = from-number (length w == n) (is_zoned w) d (signed (is_minus (high_half (last_byte w))) (number_in 10 (map low_half w))) v h in
    rw (is.2, units-same d (signed (is_minus (high_half (last_byte w))) (number_in 10 (map low_half w))))
    (zoned-only n w (signed (is_minus (high_half (last_byte w))) (number_in 10 (map low_half w))) (eqb-true (length w) n is.0) is.1 refl form)
of-kind Packed n d v w h form =
    let is = from-number (length w == packed_width n) (is_packed w && is_spare_clear n w) d (signed (is_minus (low_half (last_byte w))) (number_in 10 (packed_digits w))) v h in
    rw (is.2, units-same d (signed (is_minus (low_half (last_byte w))) (number_in 10 (packed_digits w))))
    (packed-only n w (signed (is_minus (low_half (last_byte w))) (number_in 10 (packed_digits w))) (eqb-true (length w) (packed_width n) is.0) (and_parts (is_packed w) (is_spare_clear n w) is.1).0 refl form)
of-kind Binary n d v w h form =
    let is = from-number (length w == binary_width n) (list_all is_byte w && nat_lt (unsigned_abs (twos_complement (length w) (number_in 256 w))) (10 ^ n)) d (twos_complement (length w) (number_in 256 w)) v h in
    rw (is.2, units-same d (twos_complement (length w) (number_in 256 w)))
    (binary-only n w (twos_complement (length w) (number_in 256 w)) (eqb-true (length w) (binary_width n) is.0) (and_parts (list_all is_byte w) (nat_lt (unsigned_abs (twos_complement (length w) (number_in 256 w))) (10 ^ n)) is.1).0 refl)
of-kind Date n d v w h form =
    let is = from-moment (length w == n) (is_date w) w v h in
    rw is.2 (filled-whole n w (eqb-true (length w) n is.0))
of-kind Time n d v w h form =
    let is = from-moment (length w == n) (is_time w) w v h in
    rw is.2 (filled-whole n w (eqb-true (length w) n is.0))
of-kind Stamp n d v w h form =
    let is = from-moment (length w == n) (is_timestamp w) w v h in
    rw is.2 (filled-whole n w (eqb-true (length w) n is.0))

pub written-only : (t : FieldType) (v : Value) (image : List ℕ) → IsFieldType t → stands t v image → IsTrue (has_written_form t.kind image) → image ≡ written t v
written-only t v image allowed there form = of-kind t.kind t.length t.decimals v image there form

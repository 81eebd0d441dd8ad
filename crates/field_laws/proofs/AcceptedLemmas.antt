-- What stands in a field isn't refused there, and is held as it is.
use Rattle.std.proofs.Common.{◌≡◌, ℕ, suc, ◌+◌, ◌-◌, ◌*◌, ◌/◌, ◌%◌, ◌^◌, ◌<◌, Bool, true, false, not, cond, ◌&&◌, ◌||◌, ◌==◌, nat_lt, Option, Some, None, inl, inr, ℤ, unsigned_abs, List, [], ◌∷◌, length, map, refl, ◌∙◌, ap, subst, arith, lit<}
use Rattle.std.specs.List.{list_all}
use Rattle.std.proofs.lemmas.List.{length-map}
use Rattle.std.proofs.lemmas.Bool.{and_parts, eqb-true, or_cases, cases_lt, ltb-true, le-ltb, lt-leb, not-false}
use Rattle.std.proofs.Math.Nat.{div-mul_cancel, dvd_of_mod-eq-zero}
use Rattle.field_types.specs.declared.kinds.Kind.{Kind}
use Rattle.field_types.specs.declared.kinds.Kind.TheVariants.{Char, Zoned, Packed, Binary, Date, Time, Stamp}
use Rattle.field_types.specs.declared.kinds.FieldType.{FieldType}
use Rattle.field_types.specs.declared.values.Dec.{Dec}
use Rattle.field_types.specs.declared.values.Value.{Value}
use Rattle.field_types.specs.declared.values.Value.TheVariants.{Chars, Number}
use Rattle.field_types.specs.declared.faults.ValueFault.{ValueFault}
use Rattle.field_types.specs.declared.faults.ValueFault.TheVariants.{WrongKind, TooManyDecimals, TooWide}
use Rattle.field_values.specs.FieldTypes.{packed_width, binary_width, is_numeric, is_moment_kind}
use Rattle.field_values.specs.Digits.{number_in, is_digit, high_half, low_half, is_minus, is_negative, signed, last_byte}
use Rattle.field_values.specs.Zoned.{is_zoned}
use Rattle.field_values.specs.Packed.{is_packed, is_spare_clear, packed_digits}
use Rattle.field_values.specs.Binary.{is_byte, twos_complement}
use Rattle.field_values.specs.Moments.{is_moment, is_date, is_time, is_timestamp}
use Rattle.field_values.specs.FieldBytes.{held, stands, decimal, as_held, fault_of, units_at, has_more_decimals, is_too_wide, text_fault, number_fault}
use Rattle.field_values.proofs.DigitLemmas.{number_in-lt}
use Rattle.field_values.proofs.ScaleLemmas.{number_fault-Ok, unsigned_abs-signed}
use Rattle.field_values.proofs.FieldLemmas.{field}
use Rattle.field_laws.proofs.WrittenLemmas.{filled-same}
use Rattle.field_laws.proofs.OneImageLemmas.{zoned-again, packed-again, units-same, from-number, from-moment, from-text}

-- a number of the field's decimals and digits
number-accepted : (n d : ℕ) (z : ℤ) → unsigned_abs z < 10 ^ n → number_fault n d (record { units = z; scale = d }) ≡ None
number-accepted n d z small =
    number_fault-Ok n d (unsigned_abs z) (record { units = z; scale = d }) refl
    ∙ ap (λ (b : Bool). cond b (Some TooWide) None) (lt-leb (10 ^ n) (unsigned_abs z) small)

text-accepted : (kind : Kind) (n : ℕ) (w : List ℕ) → length w ≡ n → (is_moment_kind kind && not (is_moment kind w)) ≡ false → text_fault kind n w ≡ None
text-accepted kind n w long good =
    let fits : nat_lt n (length w) ≡ false = le-ltb n (length w) (omega arith) in
    rw (fits, good) refl

-- digits are below the power of ten of their number
zoned-small : (n : ℕ) (w : List ℕ) → length w ≡ n → is_zoned w ≡ true → unsigned_abs (signed (is_minus (high_half (last_byte w))) (number_in 10 (map low_half w))) < 10 ^ n
zoned-small n w long zoned =
    let below : number_in 10 (map low_half w) < 10 ^ length (map low_half w) = number_in-lt 10 (map low_half w) (lit< tt) (zoned-again w zoned).1 in
    let count : length (map low_half w) ≡ n = length-map w low_half ∙ long in
    rw (unsigned_abs-signed (is_minus (high_half (last_byte w))) (number_in 10 (map low_half w)))
    (subst (λ (k : ℕ). number_in 10 (map low_half w) < 10 ^ k) count below)

-- a spare digit is 0
spare-small : (n x : ℕ) (xs : List ℕ) → list_all is_digit (x ∷ xs) ≡ true → suc (length xs) ≡ suc (n / 2 + n / 2) → ((n % 2 == 1) || (x == 0)) ≡ true → number_in 10 (x ∷ xs) < 10 ^ n
spare-small n x xs digits long clear =
    elim (cases_lt 0 (n % 2)) [
      | inl odd ↦
          (let all : suc (length xs) ≡ n = omega arith in
          subst (λ (k : ℕ). number_in 10 (x ∷ xs) < 10 ^ k) all (number_in-lt 10 (x ∷ xs) (lit< tt) digits))
      | inr even ↦
          (let rest : number_in 10 xs < 10 ^ length xs = number_in-lt 10 xs (lit< tt) (and_parts (is_digit x) (list_all is_digit xs) digits).1 in
          let all : length xs ≡ n = omega arith in
          let none : x ≡ 0 = elim (or_cases (n % 2 == 1) (x == 0) clear) [
            | inl one ↦ absurd (let is : n % 2 ≡ 1 = eqb-true (n % 2) 1 one in omega arith)
            | inr zero ↦ eqb-true x 0 zero
          ] in
          rw (none, ← all) (omega arith))
    ]

packed-digits-small : (n : ℕ) (w : List ℕ) → length w ≡ packed_width n → is_packed w ≡ true → is_spare_clear n w ≡ true → number_in 10 (packed_digits w) < 10 ^ n
packed-digits-small n [] long packed clear = absurd (omega arith)
packed-digits-small n (b ∷ []) long packed clear =
    let again = packed-again (b ∷ []) packed in
    spare-small n (high_half b) [] again.1 (omega arith) clear
packed-digits-small n (b ∷ c ∷ bs) long packed clear =
    let again = packed-again (b ∷ c ∷ bs) packed in
    let count : length (packed_digits (b ∷ c ∷ bs)) ≡ 2 * length (b ∷ c ∷ bs) - 1 = again.2 in
    spare-small n (high_half b) (low_half b ∷ packed_digits (c ∷ bs)) again.1 (omega arith) clear

packed-small : (n : ℕ) (w : List ℕ) → length w ≡ packed_width n → is_packed w ≡ true → is_spare_clear n w ≡ true → unsigned_abs (signed (is_minus (low_half (last_byte w))) (number_in 10 (packed_digits w))) < 10 ^ n
packed-small n w long packed clear =
    rw (unsigned_abs-signed (is_minus (low_half (last_byte w))) (number_in 10 (packed_digits w))) (packed-digits-small n w long packed clear)

-- what stands there isn't refused, and is as it is held
pub record IsKept (t : FieldType) (v : Value) : Type 0 where
  pub accepted : fault_of t v ≡ None
  pub same : as_held t v ≡ v

of-kind : (kind : Kind) (n d : ℕ) (v : Value) (w : List ℕ) → held (field kind n d) w ≡ Some v → IsKept (field kind n d) v
unfolding held fault_of as_held
of-kind Char n d v w h =
    let is = from-text (length w == n) w v h in
    let long : length w ≡ n = eqb-true (length w) n is.0 in
    rw is.1 (record { accepted = text-accepted Char n w long refl; same = ap Chars (filled-same n w long) })
of-kind Zoned n d v w h =
    let z = signed (is_minus (high_half (last_byte w))) (number_in 10 (map low_half w)) in
    let is = from-number (length w == n) (is_zoned w) d z v h in
    let small = zoned-small n w (eqb-true (length w) n is.0) is.1 in
    rw is.2 (record { accepted = number-accepted n d z small; same = ap (decimal d) (units-same d z) })
of-kind Packed n d v w h =
    let z = signed (is_minus (low_half (last_byte w))) (number_in 10 (packed_digits w)) in
    let is = from-number (length w == packed_width n) (is_packed w && is_spare_clear n w) d z v h in
    let parts : (is_packed w ≡ true) × (is_spare_clear n w ≡ true) = and_parts (is_packed w) (is_spare_clear n w) is.1 in
    let small = packed-small n w (eqb-true (length w) (packed_width n) is.0) parts.0 parts.1 in
    rw is.2 (record { accepted = number-accepted n d z small; same = ap (decimal d) (units-same d z) })
of-kind Binary n d v w h =
    let z = twos_complement (length w) (number_in 256 w) in
    let is = from-number (length w == binary_width n) (list_all is_byte w && nat_lt (unsigned_abs z) (10 ^ n)) d z v h in
    let small = ltb-true (unsigned_abs z) (10 ^ n) (and_parts (list_all is_byte w) (nat_lt (unsigned_abs z) (10 ^ n)) is.1).1 in
    rw is.2 (record { accepted = number-accepted n d z small; same = ap (decimal d) (units-same d z) })
of-kind Date n d v w h =
    let is = from-moment (length w == n) (is_date w) w v h in
    let long : length w ≡ n = eqb-true (length w) n is.0 in
    rw is.2 (record { accepted = text-accepted Date n w long (ap not is.1); same = ap Chars (filled-same n w long) })
of-kind Time n d v w h =
    let is = from-moment (length w == n) (is_time w) w v h in
    let long : length w ≡ n = eqb-true (length w) n is.0 in
    rw is.2 (record { accepted = text-accepted Time n w long (ap not is.1); same = ap Chars (filled-same n w long) })
of-kind Stamp n d v w h =
    let is = from-moment (length w == n) (is_timestamp w) w v h in
    let long : length w ≡ n = eqb-true (length w) n is.0 in
    rw is.2 (record { accepted = text-accepted Stamp n w long (ap not is.1); same = ap Chars (filled-same n w long) })

pub held-kept : (t : FieldType) (v : Value) (image : List ℕ) → stands t v image → IsKept t v
held-kept t v image there = of-kind t.kind t.length t.decimals v image there

-- a number that isn't refused loses no digit
of-numeric : (numeric : Bool) (fault : Option ValueFault) → cond numeric fault (Some WrongKind) ≡ None → fault ≡ None
of-numeric true fault h = h
of-numeric false fault h = absurd (let e : ◌≡◌ {A = Option ValueFault} (Some WrongKind) None = h in cc)

no-more : (more wide : Bool) → cond more (Some TooManyDecimals) (cond wide (Some TooWide) None) ≡ None → more ≡ false
no-more true wide h = absurd (let e : ◌≡◌ {A = Option ValueFault} (Some TooManyDecimals) None = h in cc)
no-more false wide h = refl

pub held-number : (t : FieldType) (n : Dec) → fault_of t (Number n) ≡ None → unsigned_abs (units_at t.decimals n) * 10 ^ n.scale ≡ unsigned_abs n.units * 10 ^ t.decimals
unfolding fault_of
held-number t n h =
    let none : number_fault t.length t.decimals n ≡ None = of-numeric (is_numeric t.kind) (number_fault t.length t.decimals n) h in
    let whole : has_more_decimals t.decimals n ≡ false = no-more (has_more_decimals t.decimals n) (is_too_wide t.length (units_at t.decimals n)) none in
    let exact : unsigned_abs n.units * 10 ^ t.decimals % 10 ^ n.scale ≡ 0 = eqb-true (unsigned_abs n.units * 10 ^ t.decimals % 10 ^ n.scale) 0 (not-false (unsigned_abs n.units * 10 ^ t.decimals % 10 ^ n.scale == 0) whole) in
    ap (λ (k : ℕ). k * 10 ^ n.scale) (unsigned_abs-signed (is_negative n.units) (unsigned_abs n.units * 10 ^ t.decimals / 10 ^ n.scale))
    ∙ div-mul_cancel (10 ^ n.scale) (dvd_of_mod-eq-zero (10 ^ n.scale) exact)

-- The written image of a value, kind by kind, and what stands in it.
use Rattle.std.proofs.Common.{◌≡◌, ℕ, zero, suc, ◌+◌, ◌-◌, ◌*◌, ◌/◌, ◌%◌, ◌^◌, ◌<◌, ◌≤◌, Bool, true, false, not, cond, ◌&&◌, ◌==◌, nat_lt, nat_le, Option, Some, None, is_some, inl, inr, ℤ, pos, negsuc, unsigned_abs, List, [], ◌∷◌, length, map, replicate, refl, sym, ◌∙◌, ap, subst, arith, lit<, append-nil, length-append, add-one}
use Rattle.std.specs.List.{list_all}
use Rattle.std.proofs.lemmas.List.{length-replicate}
use Rattle.std.proofs.lemmas.Bool.{and_parts, and_from, eqb-true, eq-eqb, ltb-true, ltb-false, lt-ltb, le-ltb, leb-true, leb-false, cases_lt, not-false}
use Rattle.std.proofs.Math.Nat.{div-eq_of_lt, pow-le-pow_right}
use Rattle.std.proofs.Math.Bool.{or-true}
use Rattle.field_types.specs.declared.kinds.Kind.{Kind}
use Rattle.field_types.specs.declared.kinds.Kind.TheVariants.{Char, Zoned, Packed, Binary, Date, Time, Stamp}
use Rattle.field_types.specs.declared.kinds.FieldType.{FieldType}
use Rattle.field_types.specs.declared.values.Dec.{Dec}
use Rattle.field_types.specs.declared.values.Value.{Value}
use Rattle.field_types.specs.declared.values.Value.TheVariants.{Chars, Number}
use Rattle.field_types.specs.declared.faults.ValueFault.{ValueFault}
use Rattle.field_types.specs.declared.faults.ValueFault.TheVariants.{WrongKind, TooManyDecimals, TooWide, BadDate}
use Rattle.field_values.specs.FieldTypes.{IsFieldType, is_allowed, is_between, is_numeric, packed_width, binary_width}
use Rattle.field_values.specs.Digits.{number_in, digits_in, is_digit, high_half, low_half, is_minus, is_sign, sign_of, signed, is_negative, last_byte, ends_pass}
use Rattle.field_values.specs.Zoned.{is_zone_digit, is_signed_digit, is_zoned, zoned_bytes}
use Rattle.field_values.specs.Packed.{is_digit_pair, is_digit_sign, is_packed, is_spare_clear, packed_digits, packed_bytes}
use Rattle.field_values.specs.Binary.{is_byte, twos_complement, binary_number, binary_bytes}
use Rattle.field_values.specs.Moments.{is_date, is_time, is_timestamp}
use Rattle.field_values.specs.FieldBytes.{held, stands, decimal, written, as_held, fault_of, filled, units_at, has_more_decimals, is_too_wide, number_written, number_fault}
use Rattle.field_values.proofs.DigitLemmas.{length-digits_in, number_in-digits_in_all, are_digits_in}
use Rattle.field_values.proofs.BinaryLemmas.{binary-room}
use Rattle.field_values.proofs.DateLemmas.{date-parts}
use Rattle.field_values.proofs.TimeLemmas.{time-parts}
use Rattle.field_values.proofs.StampLemmas.{timestamp-parts}
use Rattle.field_values.proofs.FieldLemmas.{field, held-char, held-zoned, held-packed, held-binary, held-date, held-time, held-timestamp, stands-zoned, stands-packed, stands-binary, stands-text}

-- a sign that is written, and the digit beside it
halves-of : (high low : ℕ) → low < 16 → (high_half (16 * high + low) ≡ high) × (low_half (16 * high + low) ≡ low)
halves-of high low lt = (omega arith, omega arith)

-- a zoned number of these digits under this sign
length-zoned_bytes : (ds : List ℕ) (s : ℕ) → length (zoned_bytes ds s) ≡ length ds
length-zoned_bytes [] s = refl
length-zoned_bytes (d ∷ []) s = refl
length-zoned_bytes (d ∷ e ∷ ds) s = ap suc (length-zoned_bytes (e ∷ ds) s)

zone-digit : (d : ℕ) → is_digit d ≡ true → is_zone_digit (240 + d) ≡ true
zone-digit d h =
    let digit : d < 10 = ltb-true d 10 h in
    let low : (240 + d) % 16 ≡ d = omega arith in
    let high : (240 + d) / 16 ≡ 15 = omega arith in
    rw (low, high, h) refl

signed-digit : (s d : ℕ) → is_sign s ≡ true → is_digit d ≡ true → is_signed_digit (16 * s + d) ≡ true
signed-digit s d sign h =
    let digit : d < 10 = ltb-true d 10 h in
    let halves : (high_half (16 * s + d) ≡ s) × (low_half (16 * s + d) ≡ d) = halves-of s d (omega arith) in
    rw (halves.0, halves.1, h, sign) refl

is_zoned-bytes : (d : ℕ) (ds : List ℕ) (s : ℕ) → is_sign s ≡ true → list_all is_digit (d ∷ ds) ≡ true → is_zoned (zoned_bytes (d ∷ ds) s) ≡ true
is_zoned-bytes d [] s sign h = signed-digit s d sign (and_parts (is_digit d) true h).0
is_zoned-bytes d (e ∷ []) s sign h =
    let parts : (is_digit d ≡ true) × (list_all is_digit (e ∷ []) ≡ true) = and_parts (is_digit d) (list_all is_digit (e ∷ [])) h in
    and_from (is_zone_digit (240 + d)) (is_signed_digit (16 * s + e)) (zone-digit d parts.0) (is_zoned-bytes e [] s sign parts.1)
is_zoned-bytes d (e ∷ f ∷ ds) s sign h =
    let parts : (is_digit d ≡ true) × (list_all is_digit (e ∷ f ∷ ds) ≡ true) = and_parts (is_digit d) (list_all is_digit (e ∷ f ∷ ds)) h in
    and_from (is_zone_digit (240 + d)) (is_zoned (zoned_bytes (e ∷ f ∷ ds) s)) (zone-digit d parts.0) (is_zoned-bytes e (f ∷ ds) s sign parts.1)

pub low-zoned_bytes : (ds : List ℕ) (s : ℕ) → list_all is_digit ds ≡ true → map low_half (zoned_bytes ds s) ≡ ds
low-zoned_bytes [] s h = refl
low-zoned_bytes (d ∷ []) s h =
    let digit : d < 10 = ltb-true d 10 (and_parts (is_digit d) true h).0 in
    let low : (16 * s + d) % 16 ≡ d = omega arith in
    rw low refl
low-zoned_bytes (d ∷ e ∷ ds) s h =
    let parts : (is_digit d ≡ true) × (list_all is_digit (e ∷ ds) ≡ true) = and_parts (is_digit d) (list_all is_digit (e ∷ ds)) h in
    let digit : d < 10 = ltb-true d 10 parts.0 in
    let low : (240 + d) % 16 ≡ d = omega arith in
    rw (low, low-zoned_bytes (e ∷ ds) s parts.1) refl

pub last-zoned_bytes : (d : ℕ) (ds : List ℕ) (s : ℕ) → list_all is_digit (d ∷ ds) ≡ true → high_half (last_byte (zoned_bytes (d ∷ ds) s)) ≡ s
last-zoned_bytes d [] s h = (let digit : d < 10 = ltb-true d 10 (and_parts (is_digit d) true h).0 in (halves-of s d (omega arith)).0)
last-zoned_bytes d (e ∷ []) s h = last-zoned_bytes e [] s (and_parts (is_digit d) (list_all is_digit (e ∷ [])) h).1
last-zoned_bytes d (e ∷ f ∷ ds) s h = last-zoned_bytes e (f ∷ ds) s (and_parts (is_digit d) (list_all is_digit (e ∷ f ∷ ds)) h).1

-- the sign that is written for a number is read as its sign
sign-read : (z : ℤ) → signed (is_minus (sign_of (is_negative z))) (unsigned_abs z) ≡ z
sign-read (pos n) = refl
sign-read (negsuc n) = refl

pub sign-is : (b : Bool) → is_sign (sign_of b) ≡ true
sign-is true = refl
sign-is false = refl

zoned-stands : (n d : ℕ) (z : ℤ) (w : List ℕ) (s m : ℕ) → length w ≡ n → is_zoned w ≡ true → high_half (last_byte w) ≡ s → number_in 10 (map low_half w) ≡ m → signed (is_minus s) m ≡ z → stands (field Zoned n d) (decimal d z) w
zoned-stands n d z w s m long zoned last number sign =
    stands-zoned (field Zoned n d) w z refl (sym (held-zoned n d w) ∙ and_from (length w == n) (is_zoned w) (eq-eqb (length w) n long) zoned)
    (sym (ap (λ (k : ℕ). signed (is_minus k) (number_in 10 (map low_half w))) last ∙ ap (λ (k : ℕ). signed (is_minus s) k) number ∙ sign))

zoned-written : (n d : ℕ) (z : ℤ) → unsigned_abs z < 10 ^ suc n → stands (field Zoned (suc n) d) (decimal d z) (number_written Zoned (suc n) z)
zoned-written n d z small =
    let digits : list_all is_digit (digits_in 10 (suc n) (unsigned_abs z)) ≡ true = are_digits_in 10 (suc n) (unsigned_abs z) (lit< tt) in
    zoned-stands (suc n) d z (number_written Zoned (suc n) z) (sign_of (is_negative z)) (unsigned_abs z)
    (length-zoned_bytes (digits_in 10 (suc n) (unsigned_abs z)) (sign_of (is_negative z)) ∙ length-digits_in 10 (suc n) (unsigned_abs z))
    (is_zoned-bytes (unsigned_abs z / 10 ^ n % 10) (digits_in 10 n (unsigned_abs z)) (sign_of (is_negative z)) (sign-is (is_negative z)) digits)
    (last-zoned_bytes (unsigned_abs z / 10 ^ n % 10) (digits_in 10 n (unsigned_abs z)) (sign_of (is_negative z)) digits)
    (ap (number_in 10) (low-zoned_bytes (digits_in 10 (suc n) (unsigned_abs z)) (sign_of (is_negative z)) digits) ∙ number_in-digits_in_all 10 (suc n) (unsigned_abs z) (lit< tt) small)
    (sign-read z)

-- a packed number of these digits, one and pairs before it, under this sign
digit-pair : (d e : ℕ) → is_digit d ≡ true → is_digit e ≡ true → is_digit_pair (16 * d + e) ≡ true
digit-pair d e hd he =
    let digit : e < 10 = ltb-true e 10 he in
    let halves : (high_half (16 * d + e) ≡ d) × (low_half (16 * d + e) ≡ e) = halves-of d e (omega arith) in
    rw (halves.0, halves.1, hd, he) refl

digit-sign : (d s : ℕ) → s < 16 → is_digit d ≡ true → is_sign s ≡ true → is_digit_sign (16 * d + s) ≡ true
digit-sign d s lt hd hs =
    let halves : (high_half (16 * d + s) ≡ d) × (low_half (16 * d + s) ≡ s) = halves-of d s lt in
    rw (halves.0, halves.1, hd, hs) refl

-- what holds of the image of k pairs of digits and one digit
pub record Packs (k : ℕ) (ds : List ℕ) (s : ℕ) : Type 0 where
  pub long : length (packed_bytes ds s) ≡ suc k
  pub packed : is_packed (packed_bytes ds s) ≡ true
  pub digits : packed_digits (packed_bytes ds s) ≡ ds
  pub sign : low_half (last_byte (packed_bytes ds s)) ≡ s

ends-cons : (test final : ℕ → Bool) (b : ℕ) (w : List ℕ) → 0 < length w → ends_pass test final (b ∷ w) ≡ (test b && ends_pass test final w)
ends-cons test final b [] some = absurd (omega arith)
ends-cons test final b (c ∷ cs) some = refl

digits-cons : (b : ℕ) (w : List ℕ) → 0 < length w → packed_digits (b ∷ w) ≡ high_half b ∷ low_half b ∷ packed_digits w
digits-cons b [] some = absurd (omega arith)
digits-cons b (c ∷ cs) some = refl

last-cons : (b : ℕ) (w : List ℕ) → 0 < length w → last_byte (b ∷ w) ≡ last_byte w
last-cons b [] some = absurd (omega arith)
last-cons b (c ∷ cs) some = refl

packs-more : (k d e s : ℕ) (ds : List ℕ) → is_digit d ≡ true → is_digit e ≡ true → Packs k ds s → Packs (suc k) (d ∷ e ∷ ds) s
packs-more k d e s ds hd he h =
    let some : 0 < length (packed_bytes ds s) = (let long : length (packed_bytes ds s) ≡ suc k = h.long in omega arith) in
    let digit : e < 10 = ltb-true e 10 he in
    let halves : (high_half (16 * d + e) ≡ d) × (low_half (16 * d + e) ≡ e) = halves-of d e (omega arith) in
    record {
      long = ap suc h.long;
      packed = ends-cons is_digit_pair is_digit_sign (16 * d + e) (packed_bytes ds s) some ∙ and_from (is_digit_pair (16 * d + e)) (is_packed (packed_bytes ds s)) (digit-pair d e hd he) h.packed;
      digits = digits-cons (16 * d + e) (packed_bytes ds s) some ∙ rw (halves.0, halves.1, h.digits) refl;
      sign = ap low_half (last-cons (16 * d + e) (packed_bytes ds s) some) ∙ h.sign;
    }

packs-one : (d s : ℕ) → s < 16 → is_sign s ≡ true → is_digit d ≡ true → Packs 0 (d ∷ []) s
packs-one d s lt sign hd =
    let halves : (high_half (16 * d + s) ≡ d) × (low_half (16 * d + s) ≡ s) = halves-of d s lt in
    record {
      long = refl;
      packed = digit-sign d s lt hd sign;
      digits = ap (λ (h : ℕ). h ∷ []) halves.0;
      sign = halves.1;
    }

pub packs : (k : ℕ) (ds : List ℕ) (s : ℕ) → s < 16 → is_sign s ≡ true → length ds ≡ suc (k + k) → list_all is_digit ds ≡ true → Packs k ds s
packs zero (d ∷ []) s lt sign long h = packs-one d s lt sign (and_parts (is_digit d) true h).0
packs zero [] s lt sign long h = absurd (omega arith)
packs zero (d ∷ e ∷ ds) s lt sign long h = absurd (omega arith)
packs (suc k) (d ∷ e ∷ ds) s lt sign long h =
    let parts : (is_digit d ≡ true) × (list_all is_digit (e ∷ ds) ≡ true) = and_parts (is_digit d) (list_all is_digit (e ∷ ds)) h in
    let more : (is_digit e ≡ true) × (list_all is_digit ds ≡ true) = and_parts (is_digit e) (list_all is_digit ds) parts.1 in
    packs-more k d e s ds parts.0 more.0 (packs k ds s lt sign (omega arith) more.1)
packs (suc k) [] s lt sign long h = absurd (omega arith)
packs (suc k) (d ∷ []) s lt sign long h = absurd (omega arith)

clear-first : (n : ℕ) (ds : List ℕ) (s : ℕ) → s < 16 → list_all is_digit ds ≡ true → is_spare_clear n (packed_bytes (0 ∷ ds) s) ≡ true
clear-first n [] s lt h = (let none : (16 * 0 + s) / 16 ≡ 0 = omega arith in rw none (or-true (n % 2 == 1)))
clear-first n (e ∷ ds) s lt h =
    let digit : e < 10 = ltb-true e 10 (and_parts (is_digit e) (list_all is_digit ds) h).0 in
    let none : (16 * 0 + e) / 16 ≡ 0 = omega arith in
    rw none (or-true (n % 2 == 1))

odd-clear : (n : ℕ) (w : List ℕ) → n % 2 ≡ 1 → is_spare_clear n w ≡ true
odd-clear n [] odd = refl
odd-clear n (b ∷ bs) odd = rw odd refl

pub sign-small : (b : Bool) → sign_of b < 16
sign-small true = lit< tt
sign-small false = lit< tt

spare-written : (n m s : ℕ) → m < 10 ^ n → s < 16 → is_spare_clear n (packed_bytes (digits_in 10 (suc (n / 2 + n / 2)) m) s) ≡ true
spare-written n m s small lt =
    elim (cases_lt 0 (n % 2)) [
      | inl odd ↦ odd-clear n (packed_bytes (digits_in 10 (suc (n / 2 + n / 2)) m) s) (omega arith)
      | inr even ↦
          (let double : n / 2 + n / 2 ≡ n = omega arith in
          let none : m / 10 ^ (n / 2 + n / 2) % 10 ≡ 0 = rw double (ap (λ (k : ℕ). k % 10) (div-eq_of_lt small)) in
          subst (λ (k : ℕ). is_spare_clear n (packed_bytes (k ∷ digits_in 10 (n / 2 + n / 2) m) s) ≡ true) (sym none)
          (clear-first n (digits_in 10 (n / 2 + n / 2) m) s lt (are_digits_in 10 (n / 2 + n / 2) m (lit< tt))))
    ]

packed-stands : (n d : ℕ) (z : ℤ) (w : List ℕ) (s m : ℕ) → length w ≡ packed_width n → is_packed w ≡ true → is_spare_clear n w ≡ true → low_half (last_byte w) ≡ s → number_in 10 (packed_digits w) ≡ m → signed (is_minus s) m ≡ z → stands (field Packed n d) (decimal d z) w
packed-stands n d z w s m long packed clear last number sign =
    stands-packed (field Packed n d) w z refl (sym (held-packed n d w) ∙ and_from (length w == packed_width n) (is_packed w && is_spare_clear n w) (eq-eqb (length w) (packed_width n) long) (and_from (is_packed w) (is_spare_clear n w) packed clear))
    (sym (ap (λ (k : ℕ). signed (is_minus k) (number_in 10 (packed_digits w))) last ∙ ap (λ (k : ℕ). signed (is_minus s) k) number ∙ sign))

packed-written : (n d : ℕ) (z : ℤ) → unsigned_abs z < 10 ^ n → stands (field Packed n d) (decimal d z) (number_written Packed n z)
packed-written n d z small =
    let count : 2 * packed_width n - 1 ≡ suc (n / 2 + n / 2) = omega arith in
    let digits : list_all is_digit (digits_in 10 (suc (n / 2 + n / 2)) (unsigned_abs z)) ≡ true = are_digits_in 10 (suc (n / 2 + n / 2)) (unsigned_abs z) (lit< tt) in
    let h = packs (n / 2) (digits_in 10 (suc (n / 2 + n / 2)) (unsigned_abs z)) (sign_of (is_negative z)) (sign-small (is_negative z)) (sign-is (is_negative z)) (length-digits_in 10 (suc (n / 2 + n / 2)) (unsigned_abs z)) digits in
    let wide : unsigned_abs z < 10 ^ suc (n / 2 + n / 2) = (let power : 10 ^ n ≤ 10 ^ suc (n / 2 + n / 2) = pow-le-pow_right (lit< tt) (let le : n ≤ suc (n / 2 + n / 2) = omega arith in le) in omega arith) in
    subst (λ (k : ℕ). stands (field Packed n d) (decimal d z) (packed_bytes (digits_in 10 k (unsigned_abs z)) (sign_of (is_negative z)))) (sym count)
    (packed-stands n d z (packed_bytes (digits_in 10 (suc (n / 2 + n / 2)) (unsigned_abs z)) (sign_of (is_negative z))) (sign_of (is_negative z)) (unsigned_abs z)
    (h.long ∙ sym (add-one (n / 2))) h.packed (spare-written n (unsigned_abs z) (sign_of (is_negative z)) small (sign-small (is_negative z))) h.sign
    (ap (number_in 10) h.digits ∙ number_in-digits_in_all 10 (suc (n / 2 + n / 2)) (unsigned_abs z) (lit< tt) wide) (sign-read z))

-- two's complement is read as it is written
twos-read : (w : ℕ) (z : ℤ) → 2 * unsigned_abs z < 256 ^ w → twos_complement w (cond (is_negative z) (256 ^ w - unsigned_abs z) (unsigned_abs z)) ≡ z
twos-read w (pos k) small = rw (lt-ltb (2 * k) (256 ^ w) small) refl
twos-read w (negsuc k) small =
    let great : 256 ^ w ≤ 2 * (256 ^ w - suc k) = omega arith in
    let back : 256 ^ w - (256 ^ w - suc k) ≡ suc k = omega arith in
    rw (le-ltb (2 * (256 ^ w - suc k)) (256 ^ w) great, back) refl

twos-small : (w : ℕ) (z : ℤ) → 2 * unsigned_abs z < 256 ^ w → cond (is_negative z) (256 ^ w - unsigned_abs z) (unsigned_abs z) < 256 ^ w
twos-small w (pos k) small = omega arith
twos-small w (negsuc k) small = omega arith

some-cond : {A : Type 0} (b : Bool) (x : A) → b ≡ true → is_some (cond b (Some x) None) ≡ true
some-cond true x h = refl
some-cond false x h = h

binary-stands : (n d x : ℕ) (z : ℤ) (w : List ℕ) → length w ≡ binary_width n → list_all is_byte w ≡ true → number_in 256 w ≡ x → twos_complement (binary_width n) x ≡ z → unsigned_abs z < 10 ^ n → stands (field Binary n d) (decimal d z) w
binary-stands n d x z w long bytes number is small =
    let value : twos_complement (length w) (number_in 256 w) ≡ z = ap (λ (k : ℕ). twos_complement k (number_in 256 w)) long ∙ ap (twos_complement (binary_width n)) number ∙ is in
    let inside : nat_lt (unsigned_abs (twos_complement (length w) (number_in 256 w))) (10 ^ n) ≡ true = ap (λ (y : ℤ). nat_lt (unsigned_abs y) (10 ^ n)) value ∙ lt-ltb (unsigned_abs z) (10 ^ n) small in
    let some : is_some (binary_number n w) ≡ true = some-cond (list_all is_byte w && nat_lt (unsigned_abs (twos_complement (length w) (number_in 256 w))) (10 ^ n)) (twos_complement (length w) (number_in 256 w)) (and_from (list_all is_byte w) (nat_lt (unsigned_abs (twos_complement (length w) (number_in 256 w))) (10 ^ n)) bytes inside) in
    stands-binary (field Binary n d) w z refl (sym (held-binary n d w) ∙ and_from (length w == binary_width n) (is_some (binary_number n w)) (eq-eqb (length w) (binary_width n) long) some) (sym value)

binary-written : (n d : ℕ) (z : ℤ) → n ≤ 18 → unsigned_abs z < 10 ^ n → stands (field Binary n d) (decimal d z) (number_written Binary n z)
binary-written n d z few small =
    let room : 2 * 10 ^ n ≤ 256 ^ binary_width n = binary-room n few in
    let half : 2 * unsigned_abs z < 256 ^ binary_width n = omega arith in
    binary-stands n d (cond (is_negative z) (256 ^ binary_width n - unsigned_abs z) (unsigned_abs z)) z (binary_bytes (binary_width n) z)
    (length-digits_in 256 (binary_width n) (cond (is_negative z) (256 ^ binary_width n - unsigned_abs z) (unsigned_abs z)))
    (are_digits_in 256 (binary_width n) (cond (is_negative z) (256 ^ binary_width n - unsigned_abs z) (unsigned_abs z)) (lit< tt))
    (number_in-digits_in_all 256 (binary_width n) (cond (is_negative z) (256 ^ binary_width n - unsigned_abs z) (unsigned_abs z)) (lit< tt) (twos-small (binary_width n) z half))
    (twos-read (binary_width n) z half) small

-- what follows of a value that isn't refused
number-none : (more wide : Bool) → cond more (Some TooManyDecimals) (cond wide (Some TooWide) None) ≡ None → wide ≡ false
number-none true wide h = cc
number-none false true h = cc
number-none false false h = refl

pub number-small : (n d : ℕ) (x : Dec) → number_fault n d x ≡ None → unsigned_abs (units_at d x) < 10 ^ n
number-small n d x h = leb-false (10 ^ n) (unsigned_abs (units_at d x)) (number-none (has_more_decimals d x) (is_too_wide n (units_at d x)) h)

text-none : (wide bad : Bool) → cond wide (Some TooWide) (cond bad (Some BadDate) None) ≡ None → (wide ≡ false) × (bad ≡ false)
text-none true bad h = absurd (let e : ◌≡◌ {A = Option ValueFault} (Some TooWide) None = h in cc)
text-none false true h = absurd (let e : ◌≡◌ {A = Option ValueFault} (Some BadDate) None = h in cc)
text-none false false h = (refl, refl)

filled-length : (n : ℕ) (text : List ℕ) → length text ≤ n → length (filled n text) ≡ n
filled-length n text le = rw (length-append text (replicate (n - length text) 64), length-replicate {A = ℕ} (n - length text) 64) (omega arith)

pub filled-same : (n : ℕ) (text : List ℕ) → length text ≡ n → filled n text ≡ text
filled-same n text long = (let none : n - length text ≡ 0 = omega arith in rw none (append-nil text))

moment-stands : (kind : Kind) (n d : ℕ) (text : List ℕ) → is_numeric kind ≡ false → length text ≡ n → is_some (held (field kind n d) text) ≡ true → stands (field kind n d) (Chars (filled n text)) (filled n text)
moment-stands kind n d text e long h = rw (filled-same n text long) (stands-text (field kind n d) text e h)

of-kind : (kind : Kind) (n d : ℕ) (v : Value) → is_allowed kind n d ≡ true → fault_of (field kind n d) v ≡ None → stands (field kind n d) (as_held (field kind n d) v) (written (field kind n d) v)
unfolding fault_of as_held written
of-kind Char n d (Chars text) allowed h =
    let facts = text-none (nat_lt n (length text)) false h in
    stands-text (field Char n d) (filled n text) refl (held-char n d (filled n text) (filled-length n text (ltb-false n (length text) facts.0)))
of-kind Char n d (Number x) allowed h = absurd (let e : ◌≡◌ {A = Option ValueFault} (Some WrongKind) None = h in cc)
of-kind Zoned zero d v allowed h = absurd (let some : 1 ≤ 0 = leb-true 1 0 (and_parts false true (and_parts (is_between 1 31 0) (nat_le d 0) allowed).0).0 in omega arith)
of-kind Zoned (suc n) d (Chars text) allowed h = absurd (let e : ◌≡◌ {A = Option ValueFault} (Some WrongKind) None = h in cc)
of-kind Zoned (suc n) d (Number x) allowed h = zoned-written n d (units_at d x) (number-small (suc n) d x h)
of-kind Packed n d (Chars text) allowed h = absurd (let e : ◌≡◌ {A = Option ValueFault} (Some WrongKind) None = h in cc)
of-kind Packed n d (Number x) allowed h = packed-written n d (units_at d x) (number-small n d x h)
of-kind Binary n d (Chars text) allowed h = absurd (let e : ◌≡◌ {A = Option ValueFault} (Some WrongKind) None = h in cc)
of-kind Binary n d (Number x) allowed h =
    binary-written n d (units_at d x) (leb-true n 18 (and_parts (nat_le 1 n) (nat_le n 18) (and_parts (is_between 1 18 n) (nat_le d n) allowed).0).1) (number-small n d x h)
of-kind Date n d (Number x) allowed h = absurd (let e : ◌≡◌ {A = Option ValueFault} (Some WrongKind) None = h in cc)
of-kind Date n d (Chars text) allowed h =
    let ten : n ≡ 10 = eqb-true n 10 (and_parts (n == 10) (d == 0) allowed).0 in
    let is : is_date text ≡ true = not-false (is_date text) (text-none (nat_lt n (length text)) (not (is_date text)) h).1 in
    moment-stands Date n d text refl ((date-parts text is).long ∙ sym ten) (subst (λ (k : ℕ). is_some (held (field Date k d) text) ≡ true) (sym ten) (sym (held-date d text) ∙ is))
of-kind Time n d (Number x) allowed h = absurd (let e : ◌≡◌ {A = Option ValueFault} (Some WrongKind) None = h in cc)
of-kind Time n d (Chars text) allowed h =
    let eight : n ≡ 8 = eqb-true n 8 (and_parts (n == 8) (d == 0) allowed).0 in
    let is : is_time text ≡ true = not-false (is_time text) (text-none (nat_lt n (length text)) (not (is_time text)) h).1 in
    moment-stands Time n d text refl ((time-parts text is).long ∙ sym eight) (subst (λ (k : ℕ). is_some (held (field Time k d) text) ≡ true) (sym eight) (sym (held-time d text) ∙ is))
of-kind Stamp n d (Number x) allowed h = absurd (let e : ◌≡◌ {A = Option ValueFault} (Some WrongKind) None = h in cc)
of-kind Stamp n d (Chars text) allowed h =
    let twenty_six : n ≡ 26 = eqb-true n 26 (and_parts (n == 26) (d == 0) allowed).0 in
    let is : is_timestamp text ≡ true = not-false (is_timestamp text) (text-none (nat_lt n (length text)) (not (is_timestamp text)) h).1 in
    moment-stands Stamp n d text refl ((timestamp-parts text is).long ∙ sym twenty_six) (subst (λ (k : ℕ). is_some (held (field Stamp k d) text) ≡ true) (sym twenty_six) (sym (held-timestamp d text) ∙ is))

pub stands-written : (t : FieldType) (v : Value) → IsFieldType t → fault_of t v ≡ None → stands t (as_held t v) (written t v)
stands-written t v allowed h = of-kind t.kind t.length t.decimals v allowed h

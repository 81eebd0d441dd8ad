-- What is written has the sign that is written.
use Rattle.std.proofs.Common.{◌≡◌, ℕ, zero, suc, ◌+◌, ◌-◌, ◌*◌, ◌/◌, ◌%◌, ◌^◌, ◌<◌, ◌≤◌, true, false, nat_le, IsTrue, Option, Some, None, ℤ, pos, negsuc, unsigned_abs, List, map, refl, sym, ◌∙◌, ap, subst, arith, lit<}
use Rattle.std.specs.List.{list_all}
use Rattle.std.proofs.lemmas.Bool.{and_parts, leb-true, ne_eqb}
use Rattle.std.proofs.Math.Nat.{pow-le-pow_right}
use Rattle.field_types.specs.declared.kinds.Kind.{Kind}
use Rattle.field_types.specs.declared.kinds.Kind.TheVariants.{Char, Zoned, Packed, Binary, Date, Time, Stamp}
use Rattle.field_types.specs.declared.kinds.FieldType.{FieldType}
use Rattle.field_types.specs.declared.values.Value.{Value}
use Rattle.field_types.specs.declared.values.Value.TheVariants.{Chars, Number}
use Rattle.field_types.specs.declared.faults.ValueFault.{ValueFault}
use Rattle.field_types.specs.declared.faults.ValueFault.TheVariants.{WrongKind}
use Rattle.field_values.specs.FieldTypes.{IsFieldType, is_allowed, is_between, packed_width}
use Rattle.field_values.specs.Digits.{number_in, digits_in, is_digit, high_half, low_half, sign_of, is_negative, last_byte}
use Rattle.field_values.specs.Packed.{packed_digits, packed_bytes}
use Rattle.field_values.specs.FieldBytes.{written, fault_of, units_at, number_written}
use Rattle.field_values.proofs.DigitLemmas.{length-digits_in, number_in-digits_in_all, are_digits_in}
use Rattle.field_values.proofs.FieldLemmas.{field}
use Rattle.field_laws.specs.WrittenForm.{is_written_sign, has_written_form}
use Rattle.field_laws.proofs.WrittenLemmas.{low-zoned_bytes, last-zoned_bytes, sign-is, sign-small, packs, number-small}

sign-form : (z : ℤ) → is_written_sign (sign_of (is_negative z)) (unsigned_abs z) ≡ true
sign-form (pos n) = refl
sign-form (negsuc n) = rw (ne_eqb (suc n) 0 (λ e. absurd (omega arith))) refl

zoned-formed : (w : List ℕ) (s m : ℕ) → high_half (last_byte w) ≡ s → number_in 10 (map low_half w) ≡ m → is_written_sign s m ≡ true → has_written_form Zoned w ≡ true
zoned-formed w s m last number sign = ap (λ (k : ℕ). is_written_sign k (number_in 10 (map low_half w))) last ∙ ap (λ (k : ℕ). is_written_sign s k) number ∙ sign

packed-formed : (w : List ℕ) (s m : ℕ) → low_half (last_byte w) ≡ s → number_in 10 (packed_digits w) ≡ m → is_written_sign s m ≡ true → has_written_form Packed w ≡ true
packed-formed w s m last number sign = ap (λ (k : ℕ). is_written_sign k (number_in 10 (packed_digits w))) last ∙ ap (λ (k : ℕ). is_written_sign s k) number ∙ sign

zoned-form : (n : ℕ) (z : ℤ) → unsigned_abs z < 10 ^ suc n → has_written_form Zoned (number_written Zoned (suc n) z) ≡ true
zoned-form n z small =
    let digits : list_all is_digit (digits_in 10 (suc n) (unsigned_abs z)) ≡ true = are_digits_in 10 (suc n) (unsigned_abs z) (lit< tt) in
    zoned-formed (number_written Zoned (suc n) z) (sign_of (is_negative z)) (unsigned_abs z)
    (last-zoned_bytes (unsigned_abs z / 10 ^ n % 10) (digits_in 10 n (unsigned_abs z)) (sign_of (is_negative z)) digits)
    (ap (number_in 10) (low-zoned_bytes (digits_in 10 (suc n) (unsigned_abs z)) (sign_of (is_negative z)) digits) ∙ number_in-digits_in_all 10 (suc n) (unsigned_abs z) (lit< tt) small)
    (sign-form z)

packed-form : (n : ℕ) (z : ℤ) → unsigned_abs z < 10 ^ n → has_written_form Packed (number_written Packed n z) ≡ true
packed-form n z small =
    let count : 2 * packed_width n - 1 ≡ suc (n / 2 + n / 2) = omega arith in
    let digits : list_all is_digit (digits_in 10 (suc (n / 2 + n / 2)) (unsigned_abs z)) ≡ true = are_digits_in 10 (suc (n / 2 + n / 2)) (unsigned_abs z) (lit< tt) in
    let h = packs (n / 2) (digits_in 10 (suc (n / 2 + n / 2)) (unsigned_abs z)) (sign_of (is_negative z)) (sign-small (is_negative z)) (sign-is (is_negative z)) (length-digits_in 10 (suc (n / 2 + n / 2)) (unsigned_abs z)) digits in
    let wide : unsigned_abs z < 10 ^ suc (n / 2 + n / 2) = (let power : 10 ^ n ≤ 10 ^ suc (n / 2 + n / 2) = pow-le-pow_right (lit< tt) (let le : n ≤ suc (n / 2 + n / 2) = omega arith in le) in omega arith) in
    subst (λ (k : ℕ). has_written_form Packed (packed_bytes (digits_in 10 k (unsigned_abs z)) (sign_of (is_negative z))) ≡ true) (sym count)
    (packed-formed (packed_bytes (digits_in 10 (suc (n / 2 + n / 2)) (unsigned_abs z)) (sign_of (is_negative z))) (sign_of (is_negative z)) (unsigned_abs z) h.sign
    (ap (number_in 10) h.digits ∙ number_in-digits_in_all 10 (suc (n / 2 + n / 2)) (unsigned_abs z) (lit< tt) wide) (sign-form z))

of-kind : (kind : Kind) (n d : ℕ) (v : Value) → is_allowed kind n d ≡ true → fault_of (field kind n d) v ≡ None → has_written_form kind (written (field kind n d) v) ≡ true
unfolding fault_of written
of-kind Char n d v allowed h = refl
of-kind Zoned zero d v allowed h = absurd (let some : 1 ≤ 0 = leb-true 1 0 (and_parts false true (and_parts (is_between 1 31 0) (nat_le d 0) allowed).0).0 in omega arith)
of-kind Zoned (suc n) d (Chars text) allowed h = absurd (let e : ◌≡◌ {A = Option ValueFault} (Some WrongKind) None = h in cc)
of-kind Zoned (suc n) d (Number x) allowed h = zoned-form n (units_at d x) (number-small (suc n) d x h)
of-kind Packed n d (Chars text) allowed h = absurd (let e : ◌≡◌ {A = Option ValueFault} (Some WrongKind) None = h in cc)
of-kind Packed n d (Number x) allowed h = packed-form n (units_at d x) (number-small n d x h)
of-kind Binary n d v allowed h = refl
of-kind Date n d v allowed h = refl
of-kind Time n d v allowed h = refl
of-kind Stamp n d v allowed h = refl

pub written-form : (t : FieldType) (v : Value) → IsFieldType t → fault_of t v ≡ None → IsTrue (has_written_form t.kind (written t v))
written-form t v allowed h = of-kind t.kind t.length t.decimals v allowed h

-- A magnitude under other decimals: exact or not, and what that says of a field.
use Rattle.std.proofs.Common.{◌≡◌, ℕ, zero, suc, ◌+◌, ◌-◌, ◌*◌, ◌/◌, ◌%◌, ◌^◌, ◌<◌, ◌≤◌, Bool, true, false, cond, ◌==◌, nat_le, Option, Some, None, Err, unsigned_abs, refl, sym, ◌∙◌, ap, arith, lit<, ok_or}
use Rattle.std.specs.Option.{SomeIff}
use Rattle.std.specs.Bool.{then_some}
use Rattle.std.proofs.lemmas.Nat.{pow-add}
use Rattle.std.proofs.lemmas.Bool.{eqb-true, eqb-false, eq-eqb, ne_eqb, le-leb}
use Rattle.std.proofs.Math.Nat.{one-le-pow, pow-le-pow_right, mul-div_left, mul-mod_left, mul_assoc, dvd_of_mod-eq-zero, mod-eq-zero_of_dvd, dvd_of_mul-dvd-mul_right, le_of_dvd, div-mul_cancel, zero-mod, zero-div}
use Rattle.decimal_order.below.field_types.specs.declared.faults.ValueFault.{ValueFault}
use Rattle.decimal_order.below.field_types.specs.declared.faults.ValueFault.TheVariants.{WrongKind, TooManyDecimals, TooWide, BadDate, ReadOnlyField}
use Rattle.decimal_order.below.field_types.specs.declared.values.Dec.{Dec}
use Rattle.field_values.specs.Digits.{signed, is_negative}
use Rattle.field_values.specs.FieldBytes.{Rescaled, units_at, number_fault}

pub some-power : (n : ℕ) → 0 < 10 ^ n
some-power n = one-le-pow n 10 (lit< tt)

split-power : (a b : ℕ) → a ≤ b → 10 ^ b ≡ 10 ^ (b - a) * 10 ^ a
split-power a b le = (let e : b ≡ (b - a) + a = omega arith in ap (λ k. 10 ^ k) e) ∙ pow-add 10 (b - a) a

-- as many decimals or more
pub Rescaled-widened : (m s d : ℕ) → s ≤ d → (o : Option ℕ) → SomeIff o (m * 10 ^ (d - s) < 2 ^ 128) (m * 10 ^ (d - s)) → Rescaled m s d (ok_or o TooWide)
Rescaled-widened m s d le None h =
    let whole : m * 10 ^ d ≡ (m * 10 ^ (d - s)) * 10 ^ s = ap (λ k. m * k) (split-power s d le) ∙ sym (mul_assoc m (10 ^ (d - s)) (10 ^ s)) in
    let exact : m * 10 ^ d % 10 ^ s ≡ 0 = ap (λ k. k % 10 ^ s) whole ∙ mul-mod_left (m * 10 ^ (d - s)) (10 ^ s) in
    let quotient : m * 10 ^ d / 10 ^ s ≡ m * 10 ^ (d - s) = ap (λ k. k / 10 ^ s) whole ∙ mul-div_left (m * 10 ^ (d - s)) (some-power s) in
    (exact, rw quotient (omega (arith, h)))
Rescaled-widened m s d le (Some n) h =
    ap (λ k. k * 10 ^ s) h.1 ∙ mul_assoc m (10 ^ (d - s)) (10 ^ s) ∙ ap (λ k. m * k) (sym (split-power s d le))

-- fewer decimals
pub Rescaled-narrowed : (m s d : ℕ) → d ≤ s → (o : Option ℕ) → SomeIff o (m % 10 ^ (s - d) ≡ 0) (m / 10 ^ (s - d)) → Rescaled m s d (ok_or o TooManyDecimals)
Rescaled-narrowed m s d le None h = λ e.
    let dvd = dvd_of_mod-eq-zero (10 ^ s) e in
    let split : 10 ^ s ≡ 10 ^ (s - d) * 10 ^ d = split-power d s le in
    h (mod-eq-zero_of_dvd (10 ^ (s - d)) (dvd_of_mul-dvd-mul_right (10 ^ (s - d)) (some-power d) (rw split at dvd)))
Rescaled-narrowed m s d le (Some n) h =
    let split : 10 ^ s ≡ 10 ^ (s - d) * 10 ^ d = split-power d s le in
    ap (λ k. n * k) split ∙ sym (mul_assoc n (10 ^ (s - d)) (10 ^ d)) ∙ ap (λ k. k * 10 ^ d) (ap (λ k. k * 10 ^ (s - d)) h.1 ∙ div-mul_cancel (10 ^ (s - d)) (dvd_of_mod-eq-zero (10 ^ (s - d)) h.0))

-- no power past a type divides a number of it but 0
pub no-high_power : (m p : ℕ) → m < 2 ^ 128 → (p < 2 ^ 128 → ⊥) → m % p ≡ 0 → m ≡ 0
no-high_power zero p small large h = refl
no-high_power (suc m) p small large h =
    let le : p ≤ suc m = le_of_dvd (let some : 0 < suc m = omega arith in some) (dvd_of_mod-eq-zero p h) in
    absurd (large (omega arith))

pub unsigned_abs-signed : (b : Bool) (n : ℕ) → unsigned_abs (signed b n) ≡ n
unsigned_abs-signed true zero = refl
unsigned_abs-signed true (suc n) = refl
unsigned_abs-signed false n = refl

-- what scaling says of the field
pub number_fault-Err : (digits d : ℕ) (n : Dec) (fault : ValueFault) → digits ≤ 31 → Rescaled (unsigned_abs n.units) n.scale d (Err fault) → number_fault digits d n ≡ Some fault
number_fault-Err digits d n TooManyDecimals few h = rw (ne_eqb (unsigned_abs n.units * 10 ^ d % 10 ^ n.scale) 0 h) refl
number_fault-Err digits d n TooWide few h =
    let wide : 10 ^ digits ≤ 10 ^ 31 = pow-le-pow_right (lit< tt) few in
    let le : 10 ^ digits ≤ unsigned_abs n.units * 10 ^ d / 10 ^ n.scale = omega (arith, h.1) in
    rw (eq-eqb (unsigned_abs n.units * 10 ^ d % 10 ^ n.scale) 0 h.0, unsigned_abs-signed (is_negative n.units) (unsigned_abs n.units * 10 ^ d / 10 ^ n.scale), le-leb (10 ^ digits) (unsigned_abs n.units * 10 ^ d / 10 ^ n.scale) le) refl
number_fault-Err digits d n WrongKind few h = absurd h
number_fault-Err digits d n BadDate few h = absurd h
number_fault-Err digits d n ReadOnlyField few h = absurd h

pub quotient-Ok : (m s d n : ℕ) → n * 10 ^ s ≡ m * 10 ^ d → (m * 10 ^ d % 10 ^ s ≡ 0) × (m * 10 ^ d / 10 ^ s ≡ n)
quotient-Ok m s d n h =
    (ap (λ k. k % 10 ^ s) (sym h) ∙ mul-mod_left n (10 ^ s), ap (λ k. k / 10 ^ s) (sym h) ∙ mul-div_left n (some-power s))

pub number_fault-Ok : (digits d k : ℕ) (n : Dec) → k * 10 ^ n.scale ≡ unsigned_abs n.units * 10 ^ d → number_fault digits d n ≡ cond (nat_le (10 ^ digits) k) (Some TooWide) None
number_fault-Ok digits d k n h =
    let q : (unsigned_abs n.units * 10 ^ d % 10 ^ n.scale ≡ 0) × (unsigned_abs n.units * 10 ^ d / 10 ^ n.scale ≡ k) = quotient-Ok (unsigned_abs n.units) n.scale d k h in
    rw (eq-eqb (unsigned_abs n.units * 10 ^ d % 10 ^ n.scale) 0 q.0, unsigned_abs-signed (is_negative n.units) (unsigned_abs n.units * 10 ^ d / 10 ^ n.scale), q.1) refl

pub units_at-Ok : (d k : ℕ) (n : Dec) → k * 10 ^ n.scale ≡ unsigned_abs n.units * 10 ^ d → units_at d n ≡ signed (is_negative n.units) k
units_at-Ok d k n h = ap (signed (is_negative n.units)) (quotient-Ok (unsigned_abs n.units) n.scale d k h).1

-- a power too great for its type divides 0 alone
pub SomeIff-high_power : (m p : ℕ) (b : Bool) → (m == 0) ≡ b → m < 2 ^ 128 → (p < 2 ^ 128 → ⊥) → SomeIff (then_some b 0) (m % p ≡ 0) (m / p)
SomeIff-high_power m p true e small large =
    let none : m ≡ 0 = eqb-true m 0 e in
    (rw none (zero-mod p), rw none (sym (zero-div p)))
SomeIff-high_power m p false e small large = λ d. eqb-false m 0 e (no-high_power m p small large d)

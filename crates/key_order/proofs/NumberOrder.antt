-- The bytes of numbers stand in the order of the numbers.
use Rattle.std.proofs.Common.{◌≡◌, ℕ, zero, suc, ◌+◌, ◌*◌, ◌/◌, ◌^◌, ◌<◌, ◌≤◌, ℤ, pos, negsuc, unsigned_abs, length, refl, sym, ◌∙◌, ap, arith, lit<, lit≤}
use Rattle.std.specs.Prelude.{◌<ℤ◌}
use Rattle.std.specs.List.{AllByRecursion}
use Rattle.std.specs.declared.cmp.Ordering.{Ordering}
use Rattle.std.specs.declared.cmp.Ordering.TheVariants.{Less, Equal, Greater}
use Rattle.std.specs.Ordering.{MatchOrdering, nat_cmp, int_cmp}
use Rattle.std.specs.Cmp.Lexicographic.{slice_cmp}
use Rattle.std.specs.Cmp.{int_cmp_is}
use Rattle.std.proofs.lemmas.Cmp.{ranked}
use Rattle.std.proofs.lemmas.Int.{ints}
use Rattle.std.proofs.Math.Nat.{pow-suc, mod-eq_of_lt, pow-le-pow_right}
use Rattle.field_types.specs.declared.values.Dec.{Dec}
use Rattle.field_laws.specs.FieldTypes.{packed_width}
use Rattle.field_laws.proofs.DigitLemmas.{length-digits_in}
use Rattle.decimal_order.specs.DecimalOrder.{compare_numbers, units_with}
use Rattle.decimal_order.proofs.OrderLemmas.{int_cmp-scaled, some-power}
use Rattle.key_order.specs.KeyBytes.{middle, from_middle, number_bytes}
use Rattle.key_order.proofs.ListOrder.{digits-cmp, digits-bytes}

-- ---- room

power-room : (half : ℕ) → 10 ^ (half + half + 1) ≤ 128 * 256 ^ half
power-room zero = lit≤ tt
power-room (suc half) =
    let rest : 10 ^ (half + half + 1) ≤ 128 * 256 ^ half = power-room half in
    let more : 10 ^ (suc half + suc half + 1) ≡ 10 ^ (half + half + 1) * 10 * 10 =
    ap (λ (n : ℕ). 10 ^ n) (let e : suc half + suc half + 1 ≡ suc (suc (half + half + 1)) = omega arith in e)
    ∙ pow-suc 10 (suc (half + half + 1)) ∙ ap (λ (n : ℕ). n * 10) (pow-suc 10 (half + half + 1)) in
    let wide : 256 ^ suc half ≡ 256 ^ half * 256 = pow-suc 256 half in
    omega arith

-- numbers of so many digits lie within the bytes of their middle
pub middle-room : (digits : ℕ) → 10 ^ digits ≤ middle digits
middle-room digits =
    let power : 10 ^ digits ≤ 10 ^ (digits / 2 + digits / 2 + 1) = pow-le-pow_right (lit< tt) (let le : digits ≤ digits / 2 + digits / 2 + 1 = omega arith in le) in
    let room : 10 ^ (digits / 2 + digits / 2 + 1) ≤ 128 * 256 ^ (digits / 2) = power-room (digits / 2) in
    omega arith

pub middle-half : (digits : ℕ) → 256 ^ packed_width digits ≡ 2 * middle digits
middle-half digits =
    let wide : 256 ^ suc (digits / 2) ≡ 256 ^ (digits / 2) * 256 = pow-suc 256 (digits / 2) in
    ap (λ (n : ℕ). 256 ^ n) (let e : digits / 2 + 1 ≡ suc (digits / 2) = omega arith in e) ∙ wide ∙ omega arith

from_middle-small : (m : ℕ) (z : ℤ) → unsigned_abs z < m → from_middle m z < 2 * m
from_middle-small m (pos n) small = omega arith
from_middle-small m (negsuc n) small = omega arith

-- ---- the order

from_middle-cmp : (m : ℕ) (a b : ℤ) → unsigned_abs a < m → unsigned_abs b < m → nat_cmp (from_middle m a) (from_middle m b) ≡ int_cmp a b
from_middle-cmp m a b low high =
    int_cmp_is a b (nat_cmp (from_middle m a) (from_middle m b))
    (at a b low high (nat_cmp (from_middle m a) (from_middle m b)) (ranked (from_middle m a) (from_middle m b) (nat_cmp (from_middle m a) (from_middle m b)) refl))
  where
    at : (a b : ℤ) → unsigned_abs a < m → unsigned_abs b < m → (o : Ordering)
        → MatchOrdering o (from_middle m a < from_middle m b) (from_middle m a ≡ from_middle m b) (from_middle m b < from_middle m a)
        → MatchOrdering o (a <ℤ b) (a ≡ b) (b <ℤ a)
    at (pos x) (pos y) low high Less h = omega (arith, ints)
    at (pos x) (pos y) low high Equal h = ap pos (let e : x ≡ y = omega arith in e)
    at (pos x) (pos y) low high Greater h = omega (arith, ints)
    at (pos x) (negsuc y) low high Less h = absurd (omega arith)
    at (pos x) (negsuc y) low high Equal h = absurd (omega arith)
    at (pos x) (negsuc y) low high Greater h = omega (arith, ints)
    at (negsuc x) (pos y) low high Less h = omega (arith, ints)
    at (negsuc x) (pos y) low high Equal h = absurd (omega arith)
    at (negsuc x) (pos y) low high Greater h = absurd (omega arith)
    at (negsuc x) (negsuc y) low high Less h = omega (arith, ints)
    at (negsuc x) (negsuc y) low high Equal h = ap negsuc (let e : x ≡ y = omega arith in e)
    at (negsuc x) (negsuc y) low high Greater h = omega (arith, ints)

pub number-cmp : (digits : ℕ) (a b : ℤ) → unsigned_abs a < 10 ^ digits → unsigned_abs b < 10 ^ digits → slice_cmp nat_cmp (number_bytes digits a) (number_bytes digits b) ≡ int_cmp a b
unfolding number_bytes
number-cmp digits a b low high =
    let room : 10 ^ digits ≤ middle digits = middle-room digits in
    let half : 256 ^ packed_width digits ≡ 2 * middle digits = middle-half digits in
    let first : unsigned_abs a < middle digits = omega (arith, room) in
    let second : unsigned_abs b < middle digits = omega (arith, room) in
    let one : from_middle (middle digits) a < 256 ^ packed_width digits = rw half (from_middle-small (middle digits) a first) in
    let other : from_middle (middle digits) b < 256 ^ packed_width digits = rw half (from_middle-small (middle digits) b second) in
    digits-cmp (packed_width digits) (from_middle (middle digits) a) (from_middle (middle digits) b)
    ∙ rw (mod-eq_of_lt one, mod-eq_of_lt other) (from_middle-cmp (middle digits) a b first second)

pub length-number_bytes : (digits : ℕ) (z : ℤ) → length (number_bytes digits z) ≡ packed_width digits
unfolding number_bytes
length-number_bytes digits z = length-digits_in 256 (packed_width digits) (from_middle (middle digits) z)

pub number-bytes : (digits : ℕ) (z : ℤ) → AllByRecursion (λ b. b < 256) (number_bytes digits z)
unfolding number_bytes
number-bytes digits z = digits-bytes (packed_width digits) (from_middle (middle digits) z)

-- numbers of one scale go by their units
pub compare_numbers-units : (a b : Dec) → a.scale ≡ b.scale → compare_numbers a b ≡ int_cmp a.units b.units
unfolding compare_numbers
compare_numbers-units a b same =
    ap (λ (s : ℕ). int_cmp (units_with s a) (units_with a.scale b)) (sym same) ∙ int_cmp-scaled a.units b.units (10 ^ a.scale) (some-power a.scale)

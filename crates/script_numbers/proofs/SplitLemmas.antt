-- Numbers as wholes of a power of ten and a rest: what their sums are, and which leave the bound on digits.
use Rattle.std.proofs.Common.{◌≡◌, ℕ, ◌^◌, ◌<◌, ◌≤◌, ℤ, pos, ◌+ℤ◌, ◌*ℤ◌, ◌<ℤ◌, unsigned_abs, int_div, int_rem, FitsSigned, to_z, of_z, None, refl, arith, lit<}
use Rattle.std.specs.Int.{w128}
use Rattle.std.proofs.lemmas.Int.{ints, to_z-of_z, fits_signed_from_abs, unsigned_abs-mul, quot_fits, rem_is, rem_below}
use Rattle.std.proofs.Math.Nat.{pow-le-pow_right, one-le-pow}
use Rattle.script_numbers.specs.Arithmetic.{number_of}

-- a number that leaves the type has 2 ^ 127 units at the least
pub large_from-unfit : (z : ℤ) → (FitsSigned w128 z → ⊥) → 2 ^ 127 ≤ unsigned_abs z
large_from-unfit z unfit = grind (arith, fits_signed_from_abs)

-- so many units are too long
pub number_of-long : (scale : ℕ) (z : ℤ) → 10 ^ 31 ≤ unsigned_abs z → number_of scale z ≡ None
number_of-long scale z long = grind arith

-- a product of many wholes
pub large-product : (z : ℤ) (p : ℕ) → 0 < p → unsigned_abs z ≤ unsigned_abs (z *ℤ pos p)
large-product z p some = rw unsigned_abs-mul (grind arith)

-- a rest takes little away
pub large-sum : (z rest : ℤ) (p : ℕ) → p ≤ 10 ^ 30 → unsigned_abs rest < p → 2 ^ 127 ≤ unsigned_abs z → 10 ^ 31 ≤ unsigned_abs (z +ℤ rest)
large-sum z rest p few less large = omega (arith, ints)

pub some-power : (n : ℕ) → 0 < 10 ^ n
some-power n = one-le-pow n 10 (lit< tt)

-- powers that the type holds
pub held-power : (n : ℕ) → n ≤ 38 → 10 ^ n < 2 ^ 127
held-power n few = let small : 10 ^ n ≤ 10 ^ 38 = pow-le-pow_right (lit< tt) few in omega (arith, small)

pub few-power : (n : ℕ) → n ≤ 30 → 10 ^ n ≤ 10 ^ 30
few-power n few = pow-le-pow_right (lit< tt) few

-- a division by a power of ten
pub divided : (z p : ℤ) (n : ℕ) → FitsSigned w128 z → FitsSigned w128 p → p ≡ pos n → 0 < n → (0 < of_z w128 p) × FitsSigned w128 (int_div (to_z w128 (of_z w128 z)) (to_z w128 (of_z w128 p)))
divided z p n z_fits p_fits is some =
    let above : pos 0 <ℤ p = rw is (omega (arith, ints)) in
    (rw is some, rw (to_z-of_z w128 z z_fits, to_z-of_z w128 p p_fits) (quot_fits w128 z p z_fits above))

pub rest-below : (z p : ℤ) (n : ℕ) → FitsSigned w128 z → FitsSigned w128 p → p ≡ pos n → 0 < n → unsigned_abs (to_z w128 (of_z w128 (int_rem (to_z w128 (of_z w128 z)) (to_z w128 (of_z w128 p))))) < n
rest-below z p n z_fits p_fits is some =
    let same : unsigned_abs p ≡ n = rw is refl in
    let below : unsigned_abs (int_rem z p) < unsigned_abs p = rem_below z p (omega (arith, same)) in
    rw (rem_is w128 z p z_fits p_fits) (omega (arith, same, below))

pub rest-above : (z : ℤ) (n : ℕ) → FitsSigned w128 z → 39 ≤ n → unsigned_abs z < 10 ^ n
rest-above z n fits many =
    let wide : 10 ^ 39 ≤ 10 ^ n = pow-le-pow_right (lit< tt) many in
    let few : unsigned_abs z ≤ 2 ^ 127 = omega (arith, ints) in
    omega (arith, wide, few)

-- what is left of a sum that isn't too long: whole times the power, and the rest
pub too-many : (scale n : ℕ) (whole rest : ℤ) → n ≤ 30 → unsigned_abs rest < 10 ^ n → 2 ^ 127 ≤ unsigned_abs whole → number_of scale (whole *ℤ pos (10 ^ n) +ℤ rest) ≡ None
too-many scale n whole rest few less large =
    let p : ℕ = 10 ^ n in
    let product : unsigned_abs whole ≤ unsigned_abs (whole *ℤ pos (10 ^ n)) = large-product whole (10 ^ n) (some-power n) in
    let wide : 2 ^ 127 ≤ unsigned_abs (whole *ℤ pos (10 ^ n)) = omega (arith, product) in
    number_of-long scale (whole *ℤ pos (10 ^ n) +ℤ rest) (large-sum (whole *ℤ pos (10 ^ n)) rest (10 ^ n) (few-power n few) less wide)

pub too-many-wholes : (scale n : ℕ) (whole rest : ℤ) → n ≤ 30 → unsigned_abs rest < 10 ^ n → (FitsSigned w128 whole → ⊥) → number_of scale (whole *ℤ pos (10 ^ n) +ℤ rest) ≡ None
too-many-wholes scale n whole rest few less unfit = too-many scale n whole rest few less (large_from-unfit whole unfit)

pub too-many-units : (scale n : ℕ) (whole rest : ℤ) → n ≤ 30 → unsigned_abs rest < 10 ^ n → (FitsSigned w128 (whole *ℤ pos (10 ^ n)) → ⊥) → number_of scale (whole *ℤ pos (10 ^ n) +ℤ rest) ≡ None
too-many-units scale n whole rest few less unfit =
    number_of-long scale (whole *ℤ pos (10 ^ n) +ℤ rest) (large-sum (whole *ℤ pos (10 ^ n)) rest (10 ^ n) (few-power n few) less (large_from-unfit (whole *ℤ pos (10 ^ n)) unfit))

-- A number without the zeros that end its decimals, one zero at a time.
use Rattle.std.proofs.Common.{◌≡◌, ℕ, zero, suc, ◌-◌, ◌<◌, ◌%◌, ℤ, pos, negsuc, unsigned_abs, int_div, int_rem, FitsSigned, of_z, to_z, refl, ap, arith}
use Rattle.std.specs.Int.{w128}
use Rattle.std.proofs.lemmas.Int.{ints, to_z-of_z, fits_signed_from_abs, rem_below, quot_fits}
use Rattle.std.proofs.lemmas.Bool.{eq-eqb}
use Rattle.script_numbers.specs.Arithmetic.{trimmed}

no-rest : (z : ℤ) → int_rem z (pos 10) ≡ pos 0 → unsigned_abs z % 10 ≡ 0
no-rest (pos n) h = omega (arith, ints)
no-rest (negsuc n) h = omega (arith, ints)

pub trimmed-tenth : (scale : ℕ) (z : ℤ) → 0 < scale → int_rem z (pos 10) ≡ pos 0 → trimmed (scale - 1) (int_div z (pos 10)) ≡ trimmed scale z
trimmed-tenth zero z some h = absurd (omega arith)
trimmed-tenth (suc scale) z some h =
    let less : suc scale - 1 ≡ scale = omega arith in
    rw (less, eq-eqb (unsigned_abs z % 10) 0 (no-rest z h)) refl

no-bits : (z : ℤ) → FitsSigned w128 z → of_z w128 z ≡ 0 → z ≡ pos 0
no-bits (pos n) fits h = ap pos h
no-bits (negsuc n) fits h = absurd (omega (arith, ints))

-- what the code divides and tests
pub trimmed-divided : (scale : ℕ) (z : ℤ) → FitsSigned w128 z → 0 < scale → of_z w128 (int_rem z (pos 10)) ≡ 0 → trimmed (scale - 1) (to_z w128 (of_z w128 (int_div z (pos 10)))) ≡ trimmed scale z
trimmed-divided scale z fits some h =
    let below : unsigned_abs (int_rem z (pos 10)) < unsigned_abs (pos 10) = rem_below z (pos 10) (omega arith) in
    let small : unsigned_abs (int_rem z (pos 10)) < 10 = below in
    let rest : FitsSigned w128 (int_rem z (pos 10)) = fits_signed_from_abs w128 (int_rem z (pos 10)) (omega (arith, small)) in
    let quotient : FitsSigned w128 (int_div z (pos 10)) = quot_fits w128 z (pos 10) fits (omega (arith, ints)) in
    rw (to_z-of_z w128 (int_div z (pos 10)) quotient) (trimmed-tenth scale z some (no-bits (int_rem z (pos 10)) rest h))

use Rattle.std.proofs.Common.{◌≡◌, ◌∙◌, ◌*◌, ◌^◌, ◌≤◌, ◌<◌, sym, subst, ℕ, arith, lit<, unsigned_abs, FitsSigned, rules, Err, refl, nat_le, true, false}
use Rattle.std.specs.Int.{w128}
use Rattle.std.proofs.Math.Nat.{pow-le-pow_right}
use Rattle.std.proofs.lemmas.Bool.{leb-false}
use Rattle.std.proofs.lemmas.Int.{to_z-of_z}
use Rattle.std.proofs.lemmas.Result.{err_from_is_err_and}
use Rattle.field_values.specs.Digits.{signed}
use Rattle.field_values.specs.FieldBytes.{Rescaled, units_at}
use Rattle.field_values.proofs.ScaleLemmas.{number_fault-Err, number_fault-Ok, units_at-Ok, unsigned_abs-signed}
use Rattle.field_values.proofs.decimals.units_at.Goals as goal

pub returns-in_err-magnitude-clause-refused : goal.returns-in_err-magnitude-clause-refused
returns-in_err-magnitude-clause-refused c =
    let p = err_from_is_err_and c.from_residual.result c.from_residual.ensures.1 in
    let fits : FitsSigned w128 c.args.number.units = search rules in
    let magnitude : c.unsigned_abs.result ≡ unsigned_abs c.args.number.units = simp to_z-of_z at c.unsigned_abs.ensures.value in
    let why : Rescaled (unsigned_abs c.args.number.units) c.args.number.scale c.args.decimals (Err c.in_err-magnitude.field-0.0) =
    subst (λ (m : ℕ). Rescaled m c.args.number.scale c.args.decimals (Err c.in_err-magnitude.field-0.0)) magnitude c.in_err-magnitude.ensures in
    rw (p.1, p.2) (sym (number_fault-Err c.args.digits c.args.decimals c.args.number c.in_err-magnitude.field-0.0 c.requires.digits why))

pub returns-then-is_too_wide-clause-refused : goal.returns-then-is_too_wide-clause-refused
returns-then-is_too_wide-clause-refused c =
    let fits : FitsSigned w128 c.args.number.units = search rules in
    let exact : c.in_ok-magnitude.magnitude * 10 ^ c.args.number.scale ≡ unsigned_abs c.args.number.units * 10 ^ c.args.decimals = simp to_z-of_z at (rw c.unsigned_abs.ensures.value at c.in_ok-magnitude.ensures) in
    let wide : nat_le (10 ^ c.args.digits) c.in_ok-magnitude.magnitude ≡ true = sym c.is_too_wide.ensures ∙ c.if-is_too_wide.true in
    rw (number_fault-Ok c.args.digits c.args.decimals c.in_ok-magnitude.magnitude c.args.number exact, wide) refl

pub signed-requires : goal.signed-requires
signed-requires c =
    let small : 10 ^ c.args.digits ≤ 10 ^ 31 = pow-le-pow_right (lit< tt) c.requires.digits in
    let narrow : c.in_ok-magnitude.magnitude < 10 ^ c.args.digits = leb-false (10 ^ c.args.digits) c.in_ok-magnitude.magnitude (sym c.is_too_wide.ensures ∙ c.if-is_too_wide.false) in
    omega (arith, small)

pub returns-clause-small : goal.returns-clause-small
returns-clause-small c =
    let given : FitsSigned w128 c.signed.result = search rules in
    let is : c.signed.result ≡ signed c.is_negative.result c.in_ok-magnitude.magnitude = c.signed.ensures in
    let narrow : c.in_ok-magnitude.magnitude < 10 ^ c.args.digits = leb-false (10 ^ c.args.digits) c.in_ok-magnitude.magnitude (sym c.is_too_wide.ensures ∙ c.if-is_too_wide.false) in
    rw (to_z-of_z w128 c.signed.result, is, unsigned_abs-signed c.is_negative.result c.in_ok-magnitude.magnitude) narrow

pub returns-clause-units : goal.returns-clause-units
returns-clause-units c =
    let fits : FitsSigned w128 c.args.number.units = search rules in
    let exact : c.in_ok-magnitude.magnitude * 10 ^ c.args.number.scale ≡ unsigned_abs c.args.number.units * 10 ^ c.args.decimals = simp to_z-of_z at (rw c.unsigned_abs.ensures.value at c.in_ok-magnitude.ensures) in
    let given : FitsSigned w128 c.signed.result = search rules in
    let is : c.signed.result ≡ units_at c.args.decimals c.args.number = (simp to_z-of_z at (rw c.is_negative.ensures at c.signed.ensures)) ∙ sym (units_at-Ok c.args.decimals c.in_ok-magnitude.magnitude c.args.number exact) in
    rw (to_z-of_z w128 c.signed.result) is

pub returns-clause-refused : goal.returns-clause-refused
returns-clause-refused c =
    let fits : FitsSigned w128 c.args.number.units = search rules in
    let exact : c.in_ok-magnitude.magnitude * 10 ^ c.args.number.scale ≡ unsigned_abs c.args.number.units * 10 ^ c.args.decimals = simp to_z-of_z at (rw c.unsigned_abs.ensures.value at c.in_ok-magnitude.ensures) in
    let narrow : nat_le (10 ^ c.args.digits) c.in_ok-magnitude.magnitude ≡ false = sym c.is_too_wide.ensures ∙ c.if-is_too_wide.false in
    rw (number_fault-Ok c.args.digits c.args.decimals c.in_ok-magnitude.magnitude c.args.number exact, narrow) refl

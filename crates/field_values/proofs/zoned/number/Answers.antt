use Rattle.std.proofs.Common.{◌≡◌, ◌^◌, ◌≤◌, ◌-◌, length, get_or, arith, rules, sym, ap, ◌∙◌, lit<, FitsSigned}
use Rattle.std.specs.Int.{w128}
use Rattle.std.proofs.lemmas.Int.{to_z-of_z}
use Rattle.std.proofs.Math.Nat.{pow-le-pow_right}
use Rattle.field_values.specs.Digits.{high_half, is_minus, signed, last_byte}
use Rattle.field_values.proofs.PackedLemmas.{last_byte-get_or}
use Rattle.field_values.proofs.zoned.number.Goals as goal

pub signed-requires : goal.signed-requires
signed-requires c =
    let small : 10 ^ length c.args.image.now ≤ 10 ^ 31 = pow-le-pow_right (lit< tt) c.requires.few in
    omega (arith, small, c.number.ensures.bound)

pub returns : goal.returns
returns c =
    let last : last_byte c.args.image.now ≡ get_or c.args.image.now (length c.args.image.now - 1) 0 = last_byte-get_or c.args.image.now (length c.args.image.now - 1) (omega arith) in
    let sign : c.is_minus.result ≡ is_minus (high_half (last_byte c.args.image.now)) = c.is_minus.ensures ∙ ap is_minus (c.high_half.ensures.value ∙ ap high_half (sym last)) in
    let fits : FitsSigned w128 c.signed.result = search rules in
    rw (to_z-of_z w128 c.signed.result)
    (c.signed.ensures ∙ ap (λ b. signed b c.number.result) sign ∙ ap (signed (is_minus (high_half (last_byte c.args.image.now)))) c.number.ensures.value)

use Rattle.std.proofs.Common.{◌≡◌, ◌∙◌, ◌^◌, sym, rules, FitsSigned, cond, pos, unsigned_abs}
use Rattle.std.specs.Int.{w128}
use Rattle.std.proofs.lemmas.Int.{to_z-of_z}
use Rattle.field_types.specs.declared.values.Value.TheVariants.{Number}
use Rattle.key_order.proofs.FitLemmas.{IsSized}
use Rattle.key_order.proofs.ValueLemmas.{number-sized, few-digits, small-number, counted-number, small-counted}
use Rattle.key_order.proofs.positions.number_held.Goals as goal

pub counted-requires : goal.counted-requires
counted-requires c =
    let fits : FitsSigned w128 c.number.result.units = search rules in
    let sized : IsSized c.args.ty.now (Number c.number.result) = number-sized c.args.ty.now c.number.result c.args.field.now c.number.ensures in
    simp to_z-of_z (small-number c.args.ty.now.length (unsigned_abs c.number.result.units) (few-digits c.args.ty.now c.requires.allowed c.requires.numeric) sized.2)

pub returns-clause-value : goal.returns-clause-value
returns-clause-value c v h =
    let fits : FitsSigned w128 c.number.result.units = search rules in
    let also : FitsSigned w128 c.counted.result = search rules in
    let sized : IsSized c.args.ty.now (Number c.number.result) = number-sized c.args.ty.now c.number.result c.args.field.now c.number.ensures in
    let counted : c.counted.result ≡ cond c.args.absval (pos (unsigned_abs c.number.result.units)) c.number.result.units = simp to_z-of_z at c.counted.ensures in
    simp to_z-of_z (counted-number c.args.absval c.args.ty.now.decimals c.number.result v c.counted.result (sym c.number.ensures ∙ h) sized.1 counted)

pub returns-clause-small : goal.returns-clause-small
returns-clause-small c =
    let fits : FitsSigned w128 c.number.result.units = search rules in
    let also : FitsSigned w128 c.counted.result = search rules in
    let sized : IsSized c.args.ty.now (Number c.number.result) = number-sized c.args.ty.now c.number.result c.args.field.now c.number.ensures in
    let counted : c.counted.result ≡ cond c.args.absval (pos (unsigned_abs c.number.result.units)) c.number.result.units = simp to_z-of_z at c.counted.ensures in
    simp to_z-of_z (small-counted c.args.absval c.number.result.units c.counted.result (10 ^ c.args.ty.now.length) counted sized.2)

use Rattle.std.proofs.Common.{◌≡◌, FitsSigned, rules, subst, sym, ◌∙◌}
use Rattle.std.specs.Int.{w64, w128}
use Rattle.std.proofs.lemmas.Int.{to_z-of_z}
use Rattle.decimal_order.below.field_types.specs.declared.values.Value.{Value}
use Rattle.decimal_order.below.field_types.specs.declared.values.Value.TheVariants.{Number}
use Rattle.field_values.specs.FieldBytes.{stands, decimal}
use Rattle.field_values.proofs.FieldLemmas.{stands-zoned, stands-packed, stands-binary}
use Rattle.field_values.proofs.fields.number.Goals as goal

pub returns-in-Zoned : goal.returns-in-Zoned
returns-in-Zoned c =
    let fits : FitsSigned w128 c.number.result = search rules in
    let given : Number c.decimal.result ≡ decimal c.args.t.now.decimals c.number.result = simp to_z-of_z at c.decimal.ensures in
    subst (λ (v : Value). stands c.args.t.now v c.args.image.now) (sym given) (stands-zoned c.args.t.now c.args.image.now c.number.result c.in-Zoned.is c.requires.there c.number.ensures)

pub returns-in-Packed : goal.returns-in-Packed
returns-in-Packed c =
    let fits : FitsSigned w128 c.number-in-Packed.result = search rules in
    let given : Number c.decimal-in-Packed.result ≡ decimal c.args.t.now.decimals c.number-in-Packed.result = simp to_z-of_z at c.decimal-in-Packed.ensures in
    subst (λ (v : Value). stands c.args.t.now v c.args.image.now) (sym given) (stands-packed c.args.t.now c.args.image.now c.number-in-Packed.result c.in-Packed.is c.requires.there c.number-in-Packed.ensures)

pub returns-in-Binary : goal.returns-in-Binary
returns-in-Binary c =
    let small : FitsSigned w64 c.number-in-Binary.result = search rules in
    let fits : FitsSigned w128 c.from.result = search rules in
    let number : c.from.result ≡ c.number-in-Binary.result = simp to_z-of_z at c.from.ensures in
    let given : Number c.decimal-in-Binary.result ≡ decimal c.args.t.now.decimals c.from.result = simp to_z-of_z at c.decimal-in-Binary.ensures in
    subst (λ (v : Value). stands c.args.t.now v c.args.image.now) (sym given) (stands-binary c.args.t.now c.args.image.now c.from.result c.in-Binary.is c.requires.there (number ∙ c.number-in-Binary.ensures))

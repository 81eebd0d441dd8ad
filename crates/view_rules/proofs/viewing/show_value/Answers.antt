use Rattle.std.proofs.Common.{◌≡◌, None, length, subst, rules}
use Rattle.field_types.specs.declared.values.Value.{Value}
use Rattle.field_values.specs.FieldTypes.{width}
use Rattle.field_values.specs.FieldBytes.{fault_of, written}
use Rattle.view_rules.proofs.OperandLemmas.{number-numeric, text-width}
use Rattle.view_rules.proofs.viewing.show_value.Goals as goal

pub show_number-requires-clause-numeric : goal.show_number-requires-clause-numeric
show_number-requires-clause-numeric c =
    number-numeric c.args.ty.now c.in-Number.number (subst (λ (v : Value). fault_of c.args.ty.now v ≡ None) c.in-Number.is c.requires.fits)

pub returns-in-Chars-clause-width : goal.returns-in-Chars-clause-width
returns-in-Chars-clause-width c =
    let long : length (written c.args.ty.now c.args.value.now) ≡ width c.args.ty.now = text-width c.args.ty.now c.args.value.now c.in-Chars.text c.in-Chars.is c.requires.fits in
    search rules

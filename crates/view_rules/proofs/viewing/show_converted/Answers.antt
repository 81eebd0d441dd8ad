use Rattle.std.proofs.Common.{◌≡◌, ◌++◌, ◌∙◌, ap, sym, subst, OnOk}
use Rattle.field_values.specs.FieldBytes.{filled}
use Rattle.view_rules.proofs.OperandLemmas.{text-copied, number-shown}
use Rattle.view_rules.proofs.viewing.show_converted.Goals as goal

pub show_number-requires-clause-numeric : goal.show_number-requires-clause-numeric
show_number-requires-clause-numeric c = number-shown c.args.ty.now c.args.from.now c.args.bytes.now c.number.result c.number.ensures c.requires.taken

pub returns-else-is_numeric : goal.returns-else-is_numeric
returns-else-is_numeric c =
    subst (λ w. OnOk c.show_text.result (c.show_text.new.into.items ≡ c.args.into.now.items ++ w))
    (ap (λ n. filled n c.args.bytes.now) c.width.ensures
    ∙ sym (text-copied c.args.ty.now c.args.from.now c.args.bytes.now (sym c.is_numeric.ensures ∙ c.if-is_numeric.false) c.requires.taken).1) c.show_text.ensures

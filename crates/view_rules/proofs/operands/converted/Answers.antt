use Rattle.std.proofs.Common.{◌∙◌, ◌≤◌, ap, sym, subst, Some, length}
use Rattle.field_types.specs.declared.values.Value.TheVariants.{Chars}
use Rattle.field_values.specs.FieldBytes.{filled}
use Rattle.view_rules.proofs.OperandLemmas.{text-shown, number-shown}
use Rattle.view_rules.proofs.operands.converted.Goals as goal

pub converted-requires-clause-numeric : goal.converted-requires-clause-numeric
converted-requires-clause-numeric c = number-shown c.args.ty.now c.args.from.now c.args.bytes.now c.number.result c.number.ensures c.requires.taken

pub returns-else-is_numeric-clause-value : goal.returns-else-is_numeric-clause-value
returns-else-is_numeric-clause-value c =
    (text-shown c.args.ty.now c.args.from.now c.args.bytes.now (sym c.is_numeric.ensures ∙ c.if-is_numeric.false) c.requires.taken c.requires.there).0
    ∙ ap (λ n. Some (Chars (filled n c.args.bytes.now))) (sym c.width.ensures)

pub returns-else-is_numeric-clause-there : goal.returns-else-is_numeric-clause-there
returns-else-is_numeric-clause-there c = record {
  there = tt;
  room = subst (λ n. length c.args.bytes.now ≤ n) (sym c.width.ensures)
      (text-shown c.args.ty.now c.args.from.now c.args.bytes.now (sym c.is_numeric.ensures ∙ c.if-is_numeric.false) c.requires.taken c.requires.there).1;
}

use Rattle.std.proofs.Common.{◌∙◌, ap, sym, Some}
use Rattle.view_rules.proofs.OperandLemmas.{text-held}
use Rattle.view_rules.proofs.operands.copied.Goals as goal

pub returns-else-is_numeric-clause-value : goal.returns-else-is_numeric-clause-value
returns-else-is_numeric-clause-value c =
    text-held c.args.ty.now c.args.bytes.now (sym c.is_numeric.ensures ∙ c.if-is_numeric.false) c.requires.there ∙ ap Some (sym c.whole.ensures.value)

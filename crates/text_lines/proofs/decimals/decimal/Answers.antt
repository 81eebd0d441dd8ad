use Rattle.std.proofs.Common.{◌<◌, ◌+◌, ◌*◌, ◌-◌, get_or, sym, ◌∙◌, arith}
use Rattle.text_lines.proofs.DecimalLemmas.{digits_from-ends}
use Rattle.text_lines.proofs.decimals.decimal.Goals as goal

pub returns-then-number-from-clause-spelled : goal.returns-then-number-from-clause-spelled
returns-then-number-from-clause-spelled c =
    let past : c.args.limit < 10 * c.loop-digit.number + (get_or c.args.text.now c.loop-digit.digit-index 0 - 48) = omega (arith, c.if-number-from.true, c.from.ensures, c.from-in-loop-digit.ensures) in
    sym (digits_from-ends c.args.limit c.loop-digit.number c.loop-digit.digit-index c.args.text.now (omega arith) (sym c.if-not-is_digit.ensures) past) ∙ c.loop-digit.invariant.0

use Rattle.std.proofs.Common.{◌<◌, ◌+◌, ◌*◌, ◌-◌, get_or, sym, ◌∙◌, arith}
use Rattle.text_lines.proofs.DecimalLemmas.{digits_from-ends}
use Rattle.statement_reader.specs.declared.numbers.TheConstants.{MOST_UNITS}
use Rattle.statement_reader.proofs.numbers.digits_after.Goals as goal

pub returns-then-number-gt-MOST_UNITS-clause-spelled : goal.returns-then-number-gt-MOST_UNITS-clause-spelled
returns-then-number-gt-MOST_UNITS-clause-spelled c =
    let past : MOST_UNITS < 10 * c.loop-digit.number + (get_or c.args.digits.now c.loop-digit.digit-index 0 - 48) = omega (arith, c.if-number-gt-MOST_UNITS.true, c.from.ensures) in
    sym (digits_from-ends MOST_UNITS c.loop-digit.number c.loop-digit.digit-index c.args.digits.now (omega arith) (sym c.if-not-is_digit.ensures) past) ∙ c.loop-digit.invariant.0

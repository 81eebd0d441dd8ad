use Rattle.std.proofs.Common.{◌≡◌, ◌≤◌, drop}
use Rattle.text_lines.specs.Decimal.{digits_from}
use Rattle.statement_reader.specs.declared.numbers.TheConstants.{MOST_UNITS}
use Rattle.statement_reader.proofs.numbers.digits_after.Given as goal

abbrev pub invariant-loop-digit : goal.invariant-loop-digit
invariant-loop-digit l = (digits_from MOST_UNITS l.number (drop l.digit-index l.digits) ≡ digits_from MOST_UNITS l.fn.front l.digits) × (l.number ≤ MOST_UNITS)

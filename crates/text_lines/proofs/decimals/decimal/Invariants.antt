use Rattle.std.proofs.Common.{◌≡◌, ◌≤◌, drop}
use Rattle.text_lines.specs.Decimal.{digits_from, decimal_up_to}
use Rattle.text_lines.proofs.decimals.decimal.Given as goal

abbrev pub invariant-loop-digit : goal.invariant-loop-digit
invariant-loop-digit l =
    (digits_from l.limit l.number (drop l.digit-index l.text) ≡ decimal_up_to l.limit l.text) × (l.number ≤ l.limit)

use Rattle.std.proofs.Common.{◌≡◌, ◌<◌, ◌^◌, ◌+◌, drop, true}
use Rattle.std.specs.List.{list_all}
use Rattle.text_lines.specs.Decimal.{is_digit}
use Rattle.dds_source.specs.Numbers.{decimal_after}
use Rattle.dds_source.proofs.numbers.decimal_after.Given as goal

abbrev pub invariant-loop-digit : goal.invariant-loop-digit
invariant-loop-digit l = record {
  bound : l.number < 10 ^ (l.fn.places + l.digit-index);
  digits : list_all is_digit (drop l.digit-index l.digits) ≡ true;
  value : decimal_after l.number (drop l.digit-index l.digits) ≡ decimal_after l.fn.number l.digits;
}

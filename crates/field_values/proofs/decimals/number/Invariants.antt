use Rattle.std.proofs.Common.{◌≡◌, map, take}
use Rattle.field_values.specs.Digits.{number_in, low_half}
use Rattle.field_values.proofs.decimals.number.Given as goal

abbrev pub invariant-loop-byte : goal.invariant-loop-byte
invariant-loop-byte l = l.number ≡ number_in 10 (map low_half (take l.byte-index l.digits))

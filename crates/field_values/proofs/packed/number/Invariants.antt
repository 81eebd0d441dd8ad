use Rattle.std.proofs.Common.{◌≡◌, ◌+◌, ◌*◌, ◌^◌, ◌≤◌, take}
use Rattle.field_values.specs.Digits.{number_in}
use Rattle.field_values.proofs.PackedLemmas.{halves}
use Rattle.field_values.proofs.packed.number.Given as goal

abbrev pub invariant-loop-byte : goal.invariant-loop-byte
invariant-loop-byte l = record {
  value : l.magnitude ≡ number_in 10 (halves (take l.byte-index l.front));
  bound : l.magnitude + 2 ≤ 2 * 100 ^ l.byte-index;
}

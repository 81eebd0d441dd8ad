use Rattle.std.proofs.Common.{◌≡◌, ◌-◌, ◌*◌, ◌/◌, ◌^◌, ◌<◌, ◌++◌, length, take, unsigned_abs}
use Rattle.field_values.specs.Digits.{digits_in, sign_of, is_negative}
use Rattle.field_values.specs.Packed.{packed_bytes}
use Rattle.field_values.proofs.packed.write.Given as goal

abbrev pub invariant-loop-at : goal.invariant-loop-at
invariant-loop-at l = record {
  in_range : l.at < length l.fn.into;
  written : l.into ≡ take l.at l.fn.into ++ packed_bytes (digits_in 10 (2 * (length l.fn.into - l.at) - 1) (unsigned_abs l.units)) (sign_of (is_negative l.units));
  digits_left : l.rest ≡ unsigned_abs l.units / 10 ^ (2 * (length l.fn.into - l.at) - 1);
}

abbrev pub decreases-loop-at : goal.decreases-loop-at
decreases-loop-at l = l.at

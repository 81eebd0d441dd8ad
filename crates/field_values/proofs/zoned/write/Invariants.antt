use Rattle.std.proofs.Common.{◌≡◌, ◌-◌, ◌/◌, ◌^◌, ◌<◌, ◌≤◌, ◌++◌, length, take, unsigned_abs}
use Rattle.field_values.specs.Digits.{digits_in, sign_of, is_negative}
use Rattle.field_values.specs.Zoned.{zoned_bytes}
use Rattle.field_values.proofs.zoned.write.Given as goal

abbrev pub invariant-loop-at : goal.invariant-loop-at
invariant-loop-at l = record {
  in_range : l.at ≤ length l.fn.into;
  written : l.into ≡ take l.at l.fn.into ++ zoned_bytes (digits_in 10 (length l.fn.into - l.at) (unsigned_abs l.units)) (sign_of (is_negative l.units));
  digits_left : l.rest ≡ unsigned_abs l.units / 10 ^ (length l.fn.into - l.at);
  sign : l.at ≡ length l.fn.into → l.zone ≡ sign_of (is_negative l.units);
  zone : l.at < length l.fn.into → l.zone ≡ 15;
}

abbrev pub decreases-loop-at : goal.decreases-loop-at
decreases-loop-at l = l.at

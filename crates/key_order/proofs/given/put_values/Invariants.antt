use Rattle.std.proofs.Common.{◌≡◌, ◌+◌, ◌≤◌, ◌++◌, None, drop, length, vec_len, vec_capacity}
use Rattle.key_order.specs.KeyBytes.{encoded_values}
use Rattle.key_order.specs.KeyFields.{key_width}
use Rattle.key_order.specs.GivenValues.{value_fault}
use Rattle.key_order.proofs.given.put_values.Given as goal

abbrev pub invariant-loop-i : goal.invariant-loop-i
invariant-loop-i l = record {
  few : length l.values ≤ length l.parts;
  fit : value_fault (l.i + 1) (drop l.i l.parts) (drop l.i l.values) ≡ None;
  key : l.into.items ++ encoded_values (drop l.i l.parts) (drop l.i l.values) ≡ encoded_values l.parts l.values;
  room : vec_len l.into + key_width (drop l.i l.parts) ≤ vec_capacity l.into;
  capacity : vec_capacity l.into ≡ vec_capacity l.fn.into;
}

use Rattle.std.proofs.Common.{◌≡◌, ◌+◌, ◌≤◌, drop, length}
use Rattle.key_order.specs.GivenValues.{value_fault}
use Rattle.key_order.proofs.given.key_fault.Given as goal

abbrev pub invariant-loop-i : goal.invariant-loop-i
invariant-loop-i l = record {
  few : length l.values ≤ length l.parts;
  rest : value_fault (l.i + 1) (drop l.i l.parts) (drop l.i l.values) ≡ value_fault 1 l.parts l.values;
}

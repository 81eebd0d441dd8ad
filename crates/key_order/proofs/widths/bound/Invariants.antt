use Rattle.std.proofs.Common.{◌≡◌, ◌+◌, ◌≤◌, ◌*◌, drop}
use Rattle.key_order.specs.KeyFields.{key_width}
use Rattle.key_order.proofs.widths.bound.Given as goal

abbrev pub invariant-loop-part : goal.invariant-loop-part
invariant-loop-part l = record {
  counted : l.width + key_width (drop l.part-index l.parts) ≡ key_width l.parts;
  few : l.width ≤ 65536 * l.part-index;
}

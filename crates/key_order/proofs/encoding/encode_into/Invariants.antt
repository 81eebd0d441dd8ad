use Rattle.std.proofs.Common.{◌≡◌, ◌+◌, ◌≤◌, ◌++◌, drop, vec_len, vec_capacity}
use Rattle.key_order.specs.KeyBytes.{encoded}
use Rattle.key_order.specs.KeyFields.{key_width}
use Rattle.key_order.proofs.encoding.encode_into.Given as goal

abbrev pub invariant-loop-part : goal.invariant-loop-part
invariant-loop-part l = record {
  key : l.into.items ++ encoded (drop l.part-index l.parts) l.image ≡ encoded l.parts l.image;
  room : vec_len l.into + key_width (drop l.part-index l.parts) ≤ vec_capacity l.into;
  capacity : vec_capacity l.into ≡ vec_capacity l.fn.into;
}

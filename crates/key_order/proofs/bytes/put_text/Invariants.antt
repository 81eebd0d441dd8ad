use Rattle.std.proofs.Common.{◌≡◌, ◌+◌, ◌++◌, take, vec_len, vec_capacity}
use Rattle.key_order.specs.KeyBytes.{turned}
use Rattle.key_order.proofs.bytes.put_text.Given as goal

abbrev pub invariant-loop-byte : goal.invariant-loop-byte
invariant-loop-byte l = record {
  items : l.into.items ≡ l.fn.into.items ++ turned l.descend (take l.byte-index l.text);
  len : vec_len l.into ≡ vec_len l.fn.into + l.byte-index;
  capacity : vec_capacity l.into ≡ vec_capacity l.fn.into;
}

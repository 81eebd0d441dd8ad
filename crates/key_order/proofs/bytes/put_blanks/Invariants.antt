use Rattle.std.proofs.Common.{◌≡◌, ◌+◌, ◌++◌, vec_len, vec_capacity}
use Rattle.std.specs.Prelude.{replicate}
use Rattle.key_order.specs.KeyBytes.{turned}
use Rattle.key_order.proofs.bytes.put_blanks.Given as goal

abbrev pub invariant-loop : goal.invariant-loop
invariant-loop l = record {
  items : l.into.items ≡ l.fn.into.items ++ turned l.descend (replicate l.counter 0x40);
  len : vec_len l.into ≡ vec_len l.fn.into + l.counter;
  capacity : vec_capacity l.into ≡ vec_capacity l.fn.into;
}

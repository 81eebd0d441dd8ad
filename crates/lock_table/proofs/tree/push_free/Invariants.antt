use Rattle.std.proofs.Common.{◌≡◌, ◌+◌, vec_len, vec_capacity}
use Rattle.lock_table.proofs.tree.push_free.Given as goal

abbrev pub invariant-loop-made : goal.invariant-loop-made
invariant-loop-made l = record {
  count : vec_len l.free ≡ vec_len l.initial.free + l.made;
  capacity : vec_capacity l.free ≡ vec_capacity l.initial.free;
}

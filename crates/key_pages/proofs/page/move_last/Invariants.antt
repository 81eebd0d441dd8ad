-- Those that were moved stand before the others.
use Rattle.std.proofs.Common.{◌≡◌, ◌+◌, ◌++◌}
use Rattle.std.specs.VecDeque.{deque_len, deque_capacity}
use Rattle.key_pages.proofs.page.move_last.Given as goal

abbrev pub invariant-loop-moved : goal.invariant-loop-moved
invariant-loop-moved l = record {
  whole : l.from.items ++ l.into.items ≡ l.initial.from.items ++ l.initial.into.items;
  kept : deque_len l.from + l.moved ≡ deque_len l.initial.from;
  grown : deque_len l.into ≡ deque_len l.initial.into + l.moved;
  capacity : deque_capacity l.from ≡ deque_capacity l.initial.from;
  into_capacity : deque_capacity l.into ≡ deque_capacity l.initial.into;
}

use Rattle.std.proofs.Common.{◌≡◌, ◌≤◌, [], replicate, vec_len, vec_capacity}
use Rattle.lock_table.proofs.row.empty_shelves.Given as goal

abbrev pub invariant-loop-made : goal.invariant-loop-made
invariant-loop-made l = record {
  shelves : l.shelves.items ≡ replicate l.made [];
  count : vec_len l.shelves ≡ l.made;
  capacity : l.count ≤ vec_capacity l.shelves;
}

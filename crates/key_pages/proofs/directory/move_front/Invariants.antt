use Rattle.std.proofs.Common.{◌≡◌, ◌+◌, ◌++◌, length, reverse, vec_len}
use Rattle.key_pages.proofs.directory.move_front.Given as goal

abbrev pub invariant-loop-taken : goal.invariant-loop-taken
invariant-loop-taken l = record {
  moved : l.into ++ reverse l.entries.items ≡ reverse l.initial.entries.items;
  count : length l.into ≡ l.taken;
  rest : vec_len l.entries + l.taken ≡ vec_len l.initial.entries;
}

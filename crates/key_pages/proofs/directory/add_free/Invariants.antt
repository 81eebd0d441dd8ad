use Rattle.std.proofs.Common.{◌≡◌, ◌+◌, [], vec_len, vec_capacity}
use Rattle.std.specs.Prelude.{All}
use Rattle.key_pages.proofs.directory.add_free.Given as goal

abbrev pub invariant-loop-added : goal.invariant-loop-added
invariant-loop-added l = record {
  empty : All (λ page. page ≡ []) l.free.items;
  count : vec_len l.free ≡ vec_len l.initial.free + l.added;
  capacity : vec_capacity l.free ≡ vec_capacity l.initial.free;
}

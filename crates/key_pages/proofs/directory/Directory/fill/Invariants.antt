-- Pages that are full enough as long as entries are left.
use Rattle.std.proofs.Common.{◌≡◌, ◌+◌, ◌-◌, ◌*◌, ◌<◌, ◌≤◌, [], ◌++◌, length, reverse, vec_len, vec_capacity}
use Rattle.std.specs.Prelude.{All}
use Rattle.key_pages.specs.declared.page.TheConstants.{FILLED_PAGE_ENTRIES, LEAST_PAGE_ENTRIES}
use Rattle.key_pages.specs.PageList.{entries_of, AreSized}
use Rattle.key_pages.proofs.FillLemmas.{FilledBelow}
use Rattle.key_pages.proofs.directory.Directory.fill.Given as goal

abbrev pub invariant-loop-self : goal.invariant-loop-self
invariant-loop-self l = record {
  all : entries_of l.self-inside.pages.items ++ reverse l.entries.items ≡ reverse l.initial.entries.items;
  sized : AreSized l.self-inside.pages.items;
  least : 0 < vec_len l.entries → All (λ page. LEAST_PAGE_ENTRIES ≤ length page) l.self-inside.pages.items;
  last : 0 < vec_len l.entries → vec_len l.entries < LEAST_PAGE_ENTRIES → length l.self-inside.pages.items ≡ 0;
  full : FilledBelow l.self-inside.pages.items (length l.self-inside.pages.items - 2);
  upto : 0 < vec_len l.entries → FilledBelow l.self-inside.pages.items (length l.self-inside.pages.items - 1);
  before : FILLED_PAGE_ENTRIES < vec_len l.entries → FilledBelow l.self-inside.pages.items (length l.self-inside.pages.items);
  empty : All (λ page. page ≡ []) l.self-inside.free.items;
  enough : vec_len l.entries ≤ LEAST_PAGE_ENTRIES * vec_len l.self-inside.free;
  total : length l.self-inside.pages.items + vec_len l.self-inside.free ≡ vec_len l.initial.self-inside.free;
  room : length l.self-inside.pages.items + vec_len l.self-inside.free ≤ l.self-inside.pages.room;
  free_room : length l.self-inside.pages.items + vec_len l.self-inside.free ≤ vec_capacity l.self-inside.free;
}

abbrev pub decreases-loop-self : goal.decreases-loop-self
decreases-loop-self l = vec_len l.entries

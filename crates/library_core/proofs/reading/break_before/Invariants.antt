use Rattle.std.proofs.Common.{◌≤◌, ◌+◌, ◌-◌, List}
use Rattle.store_model.specs.Disk.{Stays}
use Rattle.entry_codec.specs.declared.entries.Entry.{Entry}
use Rattle.journal_book.specs.Book.{Holds}
use Rattle.block_cache.specs.Cached.{AreStretches}
use Rattle.library_core.proofs.reading.break_before.Given as goal

abbrev pub invariant-loop-begin : goal.invariant-loop-begin
invariant-loop-begin g l = record {
  least : l.kept ≤ l.begin;
  most : l.begin ≤ l.last + 1;
  stays : Stays (g.S.Store.disk l.fn.store) (g.S.Store.disk l.store);
  cached : g.S.Store.tells → (all : List Entry) → Holds l.journal all (g.S.Store.disk l.store) → AreStretches l.journal.first all l.cache;
}

abbrev pub decreases-loop-begin : goal.decreases-loop-begin
decreases-loop-begin g l = l.begin - l.kept

use Rattle.std.proofs.Common.{◌≤◌, ◌-◌, List}
use Rattle.store_model.specs.Disk.{Stays}
use Rattle.entry_codec.specs.declared.entries.Entry.{Entry}
use Rattle.journal_book.specs.Book.{Holds, last_of}
use Rattle.block_cache.specs.Cached.{AreStretches}
use Rattle.ibmi_batch.specs.Seen.{HasRead}
use Rattle.ibmi_batch.proofs.showing.push_journal.Given as goal

abbrev pub invariant-loop-done : goal.invariant-loop-done
invariant-loop-done g l = record {
  stays : Stays (g.S.Store.disk l.fn.store) (g.S.Store.disk l.store);
  read : HasRead g.S.Store.tells (λ (all : List Entry). Holds l.book all (g.S.Store.disk l.fn.store)) l.book.first l.done l.fn.text.items l.text.items;
  upto : l.done ≤ last_of l.book;
  cached : g.S.Store.tells → (all : List Entry) → Holds l.book all (g.S.Store.disk l.store) → AreStretches l.book.first all l.cache;
}

abbrev pub decreases-loop-done : goal.decreases-loop-done
decreases-loop-done g l = l.last - l.done

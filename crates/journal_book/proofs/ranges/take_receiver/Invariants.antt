use Rattle.std.proofs.Common.{◌++◌, ◌-◌, ℕ, List, drop}
use Rattle.store_model.specs.Disk.{Stays}
use Rattle.entry_codec.specs.declared.entries.Entry.{Entry}
use Rattle.receiver_chain.specs.Receivers.{Kept, receiver_at}
use Rattle.receiver_chain.specs.Chain.{Holds}
use Rattle.journal_book.specs.Reads.{IsAhead}
use Rattle.journal_book.proofs.ranges.take_receiver.Given as goal

abbrev pub invariant-loop-n : goal.invariant-loop-n
invariant-loop-n g l = record {
  stays : Stays (g.S.Store.disk l.fn.store) (g.S.Store.disk l.store);
  ahead : g.S.Store.tells → (kept : Kept) (entries old : List Entry) (later : List (List ℕ)) → Holds l.chain kept (g.S.Store.disk l.fn.store)
      → IsAhead l.range.lo l.range.hi entries old l.last l.fn.found.items (drop l.place.n (receiver_at l.chain.first kept l.place.receiver).blocks ++ later)
      → IsAhead l.range.lo l.range.hi entries old l.reached l.found.items (drop l.n (receiver_at l.chain.first kept l.place.receiver).blocks ++ later);
}

abbrev pub decreases-loop-n : goal.decreases-loop-n
decreases-loop-n g l = l.count - l.n

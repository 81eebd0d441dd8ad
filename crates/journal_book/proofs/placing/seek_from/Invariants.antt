use Rattle.std.proofs.Common.{◌≤◌, ◌-◌, ℕ, List, []}
use Rattle.store_model.specs.Disk.{Stays}
use Rattle.entry_codec.specs.declared.entries.Entry.{Entry}
use Rattle.receiver_chain.specs.Receivers.{Kept}
use Rattle.receiver_chain.specs.Chain.{Holds, attached_of}
use Rattle.journal_book.specs.Reads.{IsAhead, blocks_from}
use Rattle.journal_book.proofs.placing.seek_from.Given as goal

abbrev pub invariant-loop-receiver : goal.invariant-loop-receiver
invariant-loop-receiver g l = record {
  stays : Stays (g.S.Store.disk l.fn.store) (g.S.Store.disk l.store);
  from : l.chain.first ≤ l.receiver;
  upto : l.receiver ≤ attached_of l.chain;
  ahead : g.S.Store.tells → (kept : Kept) (entries : List Entry) → Holds l.chain kept (g.S.Store.disk l.fn.store)
      → IsAhead l.sequence l.sequence entries [] l.fn.start.before [] (blocks_from l.chain.first kept l.fn.start.receiver l.fn.start.n)
      → IsAhead l.sequence l.sequence entries [] l.reached [] (blocks_from l.chain.first kept l.receiver l.n);
}

abbrev pub decreases-loop-receiver : goal.decreases-loop-receiver
decreases-loop-receiver g l = attached_of l.chain - l.receiver

use Rattle.std.proofs.Common.{◌≤◌, ◌-◌, drop, take}
use Rattle.store_model.specs.Disk.{Stays}
use Rattle.receiver_chain.specs.Receivers.{Kept, receiver_at}
use Rattle.receiver_chain.specs.Chain.{Holds}
use Rattle.journal_book.proofs.Openings.{IsStretch}
use Rattle.journal_book.proofs.opening.read_bodies.Given as goal

abbrev pub invariant-loop-n : goal.invariant-loop-n
invariant-loop-n g l = record {
  stays : Stays (g.S.Store.disk l.fn.store) (g.S.Store.disk l.store);
  above : l.last ≤ l.reached;
  read : g.S.Store.tells → (kept : Kept) → Holds l.chain kept (g.S.Store.disk l.fn.store)
      → IsStretch l.last (drop l.stretch.from (take l.stretch.to (receiver_at l.chain.first kept l.stretch.receiver).blocks)) l.reached (drop l.n (take l.stretch.to (receiver_at l.chain.first kept l.stretch.receiver).blocks));
}

abbrev pub decreases-loop-n : goal.decreases-loop-n
decreases-loop-n g l = l.stretch.to - l.n

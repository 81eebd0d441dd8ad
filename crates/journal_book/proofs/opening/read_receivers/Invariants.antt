use Rattle.std.proofs.Common.{◌≡◌, ◌≤◌, ◌-◌, drop}
use Rattle.store_model.specs.Disk.{Stays}
use Rattle.receiver_chain.specs.Receivers.{Kept}
use Rattle.receiver_chain.specs.Chain.{Holds, attached_of}
use Rattle.journal_book.proofs.Walking.{IsWalk}
use Rattle.journal_book.proofs.opening.read_receivers.Given as goal

abbrev pub invariant-loop-receiver : goal.invariant-loop-receiver
invariant-loop-receiver g l = record {
  stays : Stays (g.S.Store.disk l.fn.store) (g.S.Store.disk l.store);
  above : l.before ≤ l.last;
  from : l.chain.first ≤ l.receiver;
  upto : l.receiver ≤ attached_of l.chain;
  read : g.S.Store.tells → (kept : Kept) → Holds l.chain kept (g.S.Store.disk l.fn.store) → IsWalk l.chain.first l.before kept.earlier kept.attached l.receiver l.last (drop (l.receiver - l.chain.first) kept.earlier);
}

abbrev pub decreases-loop-receiver : goal.decreases-loop-receiver
decreases-loop-receiver g l = attached_of l.chain - l.receiver

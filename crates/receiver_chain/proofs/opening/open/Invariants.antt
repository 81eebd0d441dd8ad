use Rattle.std.proofs.Common.{◌≡◌, ◌+◌, ◌≤◌, ◌-◌, length}
use Rattle.store_model.specs.Disk.{Stays}
use Rattle.receiver_chain.specs.declared.numbers.TheConstants.{MAX_RECEIVER}
use Rattle.receiver_chain.specs.Receivers.{area_of}
use Rattle.receiver_chain.proofs.Walks.{IsLed}
use Rattle.receiver_chain.proofs.opening.open.Given as goal

abbrev pub invariant-loop-log : goal.invariant-loop-log
invariant-loop-log g l = record {
  stays : Stays (g.S.Store.disk l.fn.store) (g.S.Store.disk l.store);
  first : 1 ≤ l.first;
  count : l.receiver ≡ l.first + length l.earlier.items;
  most : l.receiver ≤ MAX_RECEIVER;
  area : l.log.area ≡ area_of l.receiver;
  led : g.S.Store.tells → IsLed l.first l.earlier.items l.receiver l.log (g.S.Store.disk l.store);
}

abbrev pub decreases-loop-log : goal.decreases-loop-log
decreases-loop-log g l = MAX_RECEIVER - l.receiver

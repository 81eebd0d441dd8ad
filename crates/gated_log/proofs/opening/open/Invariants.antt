use Rattle.std.proofs.Common.{◌≡◌, ◌≤◌, ◌^◌, ◌-◌, length}
use Rattle.store_model.specs.Disk.{Stays, IsDurable}
use Rattle.gated_log.specs.Places.{ArePlaced}
use Rattle.gated_log.specs.Walk.{IsWalked}
use Rattle.gated_log.proofs.opening.open.Given as goal

abbrev pub invariant-loop-places : goal.invariant-loop-places
invariant-loop-places g l = record {
  stays : Stays (g.S.Store.disk l.fn.store) (g.S.Store.disk l.store);
  size : g.S.Store.tells → l.size ≡ length ((g.S.Store.disk l.store).seen l.area);
  bound : l.size ≤ 2 ^ 62;
  durable : g.S.Store.tells → IsDurable l.area (g.S.Store.disk l.store);
  walked : g.S.Store.tells → IsWalked l.area l.head.first l.head.version ((g.S.Store.disk l.store).seen l.area) l.places.items l.gate;
  placed : ArePlaced 32 l.places.items l.gate;
  inside : l.gate ≤ l.size;
}

abbrev pub decreases-loop-places : goal.decreases-loop-places
decreases-loop-places g l = l.size - l.gate

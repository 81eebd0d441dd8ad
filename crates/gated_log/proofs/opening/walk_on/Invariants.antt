use Rattle.std.proofs.Common.{◌≡◌, ◌≤◌, ◌^◌, ◌-◌, length}
use Rattle.store_model.specs.Disk.{Stays}
use Rattle.gated_log.specs.Walk.{IsWalkedTo}
use Rattle.gated_log.proofs.opening.walk_on.Given as goal

abbrev pub invariant-loop-place : goal.invariant-loop-place
invariant-loop-place g l = record {
  stays : Stays (g.S.Store.disk l.fn.store) (g.S.Store.disk l.store);
  size : g.S.Store.tells → l.size ≡ length ((g.S.Store.disk l.store).seen l.area);
  bound : l.size ≤ 2 ^ 62;
  walked : g.S.Store.tells → IsWalkedTo l.area l.fn.head.first l.fn.head.version ((g.S.Store.disk l.store).seen l.area) l.gate;
  inside : l.gate ≤ l.size;
}

abbrev pub decreases-loop-place : goal.decreases-loop-place
decreases-loop-place g l = l.size - l.gate

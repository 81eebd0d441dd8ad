use Rattle.std.proofs.Common.{◌-◌}
use Rattle.store_model.specs.Disk.{Stays}
use Rattle.checkpoint.specs.Roots.{IsRoot}
use Rattle.checkpoint.proofs.Readings.{IsReadTo}
use Rattle.checkpoint.proofs.opening.read_roots.Given as goal

abbrev pub invariant-loop-n : goal.invariant-loop-n
invariant-loop-n g l = record {
  stays : Stays (g.S.Store.disk l.fn.store) (g.S.Store.disk l.store);
  ranges : IsRoot l.last;
  read : g.S.Store.tells → IsReadTo l.log l.n l.last (g.S.Store.disk l.store);
}

abbrev pub decreases-loop-n : goal.decreases-loop-n
decreases-loop-n g l = l.count - l.n

use Rattle.std.proofs.Common.{◌≤◌, ◌-◌}
use Rattle.store_model.specs.Disk.{Stays}
use Rattle.journal_opening.proofs.Takings.{IsTakenTo}
use Rattle.journal_opening.proofs.replaying.replay_entries.Given as goal

abbrev pub invariant-loop-read : goal.invariant-loop-read
invariant-loop-read g l = record {
  stays : Stays (g.S.Store.disk l.fn.store) (g.S.Store.disk l.store);
  within : l.read ≤ l.count;
  taken : IsTakenTo (g.D.Describe.rules l.by) g.S.Store.tells l.book l.read l.entries.items l.replay (g.S.Store.disk l.fn.store);
}

abbrev pub decreases-loop-read : goal.decreases-loop-read
decreases-loop-read g l = l.count - l.read

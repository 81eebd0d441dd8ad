use Rattle.std.proofs.Common.{◌≡◌, ◌≢◌, ℕ, [], length}
use Rattle.job_runner.specs.Ended.{calls_of}
use Rattle.job_runner.specs.Session.{remaining}
use Rattle.job_runner.specs.Turns.{AreByTurns}
use Rattle.job_runner.proofs.RunLemmas.{HasBegun}
use Rattle.job_runner.proofs.session.Session.run_job.Given as goal

abbrev pub invariant-loop : goal.invariant-loop
invariant-loop g l = record {
  others : (other : ℕ) → other ≢ l.job → calls_of other l.self.calls ≡ calls_of other l.fn.self.calls;
  made : HasBegun g.S.Store.tells g.S.Store.disk g.C.Clock.gives l.fn.self l.self (AreByTurns (length l.fn.self.scripts.scripts) [] l.fn.self.calls) (AreByTurns (length l.fn.self.scripts.scripts) [] l.self.calls);
}

abbrev pub decreases-loop : goal.decreases-loop
decreases-loop g l = remaining l.job l.self.calls

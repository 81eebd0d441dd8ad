use Rattle.std.proofs.Common.{◌≤◌, ℕ, IsTrue, [], length}
use Rattle.job_runner.specs.Ended.{has_ended}
use Rattle.job_runner.specs.Turns.{AreByTurns}
use Rattle.job_runner.proofs.RunLemmas.{HasBegun}
use Rattle.job_runner.proofs.session.Session.run_to_ends.Given as goal

abbrev pub invariant-loop-job : goal.invariant-loop-job
invariant-loop-job g l = record {
  ended : (job : ℕ) → 1 ≤ job → job ≤ l.job → IsTrue (has_ended job l.self.calls);
  made : HasBegun g.S.Store.tells g.S.Store.disk g.C.Clock.gives l.fn.self l.self (AreByTurns (length l.fn.self.scripts.scripts) [] l.fn.self.calls) (AreByTurns (length l.fn.self.scripts.scripts) [] l.self.calls);
}

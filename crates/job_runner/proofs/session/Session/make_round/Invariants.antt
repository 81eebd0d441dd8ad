use Rattle.std.proofs.Common.{◌≡◌, ◌≤◌, ◌+◌, ℕ, false, if◌then◌else◌, IsTrue, length}
use Rattle.job_runner.specs.Ended.{has_ended}
use Rattle.job_runner.specs.Session.{all_remaining}
use Rattle.job_runner.specs.Turns.{AreInRound}
use Rattle.job_runner.proofs.RunLemmas.{HasBegun}
use Rattle.job_runner.proofs.session.Session.make_round.Given as goal

abbrev pub invariant-loop-job : goal.invariant-loop-job
invariant-loop-job g l = record {
  ended : l.called ≡ false → (job : ℕ) → 1 ≤ job → job ≤ l.job → IsTrue (has_ended job l.self.calls);
  nearer : all_remaining (length l.fn.self.scripts.scripts) l.self.calls + (if l.called then 1 else 0) ≤ all_remaining (length l.fn.self.scripts.scripts) l.fn.self.calls;
  made : HasBegun g.S.Store.tells g.S.Store.disk g.C.Clock.gives l.fn.self l.self (AreInRound (length l.fn.self.scripts.scripts) 0 l.fn.self.calls) (AreInRound (length l.fn.self.scripts.scripts) l.job l.self.calls);
}

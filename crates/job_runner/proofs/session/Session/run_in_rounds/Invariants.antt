use Rattle.std.proofs.Common.{length}
use Rattle.job_runner.specs.Session.{all_remaining}
use Rattle.job_runner.specs.Turns.{AreInRound}
use Rattle.job_runner.proofs.RunLemmas.{HasBegun}
use Rattle.job_runner.proofs.session.Session.run_in_rounds.Given as goal

abbrev pub invariant-loop : goal.invariant-loop
invariant-loop g l =
    let jobs = length l.fn.self.scripts.scripts in
    HasBegun g.S.Store.tells g.S.Store.disk g.C.Clock.gives l.fn.self l.self (AreInRound jobs 0 l.fn.self.calls) (AreInRound jobs 0 l.self.calls)

abbrev pub decreases-loop : goal.decreases-loop
decreases-loop g l = all_remaining (length l.fn.self.scripts.scripts) l.self.calls

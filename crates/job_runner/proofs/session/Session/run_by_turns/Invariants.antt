use Rattle.std.proofs.Common.{drop, length}
use Rattle.job_runner.specs.Turns.{AreByTurns}
use Rattle.job_runner.proofs.RunLemmas.{HasBegun}
use Rattle.job_runner.proofs.session.Session.run_by_turns.Given as goal

abbrev pub invariant-loop-turn : goal.invariant-loop-turn
invariant-loop-turn g l =
    let jobs = length l.fn.self.scripts.scripts in
    HasBegun g.S.Store.tells g.S.Store.disk g.C.Clock.gives l.fn.self l.self (AreByTurns jobs l.turns l.fn.self.calls) (AreByTurns jobs (drop l.turn-index l.turns) l.self.calls)

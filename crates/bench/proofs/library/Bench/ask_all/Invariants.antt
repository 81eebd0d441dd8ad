use Rattle.std.proofs.Common.{◌≤◌}
use Rattle.bench.proofs.library.Bench.ask_all.Given as goal

abbrev pub invariant-loop-done : goal.invariant-loop-done
invariant-loop-done l = (1 ≤ l.job) × (l.job ≤ l.self)

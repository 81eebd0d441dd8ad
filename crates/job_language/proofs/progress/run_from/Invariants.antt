use Rattle.std.proofs.Common.{◌≡◌}
use Rattle.job_language.specs.Asks.{run_from}
use Rattle.job_language.proofs.progress.run_from.Given as goal

abbrev pub invariant-loop-statement : goal.invariant-loop-statement
invariant-loop-statement l = record {
  runs : run_from l.left l.statements l.place l.variables.now ≡ run_from l.fn.most l.fn.statements l.fn.from l.fn.variables.now;
  before : l.variables.before ≡ l.fn.variables.before;
}

abbrev pub decreases-loop-statement : goal.decreases-loop-statement
decreases-loop-statement l = l.left

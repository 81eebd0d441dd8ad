use Rattle.std.proofs.Common.{◌≡◌, length}
use Rattle.job_language.specs.Variables.{without}
use Rattle.job_language.proofs.variables.Variables.set_back.Given as goal

abbrev pub invariant-loop-variable : goal.invariant-loop-variable
invariant-loop-variable l = without l.self-inside.changes.items l.self-inside.values.items ≡ l.fn.self.before

abbrev pub decreases-loop-variable : goal.decreases-loop-variable
decreases-loop-variable l = length l.self-inside.changes.items

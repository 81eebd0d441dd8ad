-- What holds of every script: it leads to its own statements alone, or to its end. (Our own.)
use Rattle.std.specs.Prelude.{ℕ, ◌≤◌, Option, Some, None, List, [], ◌∷◌, IfSome}
use Rattle.job_language.specs.declared.refusals.Monitor.{Monitor}
use Rattle.job_language.specs.declared.statements.Action.{Action}
use Rattle.job_language.specs.declared.statements.Action.TheVariants.{ChangeVariable, If, Else, DoWhile, Goto, Return, Request}
use Rattle.job_language.specs.declared.statements.Statement.{Statement}

abbrev pub MonitorsWithin : Option Monitor → ℕ → Type 0
MonitorsWithin None end = Unit {0}
MonitorsWithin (Some monitor) end = IfSome monitor.target (λ place. place ≤ end)

abbrev pub ActsWithin : Action → ℕ → Type 0
ActsWithin (ChangeVariable variable value) end = Unit {0}
ActsWithin (If condition otherwise) end = otherwise ≤ end
ActsWithin Else end = Unit {0}
ActsWithin (DoWhile condition otherwise) end = otherwise ≤ end
ActsWithin Goto end = Unit {0}
ActsWithin Return end = Unit {0}
ActsWithin (Request args) end = MonitorsWithin args.monitor end

-- each place that these statements lead to is at most this one
abbrev pub LeadWithin : List Statement → ℕ → Type 0
LeadWithin [] end = Unit {0}
LeadWithin (s ∷ statements) end = (s.next ≤ end) × ActsWithin s.action end × LeadWithin statements end

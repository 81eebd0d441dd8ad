use Rattle.std.proofs.Common.{◌≡◌, false, drop}
use Rattle.script_builder.specs.Least.{least, lesser}
use Rattle.script_builder.specs.Faults.{stray_monitors}
use Rattle.script_builder.proofs.faults.stray_monitor.Given as goal

abbrev pub invariant-loop-statement : goal.invariant-loop-statement
invariant-loop-statement l = lesser l.first (least (stray_monitors (drop l.statement-index l.statements) l.after_request)) ≡ least (stray_monitors l.statements false)

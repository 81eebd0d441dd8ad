use Rattle.std.proofs.Common.{◌≡◌, false, [], drop}
use Rattle.script_builder.specs.Least.{least, lesser}
use Rattle.script_builder.specs.Faults.{stray_elses}
use Rattle.script_builder.proofs.faults.stray_else.Given as goal

abbrev pub invariant-loop-statement : goal.invariant-loop-statement
invariant-loop-statement l = lesser l.first (least (stray_elses (drop l.statement-index l.statements) l.blocks l.after_then)) ≡ least (stray_elses l.statements [] false)

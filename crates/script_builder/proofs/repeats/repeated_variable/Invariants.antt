use Rattle.std.proofs.Common.{◌≡◌, [], drop}
use Rattle.script_builder.specs.Least.{least, lesser}
use Rattle.script_builder.specs.Faults.{variables_of, repeated}
use Rattle.script_builder.proofs.repeats.repeated_variable.Given as goal

abbrev pub invariant-loop-statement : goal.invariant-loop-statement
invariant-loop-statement l = lesser l.first (least (repeated (variables_of (drop l.statement-index l.statements)) l.earlier)) ≡ least (repeated (variables_of l.statements) [])

use Rattle.std.proofs.Common.{◌≡◌, false, drop}
use Rattle.script_builder.specs.Least.{least, lesser}
use Rattle.script_builder.specs.Faults.{late_declarations}
use Rattle.script_builder.proofs.faults.late_declaration.Given as goal

abbrev pub invariant-loop-statement : goal.invariant-loop-statement
invariant-loop-statement l = lesser l.first (least (late_declarations (drop l.statement-index l.statements) l.begun)) ≡ least (late_declarations l.statements false)

use Rattle.std.proofs.Common.{◌≡◌, [], drop}
use Rattle.script_builder.specs.Least.{least, lesser}
use Rattle.script_builder.specs.Faults.{labelled_lines, repeated}
use Rattle.script_builder.proofs.repeats.repeated_label.Given as goal

abbrev pub invariant-loop-statement : goal.invariant-loop-statement
invariant-loop-statement l = lesser l.first (least (repeated (labelled_lines (drop l.statement-index l.statements)) l.earlier)) ≡ least (repeated (labelled_lines l.statements) [])

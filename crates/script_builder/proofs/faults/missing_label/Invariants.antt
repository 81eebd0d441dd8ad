use Rattle.std.proofs.Common.{◌≡◌, drop}
use Rattle.script_builder.specs.Least.{least, lesser}
use Rattle.script_builder.specs.Faults.{missing_labels}
use Rattle.script_builder.proofs.faults.missing_label.Given as goal

abbrev pub invariant-loop-statement : goal.invariant-loop-statement
invariant-loop-statement l = lesser l.first (least (missing_labels (drop l.statement-index l.statements) l.labels)) ≡ least (missing_labels l.statements l.labels)

use Rattle.std.proofs.Common.{◌≡◌, ◌≤◌, drop}
use Rattle.script_builder.specs.Least.{least, lesser}
use Rattle.script_builder.specs.Faults.{labels_inside}
use Rattle.script_builder.proofs.faults.inner_label.Given as goal

abbrev pub invariant-loop-statement : goal.invariant-loop-statement
invariant-loop-statement l = record {
  faults : lesser l.first (least (labels_inside (drop l.statement-index l.statements) l.depth)) ≡ least (labels_inside l.statements 0);
  low : l.depth ≤ l.statement-index;
}

use Rattle.std.proofs.Common.{◌≡◌, ◌≤◌, drop}
use Rattle.script_builder.specs.Least.{least, lesser}
use Rattle.script_builder.specs.Faults.{stray_ends}
use Rattle.script_builder.proofs.faults.stray_end.Given as goal

abbrev pub invariant-loop-statement : goal.invariant-loop-statement
invariant-loop-statement l = record {
  faults : lesser l.first (least (stray_ends (drop l.statement-index l.statements) l.depth)) ≡ least (stray_ends l.statements 0);
  low : l.depth ≤ l.statement-index;
}

use Rattle.std.proofs.Common.{◌≡◌, ◌+◌, ◌≤◌, [], drop}
use Rattle.script_builder.specs.Ways.{count_of, labels_of}
use Rattle.script_builder.proofs.repeats.labels.Given as goal

abbrev pub invariant-loop-statement : goal.invariant-loop-statement
invariant-loop-statement l = record {
  labels : labels_of (drop l.statement-index l.statements) (count_of l.statements) l.depth l.labels ≡ labels_of l.statements (count_of l.statements) 0 [];
  place : l.place + count_of (drop l.statement-index l.statements) ≡ count_of l.statements;
  low : l.depth ≤ l.statement-index;
  before : l.place ≤ l.statement-index;
}

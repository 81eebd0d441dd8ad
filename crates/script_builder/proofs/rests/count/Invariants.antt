use Rattle.std.proofs.Common.{◌≡◌, ◌+◌, ◌≤◌, drop}
use Rattle.script_builder.specs.Ways.{count_of}
use Rattle.script_builder.proofs.rests.count.Given as goal

abbrev pub invariant-loop-statement : goal.invariant-loop-statement
invariant-loop-statement l = record {
  counted : l.count + count_of (drop l.statement-index l.statements) ≡ count_of l.statements;
  before : l.count ≤ l.statement-index;
}

use Rattle.std.proofs.Common.{◌≡◌, ◌≤◌, drop}
use Rattle.script_builder.specs.Nestings.{depth_behind}
use Rattle.script_builder.proofs.faults.open_block.Given as goal

abbrev pub invariant-loop-statement : goal.invariant-loop-statement
invariant-loop-statement l = record {
  depth : depth_behind (drop l.statement-index l.statements) l.depth ≡ depth_behind l.statements 0;
  low : l.depth ≤ l.statement-index;
}

use Rattle.std.proofs.Common.{◌≡◌, ◌+◌, ◌≤◌, length, drop}
use Rattle.std.specs.Prelude.{reverse}
use Rattle.script_builder.specs.Rests.{ahead_of, rests_of}
use Rattle.script_builder.proofs.EndLemmas.{ends_of}
use Rattle.script_builder.proofs.rests.rests.Given as goal

abbrev pub invariant-loop-left : goal.invariant-loop-left
invariant-loop-left l = record {
  within : l.left ≤ length l.statements;
  ahead : l.ahead ≡ ahead_of (drop l.left l.statements);
  ends : l.ends ≡ ends_of (drop l.left l.statements);
  rests : reverse l.rests.items ≡ rests_of (drop l.left l.statements);
  few : l.ahead.here.count + l.left ≤ length l.statements;
}

abbrev pub decreases-loop-left : goal.decreases-loop-left
decreases-loop-left l = l.left

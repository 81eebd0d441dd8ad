use Rattle.std.proofs.Common.{◌≡◌, ◌+◌, ◌≤◌, ◌++◌, [], drop}
use Rattle.script_builder.specs.Ways.{count_of, ways_of}
use Rattle.script_builder.proofs.ways.ways.Given as goal

abbrev pub invariant-loop-i : goal.invariant-loop-i
invariant-loop-i l = record {
  ways : l.ways.items ++ ways_of (drop l.i l.statements) l.labels l.total l.exits ≡ ways_of l.statements l.labels l.total [];
  place : l.place + count_of (drop l.i l.statements) ≡ l.total;
  before : l.place ≤ l.i;
}

use Rattle.std.proofs.Common.{◌≡◌, ◌≤◌, length}
use Rattle.dds_source.specs.Numbers.{from_first}
use Rattle.dds_source.proofs.numbers.from_first.Given as goal

abbrev pub invariant-loop-rest : goal.invariant-loop-rest
invariant-loop-rest l = record {
  shorter : length l.rest ≤ length l.fn.text;
  same : from_first l.rest ≡ from_first l.fn.text;
}

abbrev pub decreases-loop-rest : goal.decreases-loop-rest
decreases-loop-rest l = length l.rest

use Rattle.std.proofs.Common.{◌≤◌, ◌-◌, length}
use Rattle.journal_book.proofs.Bodies.{IsReadTo}
use Rattle.journal_book.proofs.grammar.read_body.Given as goal

abbrev pub invariant-loop-at : goal.invariant-loop-at
invariant-loop-at l = record {
  inside : l.at ≤ length l.block;
  read : IsReadTo l.block l.fn.last l.at l.reached;
}

abbrev pub decreases-loop-at : goal.decreases-loop-at
decreases-loop-at l = length l.block - l.at

use Rattle.std.proofs.Common.{◌≤◌, ◌-◌, length}
use Rattle.journal_book.proofs.Seeking.{IsPassedBy}
use Rattle.journal_book.proofs.placing.seek.Given as goal

abbrev pub invariant-loop-at : goal.invariant-loop-at
invariant-loop-at l = record {
  inside : l.at ≤ length l.block;
  read : IsPassedBy l.sequence l.last l.block l.at l.reached;
}

abbrev pub decreases-loop-at : goal.decreases-loop-at
decreases-loop-at l = length l.block - l.at

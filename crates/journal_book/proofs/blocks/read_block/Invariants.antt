use Rattle.std.proofs.Common.{◌≤◌, ◌-◌, length}
use Rattle.journal_book.proofs.Taking.{IsReadUpTo}
use Rattle.journal_book.proofs.blocks.read_block.Given as goal

abbrev pub invariant-loop-at : goal.invariant-loop-at
invariant-loop-at l = record {
  inside : l.at ≤ length l.block;
  read : IsReadUpTo l.block l.at l.entries.items;
}

abbrev pub decreases-loop-at : goal.decreases-loop-at
decreases-loop-at l = length l.block - l.at

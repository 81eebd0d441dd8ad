use Rattle.std.proofs.Common.{◌≡◌, ◌+◌, ◌≤◌, drop}
use Rattle.statement_reader.specs.Words.{outside, piece_length}
use Rattle.statement_reader.proofs.words.piece_length.Given as goal

abbrev pub invariant-loop-i : goal.invariant-loop-i
invariant-loop-i l = (l.i + piece_length l.nesting (drop l.i l.text) ≡ piece_length outside l.text) × (l.nesting.depth ≤ l.i)

-- What is to stay is what was to stay, and one lock fewer is held.
use Rattle.std.proofs.Common.{length}
use Rattle.lock_table.specs.Index.{is_part}
use Rattle.lock_table.proofs.Releases.{IsLeft}
use Rattle.lock_table.proofs.table.LockTable.free_part.Given as goal

abbrev pub invariant-loop-lock : goal.invariant-loop-lock
invariant-loop-lock l = IsLeft (is_part l.part) l.self l.fn.self

abbrev pub decreases-loop-lock : goal.decreases-loop-lock
decreases-loop-lock l = length l.self.held

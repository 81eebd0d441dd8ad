-- What is to be kept in the end is what was to be kept, and one lock fewer is left to keep.
use Rattle.std.proofs.Common.{length, filter}
use Rattle.lock_table.specs.Lock.{is_of_open_on}
use Rattle.lock_table.proofs.Releases.{IsKept}
use Rattle.lock_table.proofs.table.LockTable.keep_to_boundary.Given as goal

abbrev pub invariant-loop-lock : goal.invariant-loop-lock
invariant-loop-lock l = IsKept l.holder l.at l.self l.fn.self

abbrev pub decreases-loop-lock : goal.decreases-loop-lock
decreases-loop-lock l = length (filter (is_of_open_on l.holder l.at) l.self.held)

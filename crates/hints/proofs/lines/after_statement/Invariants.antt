use Rattle.std.proofs.Common.{◌≤◌, length}
use Rattle.hints.proofs.lines.after_statement.Given as goal

abbrev pub invariant-loop-next : goal.invariant-loop-next
invariant-loop-next l = length l.rest ≤ length l.after

abbrev pub decreases-loop-next : goal.decreases-loop-next
decreases-loop-next l = length l.rest

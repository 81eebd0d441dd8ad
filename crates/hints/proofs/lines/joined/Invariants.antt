use Rattle.std.proofs.Common.{length}
use Rattle.hints.proofs.lines.joined.Given as goal

abbrev pub decreases-loop-next : goal.decreases-loop-next
decreases-loop-next l = length l.rest

use Rattle.std.proofs.Common.{length}
use Rattle.hints.proofs.words.has_word.Given as goal

abbrev pub decreases-loop-next : goal.decreases-loop-next
decreases-loop-next l = length l.rest

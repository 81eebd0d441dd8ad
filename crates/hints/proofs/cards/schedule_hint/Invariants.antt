use Rattle.std.proofs.Common.{length}
use Rattle.hints.proofs.cards.schedule_hint.Given as goal

abbrev pub decreases-loop-name : goal.decreases-loop-name
decreases-loop-name l = length l.rest

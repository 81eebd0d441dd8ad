use Rattle.std.proofs.Common.{length}
use Rattle.hints.proofs.cards.unknown_card.Given as goal

abbrev pub decreases-loop-card : goal.decreases-loop-card
decreases-loop-card l = length l.rest

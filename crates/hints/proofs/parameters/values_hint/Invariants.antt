use Rattle.std.proofs.Common.{length}
use Rattle.hints.proofs.parameters.values_hint.Given as goal

abbrev pub decreases-loop-word : goal.decreases-loop-word
decreases-loop-word l = length l.rest

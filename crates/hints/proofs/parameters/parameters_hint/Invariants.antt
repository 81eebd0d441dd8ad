use Rattle.std.proofs.Common.{length}
use Rattle.hints.proofs.parameters.parameters_hint.Given as goal

abbrev pub decreases-loop-word : goal.decreases-loop-word
decreases-loop-word l = length l.rest

use Rattle.path_set.proofs.TurnLemmas.{IsLooking}
use Rattle.path_set.proofs.set.PathSet.unique_over.Given as goal

abbrev pub invariant-loop-turn : goal.invariant-loop-turn
invariant-loop-turn l = IsLooking l.member l.after l.self.paths l.turn

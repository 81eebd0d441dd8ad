use Rattle.path_set.proofs.MoveLemmas.{IsUnderway}
use Rattle.path_set.proofs.set.PathSet.change.Given as goal

abbrev pub invariant-loop-turn : goal.invariant-loop-turn
invariant-loop-turn l = IsUnderway l.fn.moves l.fn.self l.items.items l.self l.turn

use Rattle.path_set.proofs.ManyPrepareLemmas.{IsBacking}
use Rattle.path_set.proofs.set.PathSet.change_back.Given as goal

abbrev pub invariant-loop-turn : goal.invariant-loop-turn
invariant-loop-turn l = IsBacking l.fn.moves l.fn.self l.items.items l.self l.turn

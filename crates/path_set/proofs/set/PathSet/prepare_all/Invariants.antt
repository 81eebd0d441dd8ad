use Rattle.std.proofs.Common.{◌+◌}
use Rattle.path_set.proofs.ManyPrepareLemmas.{IsPreparingAll}
use Rattle.path_set.proofs.set.PathSet.prepare_all.Given as goal

abbrev pub invariant-loop-turn : goal.invariant-loop-turn
invariant-loop-turn l = IsPreparingAll l.fn.self l.member (l.undos + 2) l.changes l.turn l.moves l.self

use Rattle.std.specs.Prelude.{vec_len}
use Rattle.path_set.proofs.RebuildLemmas.{IsPutting}
use Rattle.path_set.proofs.set.PathSet.rebuild.Given as goal

abbrev pub invariant-loop-new : goal.invariant-loop-new
invariant-loop-new l = IsPutting l.fn.rebuilt l.fn.self l.items.items l.self

abbrev pub decreases-loop-new : goal.decreases-loop-new
decreases-loop-new l = vec_len l.items

use Rattle.std.proofs.Common.{◌+◌}
use Rattle.path_set.specs.Entries.{change_of, paths_of}
use Rattle.path_set.proofs.PrepareLemmas.{IsGathering}
use Rattle.path_set.proofs.kept.prepare_each.Given as goal

abbrev pub invariant-loop-turn : goal.invariant-loop-turn
invariant-loop-turn l = IsGathering (paths_of l.fn.kept.items) l.fn.moves (change_of l.asked) (l.asked.held + 2) l.turn l.moves l.kept.items

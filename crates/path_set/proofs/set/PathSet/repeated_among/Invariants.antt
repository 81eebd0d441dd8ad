use Rattle.std.proofs.Common.{◌≡◌, drop}
use Rattle.path_set.specs.EqualKeys.{first_repeated}
use Rattle.path_set.proofs.set.PathSet.repeated_among.Given as goal

abbrev pub invariant-loop-turn : goal.invariant-loop-turn
invariant-loop-turn l = first_repeated (drop l.turn l.ids) l.self.paths ≡ first_repeated l.ids l.self.paths

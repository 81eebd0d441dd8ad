use Rattle.std.proofs.Common.{◌≡◌, ◌++◌, drop}
use Rattle.logical_paths.specs.Steps.{joined_to}
use Rattle.logical_paths.proofs.joins.joined_to.Given as goal

abbrev pub invariant-loop-pair : goal.invariant-loop-pair
invariant-loop-pair l = l.shown ++ joined_to (drop l.pair-index l.pairs) ≡ joined_to l.pairs

use Rattle.std.proofs.Common.{◌≡◌, ◌++◌, drop}
use Rattle.logical_paths.specs.Steps.{joined_to, parts_behind}
use Rattle.logical_paths.proofs.joins.secondary_key.Given as goal

abbrev pub invariant-loop-pair : goal.invariant-loop-pair
invariant-loop-pair l = l.parts ++ parts_behind l.at (joined_to (drop l.pair-index l.pairs)) l.sequence ≡ parts_behind 0 (joined_to l.pairs) l.sequence

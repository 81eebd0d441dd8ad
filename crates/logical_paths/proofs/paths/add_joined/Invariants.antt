use Rattle.std.proofs.Common.{◌≡◌, ◌++◌, drop}
use Rattle.logical_paths.specs.Steps.{joined_paths}
use Rattle.logical_paths.proofs.paths.add_joined.Given as goal

abbrev pub invariant-loop-joined : goal.invariant-loop-joined
invariant-loop-joined g l =
    l.paths.items ++ joined_paths (g.B.BaseFiles.bases l.bases) (drop l.joined-index l.view.secondaries) ≡ l.fn.paths.items ++ joined_paths (g.B.BaseFiles.bases l.bases) l.view.secondaries

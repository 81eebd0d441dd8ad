use Rattle.std.proofs.Common.{◌≡◌, None}
use Rattle.parts_model.specs.EqualKeys.{repeated_of}
use Rattle.parts_model.proofs.UniqueOver.{AreDoneTo, left_from}
use Rattle.library_parts.proofs.given.has_repeated.Given as goal

abbrev pub invariant-loop-path : goal.invariant-loop-path
invariant-loop-path l = AreDoneTo l.member l.paths.paths (λ id path. repeated_of path ≡ None) l.path

abbrev pub decreases-loop-path : goal.decreases-loop-path
decreases-loop-path l = left_from l.path l.paths.paths

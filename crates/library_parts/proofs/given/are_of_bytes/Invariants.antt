use Rattle.std.proofs.Common.{length}
use Rattle.std.specs.List.{AllByRecursion}
use Rattle.parts_model.specs.Indexed.{HasBytes}
use Rattle.library_parts.proofs.given.are_of_bytes.Given as goal

abbrev pub invariant-loop-rest : goal.invariant-loop-rest
invariant-loop-rest l = AllByRecursion (λ g. HasBytes g.slot) l.rest → AllByRecursion (λ g. HasBytes g.slot) l.given

abbrev pub decreases-loop-rest : goal.decreases-loop-rest
decreases-loop-rest l = length l.rest

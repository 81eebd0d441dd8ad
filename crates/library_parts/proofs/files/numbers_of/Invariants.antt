use Rattle.parts_model.specs.Reads.{IsNumberOf}
use Rattle.parts_model.proofs.MadeLemmas.{AreMade}
use Rattle.library_parts.proofs.files.numbers_of.Given as goal

abbrev pub invariant-loop-spec : goal.invariant-loop-spec
invariant-loop-spec l = AreMade (λ spec id. IsNumberOf spec id l.paths.paths) l.specs l.spec-index l.ids.items

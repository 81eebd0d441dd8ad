use Rattle.parts_model.proofs.GivenKeys.{AreApartTo}
use Rattle.library_parts.proofs.given.first_repeated.Given as goal

abbrev pub invariant-loop-place : goal.invariant-loop-place
invariant-loop-place l = AreApartTo l.catalogue.files l.paths.paths l.member l.place

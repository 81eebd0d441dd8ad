use Rattle.std.proofs.Common.{refl, arith}
use Rattle.parts_model.proofs.IndexKeyed.{IsIndexed-empty}
use Rattle.lawful_states.proofs.LawfulLemmas.{AreOne-empty}
use Rattle.library_parts.proofs.contents.Contents.new.Goals as goal

pub invariant_of-result : goal.invariant_of-result
invariant_of-result c =
    rw (c.new.ensures, c.new-2.ensures.members, c.new-3.ensures, c.new-4.ensures, c.new-5.ensures, c.new-6.ensures)
    (AreOne-empty, record { counted = refl; fits = omega arith; few = omega arith }, IsIndexed-empty)

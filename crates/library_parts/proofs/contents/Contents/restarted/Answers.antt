use Rattle.std.proofs.Common.{refl, arith}
use Rattle.parts_model.proofs.IndexKeyed.{IsIndexed-empty}
use Rattle.lawful_states.proofs.LawfulLemmas.{AreOne-empty, AreOne-journal}
use Rattle.library_parts.proofs.contents.Contents.restarted.Goals as goal

pub invariant_of-result : goal.invariant_of-result
invariant_of-result c =
    rw (c.new.ensures, c.new-2.ensures.members, c.restarted.ensures, c.new-3.ensures, c.new-4.ensures, c.new-5.ensures)
    (AreOne-journal _ _ _ _ _ _ AreOne-empty, record { counted = refl; fits = omega arith; few = omega arith }, IsIndexed-empty)

use Rattle.std.proofs.Common.{arith}
use Rattle.lawful_states.proofs.LawfulLemmas.{AreOne-journal}
use Rattle.library_parts.proofs.contents.Contents.forget.Goals as goal

pub invariant_of-self : goal.invariant_of-self
invariant_of-self c =
    let fits = c.self.invariant.1.fits in
    let kept = c.forget.ensures.room in (
      AreOne-journal _ _ _ _ _ _ c.self.invariant.0,
      record { counted = c.self.invariant.1.counted; fits = omega (arith, fits, kept); few = c.self.invariant.1.few },
      c.self.invariant.2,
    )

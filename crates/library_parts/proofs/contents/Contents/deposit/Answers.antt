use Rattle.std.proofs.Common.{arith}
use Rattle.lawful_states.proofs.LawfulLemmas.{AreOne-journal}
use Rattle.library_parts.proofs.contents.Contents.deposit.Goals as goal

pub deposit-requires : goal.deposit-requires
deposit-requires c = let room = rw (← c.self.view_is) at c.requires.room in omega (arith, room)

pub invariant_of-self : goal.invariant_of-self
invariant_of-self c =
    let room = rw (← c.self.view_is) at c.requires.room in
    let kept = c.deposit.ensures.room in (
      AreOne-journal _ _ _ _ _ _ c.self.invariant.0,
      record { counted = c.self.invariant.1.counted; fits = omega (arith, room, kept); few = c.self.invariant.1.few },
      c.self.invariant.2,
    )

use Rattle.std.proofs.Common.{List, sym, ◌∙◌, subst}
use Rattle.range_images.specs.declared.slot_given.SlotGiven.{SlotGiven}
use Rattle.range_images.specs.Given.{AreInPlace}
use Rattle.range_images.proofs.PutLemmas.{applied-in_place}
use Rattle.range_images.proofs.apply.Goals as goal

pub returns-clause-places : goal.returns-clause-places
returns-clause-places c =
    let slots = c.args.member.now.state.slots in
    let way = c.in_ok-overlay.ensures.done in
    subst (λ (given : List SlotGiven). AreInPlace 1 given slots) (sym (c.new.ensures ∙ c.into_given.ensures ∙ way.given)) (applied-in_place _ slots _ way.gave)

use Rattle.std.proofs.Common.{Some, Option, unwrap_or, sym, ap, ◌∙◌}
use Rattle.member_slots.specs.declared.slot.Slot.{Slot}
use Rattle.journal_model.specs.Places.{slot_of}
use Rattle.range_images.specs.declared.slot_given.SlotGiven.{SlotGiven}
use Rattle.range_images.proofs.GivenLemmas.{last-shows, last-none, slot_of-given}
use Rattle.given_changes.proofs.standing.stood.Goals as goal

pub given_at-requires : goal.given_at-requires
given_at-requires c = (last-shows c.args.place c.args.given.now c.in-Some.field-0.now (sym (c.requires c.args.place) ∙ sym c.in-Some.ensures.value)).within

pub returns-in-Some : goal.returns-in-Some
returns-in-Some c =
    let slots = c.args.member.now.state.slots in
    let given = c.args.given.now in
    let last = last-shows c.args.place given c.in-Some.field-0.now (sym (c.requires c.args.place) ∙ sym c.in-Some.ensures.value) in
    ap (λ (o : Option Slot). unwrap_or o (slot_of slots c.args.place)) (ap (λ (g : SlotGiven). Some g.slot) c.given_at.ensures ∙ last.shows c.given_at.result.now)
    ∙ sym (slot_of-given given slots c.args.place)

pub returns-in-None : goal.returns-in-None
returns-in-None c =
    let slots = c.args.member.now.state.slots in
    let given = c.args.given.now in
    c.member_slot.ensures
    ∙ ap (λ (o : Option Slot). unwrap_or o (slot_of slots c.args.place)) (last-none c.args.place given (sym (c.requires c.args.place) ∙ sym c.in-None.ensures.value))
    ∙ sym (slot_of-given given slots c.args.place)

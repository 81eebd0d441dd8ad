use Rattle.std.proofs.Common.{Option, sym, ap, ◌∙◌, unwrap_or}
use Rattle.member_slots.specs.declared.slot.Slot.{Slot}
use Rattle.journal_model.specs.Places.{slot_of}
use Rattle.range_images.proofs.GivenLemmas.{slot_of-given}
use Rattle.range_images.proofs.overlay.Overlay.slot.Goals as goal

pub returns-in-Some : goal.returns-in-Some
returns-in-Some c =
    let slots = c.args.member.now.state.slots in
    sym (slot_of-given c.args.self.now.given slots c.args.place ∙ ap (λ (o : Option Slot). unwrap_or o (slot_of slots c.args.place)) (sym c.in-Some.ensures))

pub returns-in-None : goal.returns-in-None
returns-in-None c =
    let slots = c.args.member.now.state.slots in
    c.member_slot.ensures ∙ ap (λ (o : Option Slot). unwrap_or o (slot_of slots c.args.place)) c.in-None.ensures ∙ sym (slot_of-given c.args.self.now.given slots c.args.place)

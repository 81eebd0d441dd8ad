use Rattle.std.proofs.Common.{◌≡◌, ◌-◌, ◌<◌, true, sym, ap, ◌∙◌, arith}
use Rattle.std.specs.Option.{option_map}
use Rattle.member_slots.specs.declared.slot.Slot.{Slot}
use Rattle.journal_model.specs.Places.{is_same_slot}
use Rattle.range_images.specs.Sides.{slot_shown}
use Rattle.range_images.specs.Given.{GivenState}
use Rattle.range_images.proofs.GivenLemmas.{undo-goes_on}
use Rattle.range_images.proofs.overlay.Overlay.undo.Goals as goal

pub returns-clause-done : goal.returns-clause-done
returns-clause-done c =
    let count = ap (λ (s : GivenState). s.count) c.self.view_is in
    let there : c.args.change.rrn - 1 < c.args.self.now.count = omega (arith, count, c.from.ensures, c.if-from-self.false) in
    let same : c.is_same.result ≡ true = c.if-not-is_same.false in
    undo-goes_on c.args.change c.args.member.now.state.slots (slot_shown c.in-Some.before) c.in_ok-slot.slot c.args.self.now c.give.new.self c.args.change.counted c.requires
    (ap (option_map slot_shown) c.in-Some.is)
    there
    (ap (λ (s : Slot). is_same_slot (slot_shown c.args.change.sides.after) s) (sym c.slot.ensures) ∙ sym c.is_same.ensures ∙ same)
    c.in_ok-slot.ensures
    c.in_ok-give.ensures

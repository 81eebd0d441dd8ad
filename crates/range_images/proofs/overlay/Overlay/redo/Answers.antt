use Rattle.std.proofs.Common.{◌≡◌, ◌-◌, ◌≤◌, true, sym, ap, ◌∙◌, arith}
use Rattle.std.specs.Option.{option_map}
use Rattle.member_slots.specs.declared.slot.Slot.{Slot}
use Rattle.journal_model.specs.Walks.{is_met}
use Rattle.range_images.specs.Sides.{slot_shown}
use Rattle.range_images.specs.Given.{GivenState}
use Rattle.range_images.proofs.GivenLemmas.{redo-goes_on}
use Rattle.range_images.proofs.overlay.Overlay.redo.Goals as goal

pub returns-clause-done : goal.returns-clause-done
returns-clause-done c =
    let count = ap (λ (s : GivenState). s.count) c.self.view_is in
    let there : c.args.change.rrn - 1 ≤ c.args.self.now.count = omega (arith, count, c.from.ensures, c.if-from-self.false) in
    let met : c.is_met.result ≡ true = c.if-not-is_met.false in
    redo-goes_on c.args.change c.args.member.now.state.slots c.in_ok-slot.slot c.args.self.now c.give.new.self c.args.change.counted c.requires there
    (ap (λ (s : Slot). is_met (option_map slot_shown c.args.change.sides.before) s) (sym c.slot.ensures) ∙ sym c.is_met.ensures ∙ met)
    c.in_ok-slot.ensures
    c.in_ok-give.ensures

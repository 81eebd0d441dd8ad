use Rattle.std.proofs.Common.{◌≡◌, ◌+◌, ◌-◌, List, length, map, reverse, Option, None, Ok, sym, ap, ◌∙◌, subst}
use Rattle.std.specs.Option.{option_copied}
use Rattle.std.proofs.lemmas.Result.{err_from_is_err_and}
use Rattle.journal_model.specs.Acts.{acts}
use Rattle.journal_model.specs.Walks.{numbered, remove}
use Rattle.journal_model.specs.Ranges.{placed, done}
use Rattle.range_images.specs.declared.fault.RangeFault.{RangeFault}
use Rattle.range_images.specs.declared.change.SlotChange.{SlotChange}
use Rattle.range_images.specs.declared.slot_given.SlotGiven.{SlotGiven}
use Rattle.range_images.specs.Sides.{first_sequence, numbered_of}
use Rattle.range_images.specs.Given.{given_slots, AreInPlace}
use Rattle.range_images.specs.Images.{removed_answer, range_done, IsFirstBreak, lacking_in}
use Rattle.range_images.proofs.RemoveLemmas.{removed-lacking, removed-way, tells-done}
use Rattle.range_images.proofs.PutLemmas.{removed-in_place}
use Rattle.range_images.proofs.remove.Goals as goal

pub returns-in-Some-last_lacking-clause-fault : goal.returns-in-Some-last_lacking-clause-fault
returns-in-Some-last_lacking-clause-fault c =
    let entries = c.args.entries.now in
    let first = first_sequence entries in
    let part = acts c.args.number (option_copied c.args.prior) entries in
    let slots = c.args.member.now.state.slots in
    let changes = c.in_ok-changes.changes.items in
    let free : IsFirstBreak None (reverse (placed first part)) =
    subst (λ (o : Option RangeFault). IsFirstBreak o (reverse (placed first part))) c.in_default.is (c.break_back.ensures (option_copied c.args.prior)) in
    removed-lacking first part slots changes c.in_ok-changes.ensures free c.in-Some-last_lacking.sequence
    (c.in-Some-last_lacking.ensures ∙ ap (λ cs. lacking_in (reverse cs)) c.as_slice.ensures.value)

pub returns-in_err-overlay-clause-fault : goal.returns-in_err-overlay-clause-fault
returns-in_err-overlay-clause-fault c =
    let entries = c.args.entries.now in
    let first = first_sequence entries in
    let part = acts c.args.number (option_copied c.args.prior) entries in
    let slots = c.args.member.now.state.slots in
    let changes = c.in_ok-changes.changes.items in
    let free : IsFirstBreak None (reverse (placed first part)) =
    subst (λ (o : Option RangeFault). IsFirstBreak o (reverse (placed first part))) c.in_default.is (c.break_back.ensures (option_copied c.args.prior)) in
    let none : None ≡ lacking_in (reverse changes) = sym c.in_default-last_lacking.is ∙ c.last_lacking.ensures ∙ ap (λ cs. lacking_in (reverse cs)) c.as_slice.ensures.value in
    let way : removed_answer first part slots ≡ done first (first + length part - 1) (numbered first part) (remove (map numbered_of c.as_slice-2.result.now) slots) =
    removed-way first part slots changes c.in_ok-changes.ensures free none
    ∙ ap (λ (cs : List SlotChange). done first (first + length part - 1) (numbered first part) (remove (map numbered_of cs) slots)) (sym c.as_slice-2.ensures.value) in
    let p = err_from_is_err_and c.from_residual-in_err-overlay.result c.from_residual-in_err-overlay.ensures.1 in
    rw (p.1, p.2)
    (tells-done first (first + length part - 1) (numbered first part) (remove (map numbered_of c.as_slice-2.result.now) slots) (removed_answer first part slots)
    c.in_err-overlay.field-0.0 way c.in_err-overlay.ensures.fault)

pub returns-clause-done : goal.returns-clause-done
returns-clause-done c =
    let entries = c.args.entries.now in
    let first = first_sequence entries in
    let part = acts c.args.number (option_copied c.args.prior) entries in
    let slots = c.args.member.now.state.slots in
    let changes = c.in_ok-changes.changes.items in
    let free : IsFirstBreak None (reverse (placed first part)) =
    subst (λ (o : Option RangeFault). IsFirstBreak o (reverse (placed first part))) c.in_default.is (c.break_back.ensures (option_copied c.args.prior)) in
    let none : None ≡ lacking_in (reverse changes) = sym c.in_default-last_lacking.is ∙ c.last_lacking.ensures ∙ ap (λ cs. lacking_in (reverse cs)) c.as_slice.ensures.value in
    removed-way first part slots changes c.in_ok-changes.ensures free none
    ∙ ap (λ (cs : List SlotChange). done first (first + length part - 1) (numbered first part) (remove (map numbered_of cs) slots)) (sym c.as_slice-2.ensures.value)
    ∙ ap (done first (first + length part - 1) (numbered first part)) c.in_ok-overlay.ensures.done.gave
    ∙ ap (λ (given : List SlotGiven). Ok (range_done first part (given_slots given slots))) (sym (c.new.ensures ∙ c.into_given.ensures))

pub returns-clause-places : goal.returns-clause-places
returns-clause-places c =
    let slots = c.args.member.now.state.slots in
    let way = c.in_ok-overlay.ensures.done in
    subst (λ (given : List SlotGiven). AreInPlace 0 given slots) (sym (c.new.ensures ∙ c.into_given.ensures ∙ way.given)) (removed-in_place (map numbered_of c.as_slice-2.result.now) slots _ way.gave)

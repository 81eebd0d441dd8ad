use Rattle.std.proofs.Common.{ℕ, ◌+◌, ◌-◌, List, Ok, refl, sym, ap, ◌∙◌, subst, take}
use Rattle.std.specs.Option.{option_copied}
use Rattle.journal_model.specs.Acts.{acts}
use Rattle.journal_model.specs.Journal.{AreNumbered}
use Rattle.library_steps.specs.Ranges.{given_forward}
use Rattle.range_images.specs.declared.slot_given.SlotGiven.{SlotGiven}
use Rattle.range_images.specs.Given.{given_slots, AreInPlace}
use Rattle.range_images.specs.Images.{range_done}
use Rattle.range_images.specs.Sides.{first_sequence}
use Rattle.library_parts.specs.Given.{AddRecords}
use Rattle.range_requests.proofs.EndLemmas.{first-take, length-take, numbered-take}
use Rattle.range_requests.proofs.WalkLemmas.{first-part, forward-adds, forward-answer, forward-walked, images-refused}
use Rattle.range_requests.proofs.walks.forward.Goals as goal

pub length_of-count-requires : goal.length_of-count-requires
length_of-count-requires c =
    let prior = option_copied c.args.prior in
    let part = c.in-Ok.part in
    let p = first-part c.args.number prior c.args.entries.now part (part.hi - part.lo + 1) refl (c.in-Ok.ensures.part prior) (c.in-Ok.ensures.nonempty prior) (c.in-Ok.ensures.straddled prior) in
    (p.order, p.within)

pub slice_bounds-apply-end : goal.slice_bounds-apply-end
slice_bounds-apply-end c =
    let prior = option_copied c.args.prior in
    let count = c.length_of-count.result in
    let p = first-part c.args.number prior c.args.entries.now c.in-Ok.part count c.length_of-count.ensures (c.in-Ok.ensures.part prior) (c.in-Ok.ensures.nonempty prior) (c.in-Ok.ensures.straddled prior) in
    sym (length-take count c.args.entries.now p.within)

pub apply-requires : goal.apply-requires
apply-requires c =
    let entries = c.args.entries.now in
    let prior = option_copied c.args.prior in
    let count = c.length_of-count.result in
    let p = first-part c.args.number prior entries c.in-Ok.part count c.length_of-count.ensures (c.in-Ok.ensures.part prior) (c.in-Ok.ensures.nonempty prior) (c.in-Ok.ensures.straddled prior) in
    subst (λ (n : ℕ). AreNumbered n (take count entries)) (sym (first-take count entries p.prefix.some)) (numbered-take (first_sequence entries) count entries c.requires.numbered)

pub returns-in-Ok-apply-clause-walked : goal.returns-in-Ok-apply-clause-walked
returns-in-Ok-apply-clause-walked c =
    let entries = c.args.entries.now in
    let prior = option_copied c.args.prior in
    let slots = c.args.member.now.state.slots in
    let count = c.length_of-count.result in
    let f = first_sequence (take count entries) in
    let part = acts c.args.number prior (take count entries) in
    let p = first-part c.args.number prior entries c.in-Ok.part count c.length_of-count.ensures (c.in-Ok.ensures.part prior) (c.in-Ok.ensures.nonempty prior) (c.in-Ok.ensures.straddled prior) in
    forward-walked c.args.number prior entries slots count (c.commands_answer_by_parts.ensures.applied c.args.number (first_sequence entries) prior entries slots) p.prefix _ p.lo p.hi
    (c.into_vec.ensures ∙ c.in-Ok-apply.ensures.given)
    (c.in-Ok-apply.ensures.done ∙ ap (λ (given : List SlotGiven). Ok (range_done f part (given_slots given slots))) (sym c.into_vec.ensures))
    (subst (λ (given : List SlotGiven). AreInPlace 1 given slots) (sym c.into_vec.ensures) c.in-Ok-apply.ensures.places)

pub returns-in-Ok-apply-clause-records : goal.returns-in-Ok-apply-clause-records
returns-in-Ok-apply-clause-records c =
    let entries = c.args.entries.now in
    let prior = option_copied c.args.prior in
    let slots = c.args.member.now.state.slots in
    let count = c.length_of-count.result in
    subst (λ (given : List SlotGiven). AddRecords given slots) (sym (c.into_vec.ensures ∙ c.in-Ok-apply.ensures.given))
    (forward-adds c.args.number (first_sequence (take count entries)) prior (take count entries) slots _ c.in-Ok-apply.ensures.done)

pub returns-in-Err-apply-clause-walked : goal.returns-in-Err-apply-clause-walked
returns-in-Err-apply-clause-walked c =
    let entries = c.args.entries.now in
    let prior = option_copied c.args.prior in
    let slots = c.args.member.now.state.slots in
    let count = c.length_of-count.result in
    let p = first-part c.args.number prior entries c.in-Ok.part count c.length_of-count.ensures (c.in-Ok.ensures.part prior) (c.in-Ok.ensures.nonempty prior) (c.in-Ok.ensures.straddled prior) in
    rw c.images_stop.ensures
    (images-refused c.in-Err-apply.fault _ _ slots given_forward (List SlotGiven)
    (forward-answer c.args.number prior entries slots count (c.commands_answer_by_parts.ensures.applied c.args.number (first_sequence entries) prior entries slots) p.prefix)
    c.in-Err-apply.ensures.fault)

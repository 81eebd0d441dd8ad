use Rattle.std.proofs.Common.{◌≡◌, ℕ, ◌+◌, ◌-◌, List, Option, Ok, Err, refl, sym, ap, ◌∙◌, subst, drop, take, length, arith}
use Rattle.std.specs.Option.{option_copied}
use Rattle.entry_codec.specs.declared.entries.Entry.{Entry}
use Rattle.journal_model.specs.Acts.{acts, entry_before}
use Rattle.journal_model.specs.Journal.{AreNumbered}
use Rattle.journal_model.specs.Walks.{numbered}
use Rattle.library_steps.specs.Ranges.{given_back}
use Rattle.range_images.specs.declared.slot_given.SlotGiven.{SlotGiven}
use Rattle.range_images.specs.Faults.{TellsFault}
use Rattle.range_images.specs.Given as images
use Rattle.range_images.specs.Given.{given_slots, AreInPlace}
use Rattle.range_images.specs.Images.{range_done, removed_answer}
use Rattle.range_images.specs.Sides.{first_sequence}
use Rattle.range_requests.proofs.EndLemmas.{first-numbered, length-drop, numbered-drop, rest-whole}
use Rattle.range_requests.proofs.AddLemmas.{within-adds, within-behind}
use Rattle.range_requests.proofs.WalkLemmas.{backward-answer, backward-walked, images-refused, last-part}
use Rattle.range_requests.proofs.walks.backward.Goals as goal

pub length_of-count-requires : goal.length_of-count-requires
length_of-count-requires c =
    let entries = c.args.entries.now in
    let prior = option_copied c.args.prior in
    let left = length entries - (c.in-Ok.part.hi - c.in-Ok.part.lo + 1) in
    let p = last-part c.args.number prior entries c.in-Ok.part left refl c.requires.numbered (c.in-Ok.ensures.part prior) (c.in-Ok.ensures.nonempty prior) (c.in-Ok.ensures.straddled prior) in
    (p.order, p.within)

pub overflow_sub-left : goal.overflow_sub-left
overflow_sub-left c =
    let prior = option_copied c.args.prior in
    let p = last-part c.args.number prior c.args.entries.now c.in-Ok.part (length c.args.entries.now - (c.in-Ok.part.hi - c.in-Ok.part.lo + 1)) refl c.requires.numbered (c.in-Ok.ensures.part prior)
    (c.in-Ok.ensures.nonempty prior) (c.in-Ok.ensures.straddled prior) in
    omega (arith, p.within, c.length_of-count.ensures)

pub remove-requires : goal.remove-requires
remove-requires c =
    let entries = c.args.entries.now in
    let prior = option_copied c.args.prior in
    let slots = c.args.member.now.state.slots in
    let left = length entries - c.length_of-count.result in
    let is : left ≡ length entries - (c.in-Ok.part.hi - c.in-Ok.part.lo + 1) = ap (λ (n : ℕ). length entries - n) c.length_of-count.ensures in
    let p = last-part c.args.number prior entries c.in-Ok.part left is c.requires.numbered (c.in-Ok.ensures.part prior) (c.in-Ok.ensures.nonempty prior) (c.in-Ok.ensures.straddled prior) in
    let e = rest-whole left entries in
    let long = length-drop left entries in
    let numbers = numbered-drop (first_sequence entries) left entries c.requires.numbered in
    let first = first-numbered (first_sequence entries + left) (drop left entries) numbers (omega (arith, long, p.within, is, p.order)) in
    subst (λ (es : List Entry). AreNumbered (first_sequence es) es) (sym e) (subst (λ (n : ℕ). AreNumbered n (drop left entries)) (sym first) numbers)

pub returns-in-Ok-remove-clause-walked : goal.returns-in-Ok-remove-clause-walked
returns-in-Ok-remove-clause-walked c =
    let entries = c.args.entries.now in
    let prior = option_copied c.args.prior in
    let slots = c.args.member.now.state.slots in
    let left = length entries - c.length_of-count.result in
    let is : left ≡ length entries - (c.in-Ok.part.hi - c.in-Ok.part.lo + 1) = ap (λ (n : ℕ). length entries - n) c.length_of-count.ensures in
    let p = last-part c.args.number prior entries c.in-Ok.part left is c.requires.numbered (c.in-Ok.ensures.part prior) (c.in-Ok.ensures.nonempty prior) (c.in-Ok.ensures.straddled prior) in
    let e = rest-whole left entries in
    let given = subst (λ (b : Option Entry). c.into_vec.result.items ≡ images.given_back (numbered (first_sequence (drop left entries)) (acts c.args.number b (drop left entries)))) c.entry_before-before.ensures
    (subst (λ (es : List Entry). c.into_vec.result.items ≡ images.given_back (numbered (first_sequence es) (acts c.args.number (option_copied c.entry_before-before.result) es))) e
    (c.into_vec.ensures ∙ c.in-Ok-remove.ensures.given)) in
    let went = subst (λ (given : List SlotGiven). removed_answer (first_sequence (drop left entries)) (acts c.args.number (entry_before prior (take left entries)) (drop left entries)) slots
    ≡ Ok (range_done (first_sequence (drop left entries)) (acts c.args.number (entry_before prior (take left entries)) (drop left entries)) (given_slots given slots))) (sym c.into_vec.ensures)
    (subst (λ (b : Option Entry). removed_answer (first_sequence (drop left entries)) (acts c.args.number b (drop left entries)) slots
    ≡ Ok (range_done (first_sequence (drop left entries)) (acts c.args.number b (drop left entries)) (given_slots c.in-Ok-remove.changes slots))) c.entry_before-before.ensures
    (subst (λ (es : List Entry). removed_answer (first_sequence es) (acts c.args.number (option_copied c.entry_before-before.result) es) slots
    ≡ Ok (range_done (first_sequence es) (acts c.args.number (option_copied c.entry_before-before.result) es) (given_slots c.in-Ok-remove.changes slots))) e c.in-Ok-remove.ensures.done)) in
    let places = within-behind c.into_vec.result.items slots (subst (λ (given : List SlotGiven). AreInPlace 0 given slots) (sym c.into_vec.ensures) c.in-Ok-remove.ensures.places) in
    backward-walked c.args.number prior entries slots left (c.commands_answer_by_parts.ensures.removed c.args.number (first_sequence entries) prior entries slots) p.suffix _ p.lo p.hi given went places

pub returns-in-Ok-remove-clause-records : goal.returns-in-Ok-remove-clause-records
returns-in-Ok-remove-clause-records c =
    let slots = c.args.member.now.state.slots in
    within-adds c.into_vec.result.items slots (subst (λ (given : List SlotGiven). AreInPlace 0 given slots) (sym c.into_vec.ensures) c.in-Ok-remove.ensures.places)

pub returns-in-Err-remove-clause-walked : goal.returns-in-Err-remove-clause-walked
returns-in-Err-remove-clause-walked c =
    let entries = c.args.entries.now in
    let prior = option_copied c.args.prior in
    let slots = c.args.member.now.state.slots in
    let left = length entries - c.length_of-count.result in
    let is : left ≡ length entries - (c.in-Ok.part.hi - c.in-Ok.part.lo + 1) = ap (λ (n : ℕ). length entries - n) c.length_of-count.ensures in
    let p = last-part c.args.number prior entries c.in-Ok.part left is c.requires.numbered (c.in-Ok.ensures.part prior) (c.in-Ok.ensures.nonempty prior) (c.in-Ok.ensures.straddled prior) in
    let e = rest-whole left entries in
    let told = subst (λ (b : Option Entry). TellsFault {A = List SlotGiven} (Err c.in-Err-remove.fault) (removed_answer (first_sequence (drop left entries)) (acts c.args.number b (drop left entries)) slots)) c.entry_before-before.ensures
    (subst (λ (es : List Entry). TellsFault {A = List SlotGiven} (Err c.in-Err-remove.fault) (removed_answer (first_sequence es) (acts c.args.number (option_copied c.entry_before-before.result) es) slots)) e c.in-Err-remove.ensures.fault) in
    rw c.images_stop.ensures (images-refused c.in-Err-remove.fault _ _ slots given_back (List SlotGiven) (backward-answer c.args.number prior entries slots left (c.commands_answer_by_parts.ensures.removed c.args.number (first_sequence entries) prior entries slots) p.suffix) told)

-- The two commands on a range are the answers of its closed part, unless a commit cycle cuts it.
use Rattle.std.proofs.Common.{◌≡◌, ℕ, zero, suc, ◌+◌, ◌-◌, ◌≤◌, List, [], ◌∷◌, length, take, drop, reverse, Option, Some, None, Result, refl, sym, ap, ◌∙◌, arith}
use Rattle.std.proofs.lemmas.List.{length-drop}
use Rattle.entry_codec.specs.declared.entries.Entry.{Entry}
use Rattle.member_slots.specs.declared.slot.Slot.{Slot}
use Rattle.journal_model.specs.Acts.{Act, act, acts, entry_before}
use Rattle.journal_model.specs.Closed.{is_closed, closed_prefix, closed_suffix, last}
use Rattle.journal_model.specs.Parts.{applied_part, removed_part, removed_from}
use Rattle.journal_model.specs.Walks.{RangeFault, numbered, apply, remove}
use Rattle.journal_model.specs.Ranges.{placed, straddled, first_gap, first_renumbering, first_lacking, first_fault, RangeDone, done, apply_range, remove_range}
use Rattle.journal_model.proofs.PartLemmas.{greatest-within}
use Rattle.range_images.specs.Images.{applied_answer, removed_answer}

acts-take : (n member : ℕ) (entries : List Entry) (prior : Option Entry) → acts member prior (take n entries) ≡ take n (acts member prior entries)
acts-take zero member entries prior = refl
acts-take (suc n) member [] prior = refl
acts-take (suc n) member (e ∷ entries) prior = ap (λ (xs : List Act). act member prior e ∷ xs) (acts-take n member entries (Some e))

acts-drop : (n member : ℕ) (entries : List Entry) (prior : Option Entry) → acts member (entry_before prior (take n entries)) (drop n entries) ≡ drop n (acts member prior entries)
acts-drop zero member entries prior = refl
acts-drop (suc n) member [] prior = refl
acts-drop (suc n) member (e ∷ entries) prior = acts-drop n member entries (Some e)

length-acts : (member : ℕ) (entries : List Entry) (prior : Option Entry) → length (acts member prior entries) ≡ length entries
length-acts member [] prior = refl
length-acts member (e ∷ entries) prior = ap suc (length-acts member entries (Some e))

-- the first fault, and those behind it
first_fault-front : (fault : Option RangeFault) (faults : List (Option RangeFault)) (answer : Result RangeDone RangeFault)
    → first_fault (fault ∷ faults) answer ≡ first_fault (fault ∷ []) (first_fault faults answer)
first_fault-front None faults answer = refl
first_fault-front (Some fault) faults answer = refl

pub applied-by_parts : (member first : ℕ) (prior : Option Entry) (entries : List Entry) (slots : List Slot) → apply_range first (acts member prior entries) slots ≡ first_fault
    (straddled (numbered first (acts member prior entries)) (numbered first (applied_part (acts member prior entries))) ∷ [])
    (applied_answer first (acts member prior (take (closed_prefix (acts member prior entries)) entries)) slots)
applied-by_parts member first prior entries slots =
    let range = acts member prior entries in
    let cut = straddled (numbered first range) (numbered first (applied_part range)) in
    let part = applied_part range in
    first_fault-front cut (first_gap (placed first part) ∷ first_renumbering (placed first part) ∷ []) (done first (first + length part - 1) (numbered first part) (apply (numbered first part) slots))
    ∙ ap (λ (p : List Act). first_fault (cut ∷ []) (applied_answer first p slots)) (sym (acts-take (closed_prefix range) member entries prior))

pub removed-by_parts : (member first : ℕ) (prior : Option Entry) (entries : List Entry) (slots : List Slot) → remove_range first (acts member prior entries) slots ≡ first_fault
    (straddled (reverse (numbered first (acts member prior entries))) (numbered (removed_from first (acts member prior entries)) (removed_part (acts member prior entries))) ∷ [])
    (removed_answer
    (removed_from first (acts member prior entries))
    (acts member (entry_before prior (take (length entries - closed_suffix (acts member prior entries)) entries)) (drop (length entries - closed_suffix (acts member prior entries)) entries))
    slots)
removed-by_parts member first prior entries slots =
    let range = acts member prior entries in
    let begins = removed_from first range in
    let part = removed_part range in
    let fits = numbered begins part in
    let cut = straddled (reverse (numbered first range)) fits in
    let faults = first_gap (reverse (placed begins part)) ∷ first_renumbering (reverse (placed begins part)) ∷ first_lacking (reverse fits) ∷ [] in
    let within : closed_suffix range ≤ length range = greatest-within (λ n. is_closed (last n range)) (length range) in
    let long : length part ≡ length range - (length range - closed_suffix range) = length-drop (length range - closed_suffix range) range in
    let ends : first + length range - 1 ≡ begins + length part - 1 = omega (arith, within, long) in
    let same : length entries - closed_suffix range ≡ length range - closed_suffix range = omega (arith, length-acts member entries prior) in
    let cited : acts member (entry_before prior (take (length entries - closed_suffix range) entries)) (drop (length entries - closed_suffix range) entries) ≡ part =
    acts-drop (length entries - closed_suffix range) member entries prior ∙ ap (λ (n : ℕ). drop n range) same in
    ap (λ (n : ℕ). first_fault (cut ∷ faults) (done begins n fits (remove fits slots))) ends
    ∙ first_fault-front cut faults (done begins (begins + length part - 1) fits (remove fits slots))
    ∙ ap (λ (p : List Act). first_fault (cut ∷ []) (removed_answer begins p slots)) (sym cited)

-- What a walk that went to its end gave can be put into the member, one slot after the other.
use Rattle.std.proofs.Common.{◌≡◌, ℕ, ◌+◌, ◌-◌, ◌≤◌, List, [], ◌∷◌, ◌++◌, length, map, reverse, Option, unwrap_or, Ok, sym, ap, ◌∙◌, subst, arith}
use Rattle.std.proofs.lemmas.List.{reverse-append, map-append}
use Rattle.member_slots.specs.declared.slot.Slot.{Slot}
use Rattle.member_slots.specs.declared.slot.Slot.TheVariants.{Deleted}
use Rattle.journal_model.specs.Places.{put_slot}
use Rattle.journal_model.specs.Walks.{Numbered, redo, undo, apply, remove}
use Rattle.journal_model.proofs.WalkLemmas.{ok_from_then, redone, undone}
use Rattle.range_images.specs.declared.slot_given.SlotGiven.{SlotGiven}
use Rattle.range_images.specs.Given.{place_given, given_slots, given_forward, given_before, given_back, AreInPlace}
use Rattle.range_images.proofs.GivenLemmas.{given_slots-push}

pub applied-in_place : (ns : List Numbered) (slots after : List Slot) → apply ns slots ≡ Ok after → AreInPlace 1 (given_forward ns) slots
applied-in_place [] slots after h = tt
applied-in_place (n ∷ rest) slots after h =
    let m = ok_from_then (redo n slots) (apply rest) after h in
    let r = redone n slots m.0 m.1 in
    let place : n.change.place ≡ n.change.place + 1 - 1 = omega arith in
    let put : m.0 ≡ put_slot slots (n.change.place + 1 - 1) n.change.after = r.now ∙ ap (λ (p : ℕ). put_slot slots p n.change.after) place in
    (omega arith, omega (arith, r.there), subst (λ (s : List Slot). AreInPlace 1 (given_forward rest) s) put (applied-in_place rest m.0 after m.2))

given_back-more : (n : Numbered) (rest : List Numbered) → given_back (n ∷ rest) ≡ given_back rest ++ given_before n ∷ []
given_back-more n rest = ap (map given_before) (reverse-append (n ∷ []) rest) ∙ map-append given_before (reverse rest) (n ∷ [])

removed-slots : (ns : List Numbered) (slots after : List Slot) → remove ns slots ≡ Ok after → given_slots (given_back ns) slots ≡ after
removed-slots [] slots after h = cc
removed-slots (n ∷ rest) slots after h =
    let m = ok_from_then (remove rest slots) (undo n) after h in
    let u = undone n m.0 after m.2 in
    let place : n.change.place + 1 - 1 ≡ n.change.place = omega arith in
    ap (λ given. given_slots given slots) (given_back-more n rest)
    ∙ given_slots-push (given_back rest) (given_before n) slots
    ∙ ap (λ (s : List Slot). put_slot s (n.change.place + 1 - 1) (unwrap_or n.change.before Deleted)) (removed-slots rest slots m.0 m.1)
    ∙ ap (λ (p : ℕ). put_slot m.0 p (unwrap_or n.change.before Deleted)) place
    ∙ ap (λ (o : Option Slot). put_slot m.0 n.change.place (unwrap_or o Deleted)) u.told
    ∙ sym u.now

in_place-push : (behind : ℕ) (given : List SlotGiven) (g : SlotGiven) (slots : List Slot) → AreInPlace behind given slots → 1 ≤ g.rrn
    → g.rrn ≤ length (given_slots given slots) + behind → AreInPlace behind (given ++ g ∷ []) slots
in_place-push behind [] g slots h counted within = (counted, within, tt)
in_place-push behind (f ∷ given) g slots h counted within = (h.0, h.1, in_place-push behind given g (put_slot slots (place_given f) f.slot) h.2 counted within)

pub removed-in_place : (ns : List Numbered) (slots after : List Slot) → remove ns slots ≡ Ok after → AreInPlace 0 (given_back ns) slots
removed-in_place [] slots after h = tt
removed-in_place (n ∷ rest) slots after h =
    let m = ok_from_then (remove rest slots) (undo n) after h in
    let u = undone n m.0 after m.2 in
    let there : n.change.place + 1 ≤ length (given_slots (given_back rest) slots) + 0 = omega (arith, u.there, ap length (removed-slots rest slots m.0 m.1)) in
    subst (λ given. AreInPlace 0 given slots) (sym (given_back-more n rest)) (in_place-push 0 (given_back rest) (given_before n) slots (removed-in_place rest slots m.0 m.1) (omega arith) there)

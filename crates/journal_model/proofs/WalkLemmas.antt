-- Changes that are applied and removed: each way undoes the other.
use Rattle.std.proofs.Common.{◌≡◌, ℕ, ◌+◌, ◌<◌, ◌≤◌, Bool, true, false, ◌&&◌, ◌||◌, cond, max, List, [], ◌∷◌, length, Option, Some, None, Result, Ok, Err, refl, sym, ap, ◌∙◌, subst, arith, ltb, leb, inl, inr, is_none, ◌++◌}
use Rattle.std.specs.Prelude.{IsOkAnd}
use Rattle.std.specs.List.{list_any}
use Rattle.std.proofs.lemmas.Bool.{and_parts, cases_eq, leb-true, le-leb, ltb-true, lt-ltb}
use Rattle.std.proofs.lemmas.Bool.Decides.{nat_tests}
use Rattle.member_slots.specs.declared.slot.Slot.{Slot}
use Rattle.journal_model.specs.Places.{slot_of, put_slot, is_same_slot, HasSameRecords}
use Rattle.journal_model.specs.Walks.{RangeFault, Numbered, misfit, redo, undo, undo_to, is_met, ◌then◌, apply, remove}
use Rattle.journal_model.specs.Ranges.{lacks_before}
use Rattle.journal_model.proofs.PlaceLemmas.{slot_of-put_same, slot_of-put_other, put_slot-back, length-put_slot, is_same_slot-same, is_same_slot-itself}

pub ok_from_cond : (b : Bool) (slots after : List Slot) (fault : RangeFault) → cond b (Ok slots) (Err fault) ≡ Ok after → (b ≡ true) × (slots ≡ after)
ok_from_cond true slots after fault h = (refl, cc)
ok_from_cond false slots after fault h = absurd (cc)

pub ok_from_then : (r : Result (List Slot) RangeFault) (f : List Slot → Result (List Slot) RangeFault) (after : List Slot) → (r then f) ≡ Ok after
    → (middle : List Slot) × (r ≡ Ok middle) × (f middle ≡ Ok after)
ok_from_then (Ok middle) f after h = (middle, refl, h)
ok_from_then (Err fault) f after h = absurd (cc)

-- what a step backwards that went says of the member before it and after it
pub record Undone (n : Numbered) (slots after : List Slot) : Type 0 where
  pub side : Slot
  pub told : n.change.before ≡ Some side
  pub there : n.change.place < length slots
  pub stood : slot_of slots n.change.place ≡ n.change.after
  pub now : after ≡ put_slot slots n.change.place side

undone_to : (before : Option Slot) (n : Numbered) (slots after : List Slot) → n.change.before ≡ before → undo_to before n slots ≡ Ok after → Undone n slots after
undone_to None n slots after e h = absurd (cc)
undone_to (Some side) n slots after e h =
    let b = ltb n.change.place (length slots) && is_same_slot n.change.after (slot_of slots n.change.place) in
    let parts = ok_from_cond b (put_slot slots n.change.place side) after (misfit n) h in
    let tests = and_parts (ltb n.change.place (length slots)) (is_same_slot n.change.after (slot_of slots n.change.place)) parts.0 in
    record {
      side = side;
      told = e;
      there = ltb-true n.change.place (length slots) tests.0;
      stood = sym (is_same_slot-same _ _ tests.1);
      now = sym parts.1;
    }

pub undone : (n : Numbered) (slots after : List Slot) → undo n slots ≡ Ok after → Undone n slots after
undone n slots after h = undone_to n.change.before n slots after refl h

-- what a step forwards that went says of the member before it and after it
pub record Redone (n : Numbered) (slots after : List Slot) : Type 0 where
  pub there : n.change.place ≤ length slots
  pub met : is_met n.change.before (slot_of slots n.change.place) ≡ true
  pub now : after ≡ put_slot slots n.change.place n.change.after

pub redone : (n : Numbered) (slots after : List Slot) → redo n slots ≡ Ok after → Redone n slots after
redone n slots after h =
    let b = leb n.change.place (length slots) && is_met n.change.before (slot_of slots n.change.place) in
    let parts = ok_from_cond b (put_slot slots n.change.place n.change.after) after (misfit n) h in
    let tests = and_parts (leb n.change.place (length slots)) (is_met n.change.before (slot_of slots n.change.place)) parts.0 in
    record { there = leb-true n.change.place (length slots) tests.0; met = tests.1; now = sym parts.1 }

pub redo-goes : (n : Numbered) (slots : List Slot) → n.change.place ≤ length slots → is_met n.change.before (slot_of slots n.change.place) ≡ true
    → redo n slots ≡ Ok (put_slot slots n.change.place n.change.after)
redo-goes n slots there met = rw (le-leb n.change.place (length slots) there, met) refl

pub undo-goes : (n : Numbered) (slots : List Slot) (side : Slot) → n.change.before ≡ Some side → n.change.place < length slots → slot_of slots n.change.place ≡ n.change.after
    → undo n slots ≡ Ok (put_slot slots n.change.place side)
undo-goes n slots side told there stood = rw (told, lt-ltb n.change.place (length slots) there, stood, is_same_slot-itself n.change.after) refl

-- ---- removing, then applying

redo-undone : (n : Numbered) (slots after : List Slot) → Undone n slots after → redo n after ≡ Ok slots
redo-undone n slots after u =
    let wide : length after ≡ max (length slots) (n.change.place + 1) = ap length u.now ∙ length-put_slot slots n.change.place u.side in
    let shown : slot_of after n.change.place ≡ u.side = ap (λ (s : List Slot). slot_of s n.change.place) u.now ∙ slot_of-put_same slots n.change.place u.side in
    let met : is_met n.change.before (slot_of after n.change.place) ≡ true = rw (u.told, shown) (is_same_slot-itself u.side) in
    redo-goes n after (omega (arith, u.there)) met
    ∙ ap Ok (rw (u.now, ← u.stood) (put_slot-back slots n.change.place u.side u.there))

pub apply-removed : (changes : List Numbered) (slots after : List Slot) → remove changes slots ≡ Ok after → apply changes after ≡ Ok slots
apply-removed [] slots after h = sym h
apply-removed (n ∷ rest) slots after h =
    let m = ok_from_then (remove rest slots) (undo n) after h in
    rw (redo-undone n m.0 after (undone n m.0 after m.2)) (apply-removed rest slots m.0 m.1)

-- ---- applying, then removing

length-undone : (n : Numbered) (slots after : List Slot) → Undone n slots after → length after ≡ length slots
length-undone n slots after u = ap length u.now ∙ length-put_slot slots n.change.place u.side ∙ omega (arith, u.there)

pub length-removed : (changes : List Numbered) (slots after : List Slot) → remove changes slots ≡ Ok after → length after ≡ length slots
length-removed [] slots after h = let e : slots ≡ after = cc in ap length (sym e)
length-removed (n ∷ rest) slots after h =
    let m = ok_from_then (remove rest slots) (undo n) after h in
    length-undone n m.0 after (undone n m.0 after m.2) ∙ length-removed rest slots m.0 m.1

pub length-applied : (changes : List Numbered) (slots after : List Slot) → apply changes slots ≡ Ok after → length slots ≤ length after
length-applied [] slots after h = let e : slots ≡ after = cc in omega (arith, ap length e)
length-applied (n ∷ rest) slots after h =
    let m = ok_from_then (redo n slots) (apply rest) after h in
    let r = redone n slots m.0 m.1 in
    omega (arith, length-applied rest m.0 after m.2, ap length r.now, length-put_slot slots n.change.place n.change.after)

-- a removal that goes, and gives these records
GivesBack : List Numbered → List Slot → List Slot → Type 0
GivesBack changes after slots = (given : List Slot) × (remove changes after ≡ Ok given) × HasSameRecords given slots

some_side : (before : Option Slot) → is_none before ≡ false → (side : Slot) × (before ≡ Some side)
some_side None h = absurd (cc)
some_side (Some side) h = (side, refl)

same_put : (a b : List Slot) (place : ℕ) (slot : Slot) → HasSameRecords a (put_slot b place slot) → (before : Slot) → slot_of b place ≡ before → HasSameRecords (put_slot a place before) b
same_put a b place slot same before stood = record {
  records = λ p. elim (cases_eq place p) [
    | inl e ↦ subst (λ (q : ℕ). slot_of (put_slot a place before) q ≡ slot_of b q) e (slot_of-put_same a place before ∙ sym stood)
    | inr differs ↦ slot_of-put_other a place p before differs ∙ same.records p ∙ slot_of-put_other b place p slot differs
  ];
}

remove-applied : (changes : List Numbered) (slots after : List Slot) → apply changes slots ≡ Ok after → list_any lacks_before changes ≡ false → GivesBack changes after slots
unfolding GivesBack
remove-applied [] slots after h told = (after, refl, record { records = λ place. ap (λ (s : List Slot). slot_of s place) (let e : slots ≡ after = cc in sym e) })
remove-applied (n ∷ rest) slots after h told =
    let lacks = or_parts (lacks_before n) (list_any lacks_before rest) told in
    let m = ok_from_then (redo n slots) (apply rest) after h in
    let r = redone n slots m.0 m.1 in
    let more = remove-applied rest m.0 after m.2 lacks.1 in
    let s = some_side n.change.before lacks.0 in
    let stood : slot_of slots n.change.place ≡ s.0 = sym (is_same_slot-same s.0 _ (subst (λ (o : Option Slot). is_met o (slot_of slots n.change.place) ≡ true) s.1 r.met)) in
    let same : HasSameRecords more.0 (put_slot slots n.change.place n.change.after) = subst (λ (x : List Slot). HasSameRecords more.0 x) r.now more.2 in
    let shown : slot_of more.0 n.change.place ≡ n.change.after = same.records n.change.place ∙ slot_of-put_same slots n.change.place n.change.after in
    let wide : n.change.place < length more.0 = omega (
      arith,
      length-removed rest after more.0 more.1,
      length-applied rest m.0 after m.2,
      ap length r.now,
      length-put_slot slots n.change.place n.change.after,
    ) in (
      put_slot more.0 n.change.place s.0,
      ap (λ (x : Result (List Slot) RangeFault). x then undo n) more.1 ∙ undo-goes n more.0 s.0 s.1 wide shown,
      same_put more.0 slots n.change.place n.change.after same s.0 stood,
    )
  where
    or_parts : (a b : Bool) → a || b ≡ false → (a ≡ false) × (b ≡ false)
    or_parts a b h = grind (arith, nat_tests)

pub remove-gives_back : (changes : List Numbered) (slots after : List Slot) → apply changes slots ≡ Ok after → list_any lacks_before changes ≡ false
    → IsOkAnd (remove changes after) (λ given. HasSameRecords given slots)
unfolding GivesBack
remove-gives_back changes slots after h told =
    let r = remove-applied changes slots after h told in
    subst (λ (x : Result (List Slot) RangeFault). IsOkAnd x (λ given. HasSameRecords given slots)) (sym r.1) r.2

-- ---- in parts

pub apply-append : (front rest : List Numbered) (slots : List Slot) → apply (front ++ rest) slots ≡ apply front slots then apply rest
apply-append [] rest slots = refl
apply-append (n ∷ front) rest slots = at (redo n slots) (λ s. apply-append front rest s) where
  at : (r : Result (List Slot) RangeFault) → ((s : List Slot) → apply (front ++ rest) s ≡ apply front s then apply rest) → (r then apply (front ++ rest)) ≡ ((r then apply front) then apply rest)
  at (Ok s) more = more s
  at (Err fault) more = refl

pub remove-append : (front rest : List Numbered) (slots : List Slot) → remove (front ++ rest) slots ≡ remove rest slots then remove front
remove-append [] rest slots = at (remove rest slots) where
  at : (r : Result (List Slot) RangeFault) → r ≡ r then (λ s. Ok s)
  at (Ok s) = refl
  at (Err fault) = refl
remove-append (n ∷ front) rest slots = ap (λ (r : Result (List Slot) RangeFault). r then undo n) (remove-append front rest slots) ∙ at (remove rest slots) where
  at : (r : Result (List Slot) RangeFault) → ((r then remove front) then undo n) ≡ (r then remove (n ∷ front))
  at (Ok s) = refl
  at (Err fault) = refl

-- What the slots of a member add to its display one after another, and what is shown of a member that isn't there.
use Rattle.std.proofs.Common.{◌≡◌, ◌∙◌, ℕ, zero, suc, ◌+◌, ◌-◌, ◌==◌, ◌≤◌, false, List, [], ◌∷◌, ◌++◌, length, drop, Option, Some, None}
use Rattle.std.proofs.Common.{slice_get, refl, sym, ap, subst, arith, append_assoc, append-nil}
use Rattle.std.specs.Prelude.{unwrap_or}
use Rattle.std.specs.List.{flat_map}
use Rattle.std.proofs.lemmas.Bool.{ne_eqb, cond-false}
use Rattle.std.proofs.lemmas.List.{drop_all}
use Rattle.member_slots.specs.declared.slot.Slot.{Slot}
use Rattle.member_slots.specs.declared.slot.Slot.TheVariants.{Live, Deleted}
use Rattle.member_slots.specs.Member.{MemberState, empty_member, slot_at, records_from}
use Rattle.member_slots.specs.Members.{NumberedMembers, member_at, member_of}
use Rattle.library_steps.specs.State.{MemberStatus}
use Rattle.display.specs.Display.{record_line, member_line, shown_member}
use Rattle.display.specs.Slots.{live_in, slot_text}

drop-found : {A : Type 0} (xs : List A) (i : ℕ) (x : A) → slice_get xs i ≡ Some x → drop i xs ≡ x ∷ drop (i + 1) xs
drop-found {A = A} [] i x h = absurd (let e : ◌≡◌ {A = Option A} None (Some x) = h in cc)
drop-found {A = A} (y ∷ xs) zero x h = ap (λ (t : A). t ∷ xs) (let e : ◌≡◌ {A = Option A} (Some y) (Some x) = h in cc)
drop-found {A = A} (y ∷ xs) (suc i) x h = drop-found xs i x h ∙ ap (λ (n : ℕ). x ∷ drop n (y ∷ xs)) (let e : suc (i + 1) ≡ suc i + 1 = omega arith in e)

-- the slot behind so many others
slots-found : (m : MemberState) (place : ℕ) (slot : Slot) → slot_at m (place + 1) ≡ Some slot → drop place m.slots ≡ slot ∷ drop (place + 1) m.slots
slots-found m place slot h =
    let some : (place + 1 == 0) ≡ false = ne_eqb (place + 1) 0 (λ e. absurd (omega arith)) in
    drop-found m.slots place slot
    (sym (cond-false (place + 1 == 0) None (slice_get m.slots (place + 1 - 1)) some ∙ ap (slice_get m.slots) (let e : place + 1 - 1 ≡ place = omega arith in e)) ∙ h)

text-cons : (rrn : ℕ) (slot : Slot) (slots : List Slot)
    → flat_map record_line (records_from rrn (slot ∷ slots)) ≡ slot_text rrn slot ++ flat_map record_line (records_from (rrn + 1) slots)
text-cons rrn (Live image) slots = refl
text-cons rrn Deleted slots = refl

count-cons : (rrn : ℕ) (slot : Slot) (slots : List Slot) → length (records_from rrn (slot ∷ slots)) ≡ live_in slot + length (records_from (rrn + 1) slots)
count-cons rrn (Live image) slots = omega arith
count-cons rrn Deleted slots = omega arith

-- ---- the lines of the records

pub records-next : (m : MemberState) (place : ℕ) (slot : Slot) (before after all : List ℕ) → slot_at m (place + 1) ≡ Some slot
    → after ≡ before ++ slot_text (place + 1) slot
    → before ++ flat_map record_line (records_from (place + 1) (drop place m.slots)) ≡ all
    → after ++ flat_map record_line (records_from (place + 1 + 1) (drop (place + 1) m.slots)) ≡ all
records-next m place slot before after all found grown so_far =
    let rest = flat_map record_line (records_from (place + 1 + 1) (drop (place + 1) m.slots)) in
    ap (λ (t : List ℕ). t ++ rest) grown ∙ append_assoc before (slot_text (place + 1) slot) rest
    ∙ ap (λ (t : List ℕ). before ++ t) (sym (text-cons (place + 1) slot (drop (place + 1) m.slots)))
    ∙ ap (λ (slots : List Slot). before ++ flat_map record_line (records_from (place + 1) slots)) (sym (slots-found m place slot found)) ∙ so_far

pub records-end : (rrn place : ℕ) (slots : List Slot) (before all : List ℕ) → length slots ≤ place
    → before ++ flat_map record_line (records_from rrn (drop place slots)) ≡ all → before ≡ all
records-end rrn place slots before all past so_far =
    sym (append-nil before) ∙ ap (λ (left : List Slot). before ++ flat_map record_line (records_from rrn left)) (sym (drop_all place slots past)) ∙ so_far

-- ---- how many there are

pub count-next : (m : MemberState) (place : ℕ) (slot : Slot) → slot_at m (place + 1) ≡ Some slot
    → length (records_from (place + 1) (drop place m.slots)) ≡ live_in slot + length (records_from (place + 1 + 1) (drop (place + 1) m.slots))
count-next m place slot found =
    ap (λ (slots : List Slot). length (records_from (place + 1) slots)) (slots-found m place slot found) ∙ count-cons (place + 1) slot (drop (place + 1) m.slots)

pub count-end : (rrn place : ℕ) (slots : List Slot) → length slots ≤ place → length (records_from rrn (drop place slots)) ≡ 0
count-end rrn place slots past = rw (drop_all place slots past) refl

-- ---- a member that isn't there has no slots

pub member-absent : (name : List ℕ) (status : MemberStatus) (number : ℕ) (members : NumberedMembers) (before after : List ℕ)
    → number ≡ status.number → member_at number members ≡ None → after ≡ before ++ member_line name status 0 0
    → after ≡ before ++ shown_member name status (member_of status.number members)
unfolding shown_member
member-absent name status number members before after same found grown =
    let its : member_at status.number members ≡ None = subst (λ (n : ℕ). member_at n members ≡ None) same found in
    grown ∙ ap (λ (t : List ℕ). before ++ t) (sym (append-nil (member_line name status 0 0)))
    ∙ ap (λ (o : Option MemberState). before ++ shown_member name status (unwrap_or o (empty_member 0))) (sym its)

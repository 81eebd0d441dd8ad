-- Slots are copied one after another, and their records counted.
use Rattle.std.proofs.Common.{ℕ, ◌+◌, ◌-◌, ◌≡◌, ◌≤◌, ◌==◌, zero, suc, List, [], ◌∷◌, ◌++◌, length, false, ne_eqb, refl, sym, ap, arith, ◌∙◌}
use Rattle.std.specs.Prelude.{slice_set}
use Rattle.member_slots.specs.declared.slot.Slot.{Slot}
use Rattle.member_slots.specs.declared.slot.Slot.TheVariants.{Live, Deleted}
use Rattle.member_slots.specs.Member.{MemberState, changed, empty_member, records, records_from}
use Rattle.restarted_library.specs.Copies.{live_count, one_live, with_all, with_behind}

-- ---- copies

append-joined : (xs : List Slot) (slot : Slot) (zs : List Slot) → (xs ++ slot ∷ []) ++ zs ≡ xs ++ slot ∷ zs
append-joined [] slot zs = refl
append-joined (x ∷ xs) slot zs = ap (λ (w : List Slot). x ∷ w) (append-joined xs slot zs)

append-none : (xs : List Slot) → xs ++ [] ≡ xs
append-none [] = refl
append-none (x ∷ xs) = ap (λ (w : List Slot). x ∷ w) (append-none xs)

pub all-behind : (slots : List Slot) (member : MemberState) → with_all slots member ≡ record member { slots = member.slots ++ slots }
all-behind [] member = λ i. record member { slots = sym (append-none member.slots) i }
all-behind (slot ∷ slots) member = all-behind slots (with_behind slot member) ∙ (λ i. record member { slots = append-joined member.slots slot slots i })

pub all-copied : (long : ℕ) (slots : List Slot) (first later : MemberState) → first ≡ empty_member long → later ≡ with_all slots first → later ≡ record { record_length = long; slots = slots }
all-copied long slots first later is made = made ∙ ap (λ (m : MemberState). with_all slots m) is ∙ all-behind slots (empty_member long)

-- ---- a record that is taken out again

set-last : (xs : List Slot) (slot new : Slot) (place : ℕ) → place ≡ length xs → slice_set (xs ++ slot ∷ []) place new ≡ xs ++ new ∷ []
set-last [] slot new zero is = refl
set-last [] slot new (suc place) is = absurd (omega (arith, is))
set-last (x ∷ xs) slot new zero is = absurd (omega (arith, is))
set-last (x ∷ xs) slot new (suc place) is = ap (λ (w : List Slot). x ∷ w) (set-last xs slot new place (omega (arith, is)))

length-behind : (xs : List Slot) (slot : Slot) → length (xs ++ slot ∷ []) ≡ length xs + 1
length-behind [] slot = refl
length-behind (x ∷ xs) slot = let rest = length-behind xs slot in omega (arith, rest)

pub changed-last : (old mid : MemberState) (slot new : Slot) (rrn : ℕ) → mid ≡ with_behind slot old → rrn ≡ length mid.slots → changed mid rrn new ≡ with_behind new old
changed-last old mid slot new rrn made last =
    let long : length mid.slots ≡ length old.slots + 1 = ap (λ (m : MemberState). length m.slots) made ∙ length-behind old.slots slot in
    let some : (rrn == 0) ≡ false = ne_eqb rrn 0 (λ e. absurd (omega (arith, e, last, long))) in
    let place : rrn - 1 ≡ length old.slots = omega (arith, last, long) in
    rw some (λ i. record { record_length = (made i).record_length; slots = (ap (λ (m : MemberState). slice_set m.slots (rrn - 1) new) made ∙ set-last old.slots slot new (rrn - 1) place) i })

-- ---- how many records

records-count : (rrn : ℕ) (slots : List Slot) → length (records_from rrn slots) ≡ live_count slots
records-count rrn [] = refl
records-count rrn (Live image ∷ slots) = let rest = records-count (rrn + 1) slots in omega (arith, rest)
records-count rrn (Deleted ∷ slots) = let rest = records-count (rrn + 1) slots in omega (arith, rest)

pub counted-records : (slots : List Slot) → live_count slots ≡ length (records (record { record_length = 0; slots = slots }))
counted-records slots = sym (records-count 1 slots)

one-few : (slot : Slot) → one_live slot ≤ 1
one-few (Live image) = omega arith
one-few Deleted = omega arith

pub count-few : (slots : List Slot) → live_count slots ≤ length slots
count-few [] = omega arith
count-few (slot ∷ slots) = let rest = count-few slots in let one = one-few slot in omega (arith, rest, one)

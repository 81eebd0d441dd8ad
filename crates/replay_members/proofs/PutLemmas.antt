-- A slot that is put at a place is written there, or pushed behind the last one.
use Rattle.std.proofs.Common.{◌≡◌, ℕ, zero, suc, ◌+◌, ◌≤◌, ◌<◌, List, [], ◌∷◌, ◌++◌, length, set, get_or, refl, ap, ◌∙◌, arith}
use Rattle.std.specs.Prelude.{◌-◌, replicate}
use Rattle.std.proofs.lemmas.List.{append-nil}
use Rattle.member_slots.specs.declared.slot.Slot.{Slot}
use Rattle.member_slots.specs.declared.slot.Slot.TheVariants.{Deleted}
use Rattle.journal_model.specs.Places.{slot_of, put_slot}

pub put-there : (slots : List Slot) (place : ℕ) (slot : Slot) → place < length slots → set slots place slot ≡ put_slot slots place slot
put-there [] place slot h = absurd (omega (arith, h))
put-there (x ∷ slots) zero slot h = refl
put-there (x ∷ slots) (suc place) slot h = ap (λ (rest : List Slot). x ∷ rest) (put-there slots place slot (omega (arith, h)))

pub put-behind : (slots : List Slot) (place : ℕ) (slot : Slot) → place ≡ length slots → slots ++ slot ∷ [] ≡ put_slot slots place slot
put-behind [] zero slot h = refl
put-behind [] (suc place) slot h = absurd (omega (arith, h))
put-behind (x ∷ slots) zero slot h = absurd (omega (arith, h))
put-behind (x ∷ slots) (suc place) slot h = ap (λ (rest : List Slot). x ∷ rest) (put-behind slots place slot (omega (arith, h)))

-- what is read at a place is its slot
pub slot_of-there : (slots : List Slot) (place : ℕ) (d : Slot) → place < length slots → get_or slots place d ≡ slot_of slots place
slot_of-there [] place d h = absurd (omega (arith, h))
slot_of-there (x ∷ slots) zero d h = refl
slot_of-there (x ∷ slots) (suc place) d h = slot_of-there slots place d (omega (arith, h))

-- past the last slot none is live
pub slot_of-past : (slots : List Slot) (place : ℕ) → length slots ≤ place → slot_of slots place ≡ Deleted
slot_of-past [] place h = refl
slot_of-past (x ∷ slots) zero h = absurd (omega (arith, h))
slot_of-past (x ∷ slots) (suc place) h = slot_of-past slots place (omega (arith, h))

put-first : (place : ℕ) (slot : Slot) → set (replicate (suc place) Deleted) place slot ≡ put_slot [] place slot
put-first zero slot = refl
put-first (suc place) slot = ap (λ (rest : List Slot). Deleted ∷ rest) (put-first place slot)

-- filled with deleted slots up to the place, the slot is written there
pub put-filled : (slots : List Slot) (place missing : ℕ) (slot : Slot) → missing ≡ place + 1 - length slots → set (slots ++ replicate missing Deleted) place slot ≡ put_slot slots place slot
put-filled [] place missing slot h =
    let all : missing ≡ suc place = omega (arith, h) in
    ap (λ (n : ℕ). set (replicate n Deleted) place slot) all ∙ put-first place slot
put-filled (x ∷ slots) zero missing slot h =
    let none : missing ≡ 0 = omega (arith, h) in
    ap (λ (n : ℕ). slot ∷ (slots ++ replicate n Deleted)) none ∙ ap (λ (rest : List Slot). slot ∷ rest) (append-nil slots)
put-filled (x ∷ slots) (suc place) missing slot h = ap (λ (rest : List Slot). x ∷ rest) (put-filled slots place missing slot (omega (arith, h)))

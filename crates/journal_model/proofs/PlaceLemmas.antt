-- Slots by their places: what a slot that was put shows, and what it leaves as it was.
use Rattle.std.proofs.Common.{◌≡◌, ◌≢◌, ℕ, zero, suc, ◌+◌, ◌<◌, true, List, [], ◌∷◌, length, max, refl, ap, arith}
use Rattle.std.proofs.lemmas.Slice.Eq.{bytes_eq-Decides}
use Rattle.member_slots.specs.declared.slot.Slot.{Slot}
use Rattle.member_slots.specs.declared.slot.Slot.TheVariants.{Live, Deleted}
use Rattle.journal_model.specs.Places.{slot_of, put_slot, is_same_slot}

pub slot_of-put_same : (slots : List Slot) (place : ℕ) (new : Slot) → slot_of (put_slot slots place new) place ≡ new
slot_of-put_same [] zero new = refl
slot_of-put_same [] (suc place) new = slot_of-put_same [] place new
slot_of-put_same (slot ∷ slots) zero new = refl
slot_of-put_same (slot ∷ slots) (suc place) new = slot_of-put_same slots place new

pub slot_of-put_other : (slots : List Slot) (place other : ℕ) (new : Slot) → place ≢ other → slot_of (put_slot slots place new) other ≡ slot_of slots other
slot_of-put_other [] zero zero new differs = absurd (differs refl)
slot_of-put_other [] zero (suc other) new differs = refl
slot_of-put_other [] (suc place) zero new differs = refl
slot_of-put_other [] (suc place) (suc other) new differs = slot_of-put_other [] place other new (λ same. differs (ap suc same))
slot_of-put_other (slot ∷ slots) zero zero new differs = absurd (differs refl)
slot_of-put_other (slot ∷ slots) zero (suc other) new differs = refl
slot_of-put_other (slot ∷ slots) (suc place) zero new differs = refl
slot_of-put_other (slot ∷ slots) (suc place) (suc other) new differs = slot_of-put_other slots place other new (λ same. differs (ap suc same))

-- the last slot that is put counts, and the slot that stood there gives the member back
pub put_slot-back : (slots : List Slot) (place : ℕ) (new : Slot) → place < length slots → put_slot (put_slot slots place new) place (slot_of slots place) ≡ slots
put_slot-back [] place new within = absurd (omega arith)
put_slot-back (slot ∷ slots) zero new within = refl
put_slot-back (slot ∷ slots) (suc place) new within = ap (λ rest. slot ∷ rest) (put_slot-back slots place new (omega arith))

pub length-put_slot : (slots : List Slot) (place : ℕ) (new : Slot) → length (put_slot slots place new) ≡ max (length slots) (place + 1)
length-put_slot [] zero new = refl
length-put_slot [] (suc place) new = omega (arith, length-put_slot [] place new)
length-put_slot (slot ∷ slots) zero new = omega arith
length-put_slot (slot ∷ slots) (suc place) new = omega (arith, length-put_slot slots place new)

pub is_same_slot-same : (a b : Slot) → is_same_slot a b ≡ true → a ≡ b
is_same_slot-same Deleted Deleted h = refl
is_same_slot-same Deleted (Live b) h = absurd (cc)
is_same_slot-same (Live a) Deleted h = absurd (cc)
is_same_slot-same (Live a) (Live b) h = ap Live ((bytes_eq-Decides a b).0 h)

pub is_same_slot-itself : (a : Slot) → is_same_slot a a ≡ true
is_same_slot-itself Deleted = refl
is_same_slot-itself (Live a) = (bytes_eq-Decides a a).1 refl

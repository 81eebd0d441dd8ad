-- Which slot is at a place of a member, and what does a member become when one is put there?
-- (Database Programming, "Relative record number".) Places count from 0; past the last slot none is live.
use Rattle.std.specs.Prelude.{ℕ, zero, suc, ◌≡◌, Bool, true, false, List, [], ◌∷◌}
use Rattle.std.specs.Str.{bytes_eq}
use Rattle.member_slots.specs.declared.slot.Slot.{Slot}
use Rattle.member_slots.specs.declared.slot.Slot.TheVariants.{Live, Deleted}

abbrev pub slot_of : List Slot → ℕ → Slot
slot_of [] place = Deleted
slot_of (slot ∷ slots) zero = slot
slot_of (slot ∷ slots) (suc place) = slot_of slots place

-- the places between the last slot and a place behind it become deleted ones
abbrev pub put_slot : List Slot → ℕ → Slot → List Slot
put_slot [] zero new = new ∷ []
put_slot [] (suc place) new = Deleted ∷ put_slot [] place new
put_slot (slot ∷ slots) zero new = new ∷ slots
put_slot (slot ∷ slots) (suc place) new = slot ∷ put_slot slots place new

abbrev pub is_same_slot : Slot → Slot → Bool
is_same_slot Deleted Deleted = true
is_same_slot Deleted (Live image) = false
is_same_slot (Live image) Deleted = false
is_same_slot (Live image) (Live other) = bytes_eq image other

-- two members have the same records, each at the same number
pub record HasSameRecords (a b : List Slot) : Type 0 where
  pub records : (place : ℕ) → slot_of a place ≡ slot_of b place

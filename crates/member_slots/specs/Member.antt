-- What a member is: its record length and its list of slots, and what each change makes of it.
-- (Database Programming, "Physical file members", "Relative record number" and "Reorganizing data in physical file members".)
use Rattle.std.specs.Prelude.{ℕ, ◌+◌, ◌-◌, ◌*◌, ◌≤◌, ◌≡◌, ◌==◌, Bool, true, false, ◌||◌, nat_lt, if◌then◌else◌, List, [], ◌∷◌, ◌++◌, length, filter, slice_get, slice_set, All, Option, None}
use Rattle.member_slots.specs.declared.slot.Slot.{Slot}
use Rattle.member_slots.specs.declared.slot.Slot.TheVariants.{Live, Deleted}

-- the length of each record, and the slots in the order of their relative record numbers
pub record MemberState : Type 0 where
  pub record_length : ℕ
  pub slots : List Slot

-- a record that stands there has the member's record length
abbrev pub FitsSlot : ℕ → Slot → Type 0
FitsSlot record_length (Live image) = length image ≡ record_length
FitsSlot record_length Deleted = Unit {0}

-- each record has the record length, and the slots are at most 1,000,000, and 256 MiB with the deleted ones
pub record IsMember (member : MemberState) : Type 0 where
  pub records : All (FitsSlot member.record_length) member.slots
  pub slots : length member.slots ≤ 1000000
  pub bytes : length member.slots * member.record_length ≤ 268435456

-- a member without slots
abbrev pub empty_member : ℕ → MemberState
empty_member record_length = record { record_length = record_length; slots = [] }

-- a record stands in the slot
abbrev pub is_live : Slot → Bool
is_live (Live image) = true
is_live Deleted = false

-- the slot at a relative record number, which count from 1
abbrev pub slot_at : MemberState → ℕ → Option Slot
slot_at member rrn = if rrn == 0 then None else slice_get member.slots (rrn - 1)

-- the records from a relative record number on, each with its number
abbrev pub records_from : ℕ → List Slot → List (ℕ × List ℕ)
records_from rrn [] = []
records_from rrn (Live image ∷ slots) = (rrn, image) ∷ records_from (rrn + 1) slots
records_from rrn (Deleted ∷ slots) = records_from (rrn + 1) slots

-- the records of the member, each with its relative record number
abbrev pub records : MemberState → List (ℕ × List ℕ)
records member = records_from 1 member.slots

-- one more slot would pass 1,000,000 slots or 256 MiB
abbrev pub is_full : MemberState → Bool
is_full member = nat_lt 1000000 (length member.slots + 1) || nat_lt 268435456 ((length member.slots + 1) * member.record_length)

-- a record added behind the last slot
abbrev pub appended : MemberState → List ℕ → MemberState
appended member image = record member { slots = member.slots ++ Live image ∷ [] }

-- another slot at a relative record number; nothing changes where the member has no such place
abbrev pub changed : MemberState → ℕ → Slot → MemberState
changed member rrn slot = if rrn == 0 then member else record member { slots = slice_set member.slots (rrn - 1) slot }

-- all slots removed
abbrev pub cleared : MemberState → MemberState
cleared member = empty_member member.record_length

-- the deleted slots removed, and the records in their order
abbrev pub reorganized : MemberState → MemberState
reorganized member = record member { slots = filter is_live member.slots }

-- a member with the room that it has for further slots
pub record RoomyMember : Type 0 where
  pub state : MemberState
  pub spare : ℕ

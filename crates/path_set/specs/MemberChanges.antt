-- When do members differ in one record alone? (Database Programming, "Relative record number".)
use Rattle.std.specs.Prelude.{◌≡◌, ◌≢◌, ℕ, ◌+◌, ◌⊎◌, List, [], ◌∷◌, ◌++◌, length, Option, Some, None}
use Rattle.member_slots.specs.declared.slot.Slot.{Slot}
use Rattle.member_slots.specs.declared.slot.Slot.TheVariants.{Live, Deleted}
use Rattle.member_slots.specs.Members.{NumberedMembers, member_of}
use Rattle.path_set.specs.KeptPaths.{KeptPaths, AreShared, AreOver}
use Rattle.path_set.specs.RecordChanges.{RecordChange, HaveRoom}

-- the slot in which an image stands
abbrev pub slot_with : Option (List ℕ) → Slot
slot_with None = Deleted
slot_with (Some image) = Live image

-- a record is added after these slots
pub record IsAfterLast (old : Slot) (before front back : List Slot) : Type 0 where
  pub all : before ≡ front
  pub none : back ≡ []
  pub deleted : old ≡ Deleted

-- the slots differ at this number alone, where they had the old slot, or where a deleted one comes after the last
pub record IsSlotChange (rrn : ℕ) (old new : Slot) (before after : List Slot) : Type 0 where
  pub front : List Slot
  pub back : List Slot
  pub number : rrn ≡ 1 + length front
  pub was : (before ≡ front ++ old ∷ back) ⊎ IsAfterLast old before front back
  pub is : after ≡ front ++ new ∷ back

-- the members differ in this record alone
pub record IsRecordChange (c : RecordChange) (before after : NumberedMembers) : Type 0 where
  pub slots : IsSlotChange c.rrn (slot_with c.old) (slot_with c.new) (member_of c.member before).slots (member_of c.member after).slots
  pub others : (number : ℕ) → number ≢ c.member → (member_of number after).slots ≡ (member_of number before).slots

-- the paths are those of the members before the change, and have memory for it
pub record AreReady (c : RecordChange) (before after : NumberedMembers) (kept : KeptPaths) : Type 0 where
  pub changes : IsRecordChange c before after
  pub shared : AreShared kept.paths
  pub over : AreOver before kept.paths
  pub room : HaveRoom c.member 1 kept

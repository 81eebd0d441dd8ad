-- What a change shows to one who looks: the changed place or member, and every other one as it was.
-- (Database Programming, "Relative record number" and "Physical file members".)
use Rattle.std.specs.Prelude.{ℕ, ◌≡◌, ◌≢◌, Option, Some, List, map}
use Rattle.member_slots.specs.declared.slot.Slot.{Slot}
use Rattle.member_slots.specs.Member.{MemberState, slot_at, records}
use Rattle.member_slots.specs.Members.{NumberedMembers, member_at}

-- new has this slot at the relative record number, and at each other one what old has
pub record ChangesSlot (old new : MemberState) (rrn : ℕ) (slot : Slot) : Type 0 where
  pub this_slot : slot_at new rrn ≡ Some slot
  pub other_slots : (other : ℕ) → other ≢ rrn → slot_at new other ≡ slot_at old other

-- new has this member, or none, with the number, and with each other number what old has
pub record ChangesMember (old new : NumberedMembers) (number : ℕ) (member : Option MemberState) : Type 0 where
  pub this_member : member_at number new ≡ member
  pub other_members : (other : ℕ) → other ≢ number → member_at other new ≡ member_at other old

-- the images of the records, in their order
abbrev pub images : MemberState → List (List ℕ)
images member = map (λ pair. pair.1) (records member)

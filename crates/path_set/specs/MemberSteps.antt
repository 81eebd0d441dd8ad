-- Which record does each change of a member change, and which paths are over the member? (Database Programming, "Relative record number".)
use Rattle.std.specs.Prelude.{◌≡◌, ◌≢◌, ℕ, ◌+◌, ◌==◌, nat_lt, Bool, true, ◌&&◌, List, [], ◌∷◌, ◌++◌, length, filter, Option, Some, None}
use Rattle.std.specs.List.{list_any}
use Rattle.member_slots.specs.declared.slot.Slot.{Slot}
use Rattle.member_slots.specs.declared.slot.Slot.TheVariants.{Live, Deleted}
use Rattle.member_slots.specs.Member.{MemberState}
use Rattle.member_slots.specs.Members.{Numbered, NumberedMembers, member_of}
use Rattle.file_model.specs.declared.paths.PathSpec.{PathSpec}
use Rattle.path_set.specs.KeptPaths.{KeptPath, NumberedPaths}
use Rattle.path_set.specs.RecordChanges.{RecordChange}

-- the image of the record that stands there
abbrev pub image_in : Slot → Option (List ℕ)
image_in (Live image) = Some image
image_in Deleted = None

-- a slot behind the last one of the member
abbrev pub slot_added : (member : ℕ) → Slot → NumberedMembers → RecordChange
slot_added member slot members = record { member = member; rrn = length (member_of member members).slots + 1; old = None; new = image_in slot }

-- a record there
abbrev pub record_added : (member : ℕ) → List ℕ → NumberedMembers → RecordChange
record_added member image members = slot_added member (Live image) members

-- the member with the slot behind its last one
abbrev pub with_slot_behind : Slot → MemberState → MemberState
with_slot_behind slot member = record member { slots = member.slots ++ slot ∷ [] }

-- another slot in the place of one
abbrev pub slot_replaced : (member rrn : ℕ) → (old new : Slot) → RecordChange
slot_replaced member rrn old new = record { member = member; rrn = rrn; old = image_in old; new = image_in new }

-- the members have the same slots, but for this one
abbrev pub AreSameBut : (member : ℕ) → (before after : NumberedMembers) → Type 0
AreSameBut member before after = (number : ℕ) → number ≢ member → (member_of number after).slots ≡ (member_of number before).slots

-- a format of the path is over the member
abbrev pub is_over : (member : ℕ) → PathSpec → Bool
is_over member spec = list_any (λ format. format.member == member) spec.formats

-- the paths over the member
abbrev pub paths_over : (member : ℕ) → NumberedPaths → NumberedPaths
paths_over member paths = filter (λ path. is_over member path.item.spec) paths

-- the number comes after that one, where one is given
abbrev pub is_above : Option ℕ → ℕ → Bool
is_above None number = true
is_above (Some after) number = nat_lt after number

-- the path is over the member, may have no equal keys, and its number comes after that one, where one is given
abbrev pub is_unique_over : (member : ℕ) → (after : Option ℕ) → Numbered KeptPath → Bool
is_unique_over member after path = is_over member path.item.spec && (path.item.spec.unique && is_above after path.number)

-- What a slot must be to stand in a member, it holds values in each field of the files that have the member; and the bytes of a member. (Our own.)
use Rattle.std.specs.Prelude.{ℕ, ◌*◌, List, [], ◌∷◌, ◌++◌, length, filter}
use Rattle.member_slots.specs.Member.{MemberState, is_live}
use Rattle.member_slots.specs.declared.slot.Slot.{Slot}
use Rattle.lawful_states.specs.Owners.{Owns}
use Rattle.library_steps.specs.State.{State, FileState, fields_of}
use Rattle.lawful_states.specs.Lawful.{HoldsValues}

-- whatever file has the member, a value stands in each of its fields in the slot
abbrev pub MayStand : State → (member : ℕ) → Slot → Type 0
MayStand s member slot = (name : List ℕ) (file : FileState) → Owns s.files name file member → HoldsValues (fields_of file) slot

-- the bytes of a member, with those of its deleted slots
abbrev pub weight : MemberState → ℕ
weight member = length member.slots * member.record_length

-- the member with the record of the slot behind its last one, where one stands in it
abbrev pub with_live : Slot → MemberState → MemberState
with_live slot member = record member { slots = member.slots ++ filter is_live (slot ∷ []) }

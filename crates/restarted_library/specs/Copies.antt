-- What is copied of a member, slot by slot, and how many records it has. (Our own.)
use Rattle.std.specs.Prelude.{ℕ, ◌+◌, List, [], ◌∷◌, ◌++◌}
use Rattle.member_slots.specs.declared.slot.Slot.{Slot}
use Rattle.member_slots.specs.declared.slot.Slot.TheVariants.{Live, Deleted}
use Rattle.member_slots.specs.Member.{MemberState}

-- the member with one slot more
abbrev pub with_behind : Slot → MemberState → MemberState
with_behind slot member = record member { slots = member.slots ++ slot ∷ [] }

-- with all of these slots more
abbrev pub with_all : List Slot → MemberState → MemberState
with_all [] member = member
with_all (slot ∷ slots) member = with_all slots (with_behind slot member)

-- 1 where a record stands in the slot, else 0
abbrev pub one_live : Slot → ℕ
one_live (Live image) = 1
one_live Deleted = 0

-- how many records stand in the slots
abbrev pub live_count : List Slot → ℕ
live_count [] = 0
live_count (slot ∷ slots) = one_live slot + live_count slots

-- What a restart puts into a library, and when a member may stand in the place of one that is there. (Our own.)
use Rattle.std.specs.Prelude.{◌≡◌, ℕ, ◌+◌, ◌≤◌, None, IsSome, List}
use Rattle.std.specs.List.{AllByRecursion}
use Rattle.entry_codec.specs.declared.entries.Entry.{Entry}
use Rattle.member_slots.specs.Member.{MemberState}
use Rattle.member_slots.specs.Members.{member_at, member_of}
use Rattle.library_steps.specs.declared.limits.TheConstants.{MOST_LIBRARY_BYTES}
use Rattle.library_steps.specs.Ranges.{library_bytes}
use Rattle.library_steps.specs.State.{State, empty_library, memory_of}
use Rattle.library_steps.specs.Uses.{user_of}
use Rattle.lawful_states.specs.Slots.{MayStand, weight}
use Rattle.parts_model.specs.Indexed.{MemberHasBytes}

-- a library that has these entries and nothing else, with this receiver attached
abbrev pub library_with : List Entry → (attached : ℕ) → State
library_with entries attached = record empty_library { entries = entries; receivers = record { first = 1; attached = attached } }

-- the member may stand in the place of the one of this number, which no job uses: its records are as long, and hold values in each field
pub record MayFill (s : State) (number : ℕ) (member : MemberState) : Type 0 where
  pub there : IsSome (member_at number s.members)
  pub unused : user_of number (memory_of s) ≡ None
  pub long : member.record_length ≡ (member_of number s.members).record_length
  pub values : AllByRecursion (λ slot. MayStand s number slot) member.slots
  pub bytes : MemberHasBytes member
  pub few : library_bytes s.members + weight member ≤ MOST_LIBRARY_BYTES

-- What each file and each member of a library is by itself: a record format whose fields lie one behind the other, and no more slots than a member may
-- have. (DDS for Physical and Logical Files, record format; Database Programming, "Physical file members".)
use Rattle.std.specs.Prelude.{◌≡◌, ℕ, ◌*◌, ◌≤◌, Some, List, length}
use Rattle.std.specs.List.{AllByRecursion}
use Rattle.member_slots.specs.declared.member.TheConstants.{MOST_SLOTS, MOST_BYTES}
use Rattle.member_slots.specs.Member.{MemberState}
use Rattle.member_slots.specs.Members.{NumberedMembers}
use Rattle.record_fmt.specs.Layout.{IsLaidOut}
use Rattle.library_model.specs.Named.{Named, named}
use Rattle.lawful_states.specs.State.{FileState, fields_of}

abbrev pub AreFormats : Named FileState → Type 0
AreFormats files = (name : List ℕ) (file : FileState) → named name files ≡ Some file → IsLaidOut (fields_of file)

-- deleted slots are counted
pub record IsWithin (member : MemberState) : Type 0 where
  pub few : length member.slots ≤ MOST_SLOTS
  pub small : length member.slots * member.record_length ≤ MOST_BYTES

abbrev pub AreWithin : NumberedMembers → Type 0
AreWithin members = AllByRecursion (λ entry. IsWithin entry.item) members

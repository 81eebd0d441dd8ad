-- What slots that are given to a member one after the other make of a library, and when they may be given. (Journal Management, "Applying
-- journaled changes" and "Removing journaled changes".)
use Rattle.std.specs.Prelude.{◌≡◌, ℕ, ◌+◌, ◌*◌, ◌<◌, ◌≤◌, true, IsSome, Option, Some, None, List, [], ◌∷◌, length}
use Rattle.std.specs.List.{AllByRecursion}
use Rattle.file_model.specs.declared.paths.PathSpec.{PathSpec}
use Rattle.file_model.specs.Paths.{repeated_in}
use Rattle.member_slots.specs.declared.member.TheConstants.{MOST_SLOTS, MOST_BYTES}
use Rattle.member_slots.specs.declared.slot.Slot.{Slot}
use Rattle.member_slots.specs.Member.{MemberState, FitsSlot, is_live}
use Rattle.member_slots.specs.Members.{NumberedMembers, item_at, member_at, member_of, with_member}
use Rattle.journal_model.specs.Places.{put_slot}
use Rattle.path_set.specs.declared.moves.PathMove.{PathMove}
use Rattle.path_set.specs.EqualKeys.{repeated_of}
use Rattle.path_set.specs.KeptPaths.{KeptPath, NumberedPaths}
use Rattle.path_set.specs.ManyChanges.{moves_of_all}
use Rattle.path_set.specs.Sharing.{IsNew}
use Rattle.library_steps.specs.declared.limits.TheConstants.{MOST_LIBRARY_BYTES}
use Rattle.library_steps.specs.Ranges.{library_bytes}
use Rattle.library_steps.specs.State.{State, Memory}
use Rattle.library_steps.specs.UniqueKeys.{UniquePath, unique_paths}
use Rattle.range_images.specs.declared.slot_given.SlotGiven.{SlotGiven}
use Rattle.range_images.specs.Given.{given_slots, place_given, AreInPlace}
use Rattle.given_changes.specs.GivenChanges.{changes_given}
use Rattle.parts_model.specs.Moved.{HasMovesRoom}
use Rattle.parts_model.specs.Parts.{LibraryParts, Room}
use Rattle.parts_model.specs.Rooms.{spare_slots}
use Rattle.lawful_states.specs.Slots.{MayStand}

abbrev pub given_to : List SlotGiven → MemberState → MemberState
given_to given member = record member { slots = given_slots given member.slots }

abbrev pub members_given : ℕ → List SlotGiven → NumberedMembers → NumberedMembers
members_given number given members = with_member number (given_to given (member_of number members)) members

-- the memory once the member was given these slots
abbrev pub with_given : ℕ → List SlotGiven → Memory → Memory
with_given number given m = record m { members = members_given number given m.members }

-- what is given behind the last slot is a record
abbrev pub AddRecords : List SlotGiven → List Slot → Type 0
AddRecords [] slots = Unit {0}
AddRecords (g ∷ given) slots = (length slots < g.rrn → is_live g.slot ≡ true) × AddRecords given (put_slot slots (place_given g) g.slot)

-- a slot fits a member with records of this length
pub record FitsMember (record_length : ℕ) (g : SlotGiven) : Type 0 where
  pub fits : FitsSlot record_length g.slot
  pub few : g.rrn ≤ MOST_SLOTS
  pub small : g.rrn * record_length ≤ MOST_BYTES

-- a member may be given these slots, one after the other, the room for them aside
pub record CanTake (member : MemberState) (given : List SlotGiven) : Type 0 where
  pub places : AreInPlace 1 given member.slots
  pub records : AddRecords given member.slots
  pub each : AllByRecursion (FitsMember member.record_length) given

-- so may the member of a library
pub record MayGive (s : State) (number : ℕ) (given : List SlotGiven) : Type 0 where
  pub there : IsSome (member_at number s.members)
  pub takes : CanTake (member_of number s.members) given
  pub values : AllByRecursion (λ g. MayStand s number g.slot) given
  pub bytes : library_bytes (members_given number given s.members) ≤ MOST_LIBRARY_BYTES

-- there is room for the slots that are added
abbrev pub HasRoomFor : State → Room → ℕ → List SlotGiven → Type 0
HasRoomFor s room number given = length (given_slots given (member_of number s.members).slots) ≤ length (member_of number s.members).slots + spare_slots room number

-- the moves that they make in all paths, with memory for them and for taking them back, beside that for open commit cycles
pub record AreMovesOfAll (parts : LibraryParts) (number : ℕ) (given : List SlotGiven) (moves : List PathMove) : Type 0 where
  pub same : moves ≡ moves_of_all (changes_given number given (member_of number parts.state.members).slots) parts.room.paths.paths
  pub room : 1 ≤ length given → HasMovesRoom parts number (2 * length given)

-- ---- equal keys

-- the one unique path of a file, where it has one
abbrev pub unique_of : (file : List ℕ) → Option PathSpec → List UniquePath
unique_of file None = []
unique_of file (Some path) = record { file = file; path = path } ∷ []

-- the path is kept, and so are the entries by which equal keys in it are told
pub record IsTold (members : NumberedMembers) (paths : NumberedPaths) (unique : UniquePath) : Type 0 where
  pub number : ℕ
  pub kept : KeptPath
  pub at : item_at number paths ≡ Some kept
  pub same : kept.spec ≡ unique.path
  pub there : IsNew unique.path paths → ⊥
  pub told : (id : ℕ) (path : KeptPath) → item_at id paths ≡ Some path → path.spec ≡ unique.path → repeated_of path ≡ repeated_in unique.path members

-- each unique path over the member is
abbrev pub AreTold : (member : ℕ) → Memory → NumberedMembers → NumberedPaths → Type 0
AreTold member m members paths = AllByRecursion (IsTold members paths) (unique_paths member m)

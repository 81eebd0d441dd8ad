-- The moves of a changed slot in all paths, before it is made and after. (Our own.)
use Rattle.std.specs.Prelude.{◌≡◌, ℕ, ◌+◌, List}
use Rattle.member_slots.specs.declared.slot.Slot.{Slot}
use Rattle.path_set.specs.declared.moves.PathMove.{PathMove}
use Rattle.path_set.specs.RecordChanges.{moves_in, HaveRoom}
use Rattle.path_set.specs.MemberSteps.{slot_replaced, paths_over}
use Rattle.path_set.specs.RebuiltPaths.{AreRebuilt}
use Rattle.key_pages.specs.EntryList.{EntryList}
use Rattle.member_slots.specs.Member.{MemberState}
use Rattle.member_slots.specs.Members.{Numbered, member_of, with_member}
use Rattle.job_table.specs.Table.{changes_held}
use Rattle.library_steps.specs.Records.{slot_there}
use Rattle.library_steps.specs.State.{memory_of}
use Rattle.parts_model.specs.Parts.{LibraryParts}

-- the moves of another slot in the place of the one that stands there
abbrev pub AreMovesOf : LibraryParts → (member rrn : ℕ) → Slot → List PathMove → Type 0
AreMovesOf parts member rrn new moves = moves ≡ moves_in (slot_replaced member rrn (slot_there member rrn (memory_of parts.state)) new) parts.room.paths.paths

-- the paths have memory for the moves of the changes that open commit cycles hold, and of so many more
abbrev pub HasMovesRoom : LibraryParts → (member more : ℕ) → Type 0
HasMovesRoom parts member more = HaveRoom member (changes_held parts.state.jobs + more) parts.room.paths

-- the paths over the member as what is made of it gives them, with memory for the moves of the changes that open commit cycles hold
abbrev pub AreRemade : LibraryParts → (member : ℕ) → (MemberState → MemberState) → List (Numbered EntryList) → Type 0
AreRemade parts member made rebuilt =
    AreRebuilt (with_member member (made (member_of member parts.state.members)) parts.state.members) (changes_held parts.state.jobs) (paths_over member parts.room.paths.paths) rebuilt

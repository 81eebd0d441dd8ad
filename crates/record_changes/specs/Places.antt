-- Which slots may be put at which places, and what is ready before one is put. (Our own.)
use Rattle.std.specs.Prelude.{◌≡◌, ℕ, ◌+◌, ◌-◌, ◌<◌, ◌≤◌, Bool, true, false, Option, None, Some, IsSome, is_some, Ok, List, length}
use Rattle.member_slots.specs.declared.slot.Slot.{Slot}
use Rattle.member_slots.specs.Member.{FitsSlot, is_full, is_live}
use Rattle.member_slots.specs.Members.{NumberedMembers, member_at, member_of}
use Rattle.lawful_states.specs.Owners.{Owns}
use Rattle.path_set.specs.declared.moves.PathMove.{PathMove}
use Rattle.library_parts.specs.Changes.{KeptUndo}
use Rattle.library_model.specs.Named.{Named}
use Rattle.library_steps.specs.declared.limits.TheConstants.{LAST_SEQUENCE, MOST_LIBRARY_BYTES}
use Rattle.library_steps.specs.State.{Memory, State, FileState, JobState, fields_of, job_of, memory_of}
use Rattle.library_steps.specs.Records.{slot_there}
use Rattle.library_steps.specs.Ranges.{library_bytes}
use Rattle.library_steps.specs.SlotChange.{NewSlot, cycle_for, images_of, change_made, few_changes}
use Rattle.library_steps.specs.WriteRecord.{next_place}
use Rattle.lawful_states.specs.Lawful.{HoldsValues}
use Rattle.library_parts.specs.Moved.{AreMovesOf, HasMovesRoom}
use Rattle.library_parts.specs.Parts.{LibraryParts}
use Rattle.library_parts.specs.Rooms.{HasSlotRoom, HasUndoRoom}
use Rattle.lawful_states.specs.Slots.{MayStand}
use Rattle.record_changes.specs.declared.planned.PlannedSlot.{PlannedSlot}
use Rattle.record_changes.specs.declared.planned.Prepared.{Prepared}
use Rattle.record_changes.specs.declared.planned.UndoSlots.{UndoSlots}
use Rattle.record_changes.specs.Plans.{new_slot}

-- the slot may stand in the member, which is there: it is as long as its records, with a value in each field of the file that has it
pub record FitsMember (s : State) (member : ℕ) (slot : Slot) : Type 0 where
  pub there : IsSome (member_at member s.members)
  pub fits : FitsSlot (member_of member s.members).record_length slot
  pub values : MayStand s member slot

-- the slot adds a record, for which the member and the library have room
pub record MayAdd (members : NumberedMembers) (member : ℕ) (slot : Slot) : Type 0 where
  pub live : is_live slot ≡ true
  pub open_ended : is_full (member_of member members) ≡ false
  pub few : library_bytes members + (member_of member members).record_length ≤ MOST_LIBRARY_BYTES

-- the slot may stand at the place, which the member has, or which is the one behind its last
pub record MayPut (files : Named FileState) (members : NumberedMembers) (member rrn : ℕ) (slot : Slot) : Type 0 where
  pub there : IsSome (member_at member members)
  pub first : 1 ≤ rrn
  pub near : rrn ≤ length (member_of member members).slots + 1
  pub fits : FitsSlot (member_of member members).record_length slot
  pub values : (name : List ℕ) (file : FileState) → Owns files name file member → HoldsValues (fields_of file) slot
  pub added : rrn ≡ length (member_of member members).slots + 1 → MayAdd members member slot

abbrev pub MayChange : State → PlannedSlot → Type 0
MayChange s planned = MayPut s.files s.members planned.opened.member planned.rrn planned.slot

-- the slot may be put back at the place, which the member has
pub record MayReturn (s : State) (member rrn : ℕ) (slot : Slot) : Type 0 where
  pub there : is_some (member_at member s.members) ≡ true
  pub place : rrn - 1 < length (member_of member s.members).slots
  pub fits : FitsSlot (member_of member s.members).record_length slot
  pub values : MayStand s member slot

-- the change isn't too much for the open commit cycles
abbrev pub AreFewChanges : PlannedSlot → Memory → Type 0
AreFewChanges planned m = few_changes planned.opened.commit (slot_there planned.opened.member planned.rrn m) planned.slot m ≡ Ok true

-- the slots of the change as the job's commit cycle keeps it, where it belongs to one
abbrev pub undo_slots : (commit : Bool) → Memory → JobState → NewSlot → Option UndoSlots
undo_slots false m job new = None
undo_slots true m job new = Some (record {
  cycle = (cycle_for m job).sequence;
  before = slot_there new.opened.member new.rrn m;
  again = slot_there new.opened.member new.rrn m;
  after = new.slot;
})

-- the change itself, with the moves that take it back
abbrev pub undo_of : (commit : Bool) → Memory → JobState → NewSlot → (back : List PathMove) → Option KeptUndo
undo_of false m job new back = None
undo_of true m job new back = Some (record { change = change_made m job new; moves = back })

abbrev pub HasUndoRoomIf : (commit : Bool) → ℕ → LibraryParts → Type 0
HasUndoRoomIf false job parts = Unit {0}
HasUndoRoomIf true job parts = HasUndoRoom job parts

-- where the place is behind the last, the member has room for it
abbrev pub HasPlaceRoom : LibraryParts → (member rrn : ℕ) → Type 0
HasPlaceRoom parts member rrn = rrn ≡ next_place member (memory_of parts.state) → HasSlotRoom parts.room member

-- there is room for the entries of a change: for two where the member is journaled; under commitment for the start of the cycle besides, and for
-- three that would take the change back and end the cycle
abbrev pub HasEntryRoom : LibraryParts → (commit : Bool) → (member : ℕ) → Type 0
HasEntryRoom parts false member = IsSome (images_of member (memory_of parts.state)) → 2 ≤ parts.room.entries
HasEntryRoom parts true member = 6 ≤ parts.room.entries

-- the planned slot may be put, and all memory that it wants is taken
pub record IsReady (parts : LibraryParts) (job : ℕ) (planned : PlannedSlot) (prepared : Prepared) : Type 0 where
  pub left : (memory_of parts.state).last_entry ≤ LAST_SEQUENCE
  pub few : AreFewChanges planned (memory_of parts.state)
  pub may : MayChange parts.state planned
  pub place : HasPlaceRoom parts planned.opened.member planned.rrn
  pub entries : HasEntryRoom parts planned.opened.commit planned.opened.member
  pub again : IsSome (images_of planned.opened.member (memory_of parts.state)) → prepared.again ≡ planned.slot
  pub undo : prepared.undo ≡ undo_slots planned.opened.commit (memory_of parts.state) (job_of job (memory_of parts.state)) (new_slot planned)
  pub undo_room : HasUndoRoomIf planned.opened.commit job parts
  pub moves : AreMovesOf parts planned.opened.member planned.rrn planned.slot prepared.moves
  pub moves_room : HasMovesRoom parts planned.opened.member 2

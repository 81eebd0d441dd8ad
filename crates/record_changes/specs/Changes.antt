-- What a changed slot makes of a library: its memory, and the entries behind those that were there. (Our own.)
use Rattle.std.specs.Prelude.{◌≡◌, ℕ, ◌+◌, ◌≤◌, Bool, true, false, Option, None, Some, List, [], ◌∷◌, ◌++◌, length}
use Rattle.entry_codec.specs.declared.entries.Draft.{Draft}
use Rattle.entry_codec.specs.declared.kinds.EntryKind.TheVariants.{CommitCycleStarted}
use Rattle.library_steps.specs.declared.limits.TheConstants.{MOST_GROUP_CHANGES, MOST_GROUP_BYTES}
use Rattle.library_steps.specs.State.{Memory, State, memory_of, job_of, with_job}
use Rattle.member_slots.specs.declared.slot.Slot.{Slot}
use Rattle.path_set.specs.declared.moves.PathMove.{PathMove}
use Rattle.library_parts.specs.Changes.{KeptUndo, change_of}
use Rattle.library_steps.specs.Change.{deposited}
use Rattle.library_steps.specs.Drafts.{Author, author_of, cycle_draft, slot_drafts}
use Rattle.library_steps.specs.SlotChange.{NewSlot, images_of, drafts_of, slot_changed, cycle_for, noted, with_cycle, open_changes, open_bytes, change_bytes}
use Rattle.library_parts.specs.Indexed.{moves_back}
use Rattle.lawful_states.specs.Lawful.{GoesBack}
use Rattle.library_parts.specs.Moved.{HasMovesRoom}
use Rattle.library_parts.specs.Parts.{LibraryParts}
use Rattle.library_parts.specs.Rooms.{HasUndoRoom}
use Rattle.record_changes.specs.declared.entries.ChangeEntries.{ChangeEntries}
use Rattle.record_changes.specs.declared.planned.UndoSlots.{UndoSlots}

-- the drafts of a job's change at a time
abbrev pub drafts_in : ℕ → (timestamp : ℕ) → NewSlot → Memory → List Draft
drafts_in job timestamp new m = drafts_of (author_of m job timestamp) (job_of job m) new (images_of new.opened.member m) m

-- the slot was changed as the definition says, and the drafts of the change deposited
pub record HasChanged (job timestamp : ℕ) (new : NewSlot) (before after : State) : Type 0 where
  pub memory : memory_of after ≡ record (slot_changed job new (memory_of before)) {
    last_entry = (memory_of before).last_entry + length (drafts_in job timestamp new (memory_of before));
  }
  pub entries : after.entries ≡ before.entries ++ deposited (memory_of before) (drafts_in job timestamp new (memory_of before))

-- the drafts of a slot that became another
abbrev pub drafts_by : ChangeEntries → (old new : Slot) → List Draft
drafts_by e old new = slot_drafts e.author e.cycle e.both e.behind_last e.member e.rrn old new

-- the draft of a cycle's start, where the change begins one
abbrev pub started : Author → Option ℕ → List Draft
started author None = []
started author (Some cycle) = cycle_draft author cycle CommitCycleStarted ∷ []

-- the change of these slots, as it is kept with the moves that take it back
abbrev pub kept_by : (member rrn : ℕ) → (back : List PathMove) → UndoSlots → KeptUndo
kept_by member rrn back slots = record { change = change_of member rrn slots.cycle slots.before slots.after; moves = back }

-- the memory with a change in the job's commit cycle, which begins with the next entry where none is open
abbrev pub with_kept : ℕ → Option KeptUndo → Memory → Memory
with_kept job None m = m
with_kept job (Some undo) m = with_job job (with_cycle (noted undo.change (cycle_for m (job_of job m)))) m

-- for how many entries there has to be room where a change is kept, and for how many it leaves room then where there was room for all that it may want
abbrev pub entries_kept : Option KeptUndo → ℕ
entries_kept None = 0
entries_kept (Some undo) = 3

abbrev pub entries_left : (commit : Bool) → ℕ
entries_left false = 2
entries_left true = 3

-- the change may be kept in the job's commit cycle
pub record MayKeep (job : ℕ) (parts : LibraryParts) (undo : KeptUndo) : Type 0 where
  pub room : HasUndoRoom job parts
  pub entries : 3 ≤ parts.room.entries
  pub goes_back : GoesBack parts.state.files parts.state.members (cycle_for (memory_of parts.state) (job_of job (memory_of parts.state))).sequence undo.change
  pub moves : undo.moves ≡ moves_back parts.room.paths.paths undo.change
  pub moves_room : HasMovesRoom parts undo.change.member 1
  pub few_changes : open_changes (memory_of parts.state) + 1 ≤ MOST_GROUP_CHANGES
  pub few_bytes : open_bytes (memory_of parts.state) + change_bytes undo.change ≤ MOST_GROUP_BYTES

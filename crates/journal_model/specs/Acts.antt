-- What does an entry of the journal do to one member?
-- (Journal Management, "Journal code finder", and "Before-images and after-images".)
use Rattle.std.specs.Prelude.{ℕ, ◌-◌, List, [], ◌∷◌, Option, Some, None, Bool, true, false, ◌&&◌, ◌==◌, if◌then◌else◌}
use Rattle.std.specs.List.{filter_map}
use Rattle.entry_codec.specs.declared.entries.Entry.{Entry}
use Rattle.entry_codec.specs.declared.kinds.Images.{Images}
use Rattle.entry_codec.specs.declared.kinds.EntryKind.{EntryKind}
use Rattle.entry_codec.specs.declared.kinds.EntryKind.TheVariants.{FileCreated, FileDeleted, MemberAdded, JournalingStarted, InitialSlot, JournalingEnded, MemberCleared, MemberReorganized, ChangesApplied, ChangesRemoved, RecordAdded, RecordAddedAtNumber, BeforeImage, AfterImage, RecordDeleted, UndoBeforeImage, UndoAfterImage, UndoDelete, CommitmentStarted, CommitCycleStarted, CommitCycleCommitted, CommitCycleRolledBack, CommitmentEnded, AbnormalEnd, NextReceiver, PreviousReceiver}
use Rattle.member_slots.specs.declared.slot.Slot.{Slot}
use Rattle.member_slots.specs.declared.slot.Slot.TheVariants.{Live, Deleted}

-- a slot change: the record's place, counted from 0, the commit cycle that made it, and the slot before and after
pub record Change : Type 0 where
  pub place : ℕ
  pub cycle : Option ℕ
  -- Deleted for a slot that isn't live, None where the journal doesn't tell
  pub before : Option Slot
  pub after : Slot

-- what an entry does, as far as one member is concerned
pub data Act : Type 0 where
  Changed : Change → Act
  -- the commit cycle of this number began, was committed, was rolled back
  Began : ℕ → Act
  Committed : ℕ → Act
  RolledBack : ℕ → Act
  -- journaling of the member began, which then had so many slots
  Journaled : Images → ℕ → Act
  -- a record that stood at this place when journaling began
  Stood : ℕ → List ℕ → Act
  Cleared : Act
  Reorganized : Act
  -- journaling of the member ended
  Ended : Act
  Nothing : Act

-- ---- the entry, and the entry before it

abbrev pub is_number : Option ℕ → ℕ → Bool
is_number None n = false
is_number (Some m) n = m == n

abbrev pub is_same_number : Option ℕ → Option ℕ → Bool
is_same_number None None = true
is_same_number None (Some n) = false
is_same_number (Some m) other = is_number other m

-- two entries speak of one record
abbrev pub is_same_record : Entry → Entry → Bool
is_same_record a b = is_same_number a.member b.member && is_same_number a.rrn b.rrn

-- the slot that an entry before an update shows
abbrev pub updated_from : EntryKind → Option Slot
updated_from (BeforeImage image) = Some (Live image)
updated_from _ = None

-- the slot that an entry before an undo shows
abbrev pub undone_from : EntryKind → Option Slot
undone_from (UndoBeforeImage image) = Some (Live image)
undone_from _ = None

-- the slot that the entry before holds for this entry
abbrev pub held_before : (EntryKind → Option Slot) → Option Entry → Entry → Option Slot
held_before shown None e = None
held_before shown (Some prior) e = if is_same_record prior e then shown prior.kind else None

abbrev pub deleted_from : Option (List ℕ) → Option Slot
deleted_from None = None
deleted_from (Some image) = Some (Live image)

-- ---- reading

-- relative record numbers count from 1, places from 0
abbrev pub place_of : Option ℕ → ℕ
place_of None = 0
place_of (Some rrn) = rrn - 1

abbrev pub cycle_of : Option ℕ → ℕ
cycle_of None = 0
cycle_of (Some n) = n

abbrev pub changes_slot : Entry → Option Slot → Slot → Act
changes_slot e before after = Changed (record { place = place_of e.rrn; cycle = e.group; before = before; after = after })

-- what an entry of this kind does to the member that it names
abbrev pub act_there : EntryKind → Option Entry → Entry → Act
act_there (RecordAdded image) prior e = changes_slot e (Some Deleted) (Live image)
act_there (RecordAddedAtNumber image) prior e = changes_slot e (Some Deleted) (Live image)
act_there (AfterImage true image) prior e = changes_slot e (held_before updated_from prior e) (Live image)
act_there (AfterImage false image) prior e = changes_slot e None (Live image)
act_there (UndoAfterImage true image) prior e = changes_slot e (held_before undone_from prior e) (Live image)
act_there (UndoAfterImage false image) prior e = changes_slot e (Some Deleted) (Live image)
act_there (RecordDeleted before) prior e = changes_slot e (deleted_from before) Deleted
act_there (UndoDelete image) prior e = changes_slot e (Some (Live image)) Deleted
act_there (JournalingStarted images slots) prior e = Journaled images slots
act_there (InitialSlot image) prior e = Stood (place_of e.rrn) image
act_there JournalingEnded prior e = Ended
act_there MemberCleared prior e = Cleared
act_there MemberReorganized prior e = Reorganized
act_there (FileCreated kind name source) prior e = Nothing
act_there (FileDeleted name) prior e = Nothing
act_there (MemberAdded file name) prior e = Nothing
act_there (ChangesApplied first last changes) prior e = Nothing
act_there (ChangesRemoved first last changes) prior e = Nothing
act_there (BeforeImage image) prior e = Nothing
act_there (UndoBeforeImage image) prior e = Nothing
act_there (CommitmentStarted level) prior e = Nothing
act_there CommitCycleStarted prior e = Began (cycle_of e.group)
act_there CommitCycleCommitted prior e = Committed (cycle_of e.group)
act_there CommitCycleRolledBack prior e = RolledBack (cycle_of e.group)
act_there CommitmentEnded prior e = Nothing
act_there AbnormalEnd prior e = Nothing
act_there (NextReceiver number) prior e = Nothing
act_there (PreviousReceiver number) prior e = Nothing

-- what an entry that doesn't name the member does to it: commit cycles are of no member
abbrev pub act_elsewhere : EntryKind → Entry → Act
act_elsewhere CommitCycleStarted e = Began (cycle_of e.group)
act_elsewhere CommitCycleCommitted e = Committed (cycle_of e.group)
act_elsewhere CommitCycleRolledBack e = RolledBack (cycle_of e.group)
act_elsewhere (RecordAdded image) e = Nothing
act_elsewhere (RecordAddedAtNumber image) e = Nothing
act_elsewhere (BeforeImage image) e = Nothing
act_elsewhere (AfterImage has_before image) e = Nothing
act_elsewhere (RecordDeleted before) e = Nothing
act_elsewhere (UndoBeforeImage image) e = Nothing
act_elsewhere (UndoAfterImage has_before image) e = Nothing
act_elsewhere (UndoDelete image) e = Nothing
act_elsewhere (JournalingStarted images slots) e = Nothing
act_elsewhere (InitialSlot image) e = Nothing
act_elsewhere JournalingEnded e = Nothing
act_elsewhere MemberCleared e = Nothing
act_elsewhere MemberReorganized e = Nothing
act_elsewhere (ChangesApplied first last changes) e = Nothing
act_elsewhere (ChangesRemoved first last changes) e = Nothing
act_elsewhere (FileCreated kind name source) e = Nothing
act_elsewhere (FileDeleted name) e = Nothing
act_elsewhere (MemberAdded file name) e = Nothing
act_elsewhere (CommitmentStarted level) e = Nothing
act_elsewhere CommitmentEnded e = Nothing
act_elsewhere AbnormalEnd e = Nothing
act_elsewhere (NextReceiver number) e = Nothing
act_elsewhere (PreviousReceiver number) e = Nothing

-- what the entry does to the member of this number, behind the entry prior
abbrev pub act : ℕ → Option Entry → Entry → Act
act member prior e = if is_number e.member member then act_there e.kind prior e else act_elsewhere e.kind e

-- one act for each entry
abbrev pub acts : ℕ → Option Entry → List Entry → List Act
acts member prior [] = []
acts member prior (e ∷ entries) = act member prior e ∷ acts member (Some e) entries

-- the entry before those that follow these
abbrev pub entry_before : Option Entry → List Entry → Option Entry
entry_before prior [] = prior
entry_before prior (e ∷ entries) = entry_before (Some e) entries

-- ---- the slot changes among acts

abbrev pub change_of : Act → Option Change
change_of (Changed c) = Some c
change_of (Began n) = None
change_of (Committed n) = None
change_of (RolledBack n) = None
change_of (Journaled images slots) = None
change_of (Stood place image) = None
change_of Cleared = None
change_of Reorganized = None
change_of Ended = None
change_of Nothing = None

abbrev pub changes : List Act → List Change
changes all = filter_map change_of all

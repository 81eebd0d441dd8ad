-- What does an entry change in a slot of its member: how was the slot before, and how is it after?
-- (Journal Management, "Apply journaled changes" and "Remove journaled changes".)
use Rattle.std.specs.Prelude.{ℕ, List, Option, Some, None, Bool, true, false, ◌&&◌, ◌==◌, if◌then◌else◌}
use Rattle.entry_codec.specs.declared.entries.Entry.{Entry}
use Rattle.entry_codec.specs.declared.kinds.EntryKind.{EntryKind}
use Rattle.entry_codec.specs.declared.kinds.EntryKind.TheVariants.{FileCreated, FileDeleted, MemberAdded, JournalingStarted, InitialSlot, JournalingEnded, MemberCleared, MemberReorganized, ChangesApplied, ChangesRemoved, RecordAdded, RecordAddedAtNumber, BeforeImage, AfterImage, RecordDeleted, UndoBeforeImage, UndoAfterImage, UndoDelete, CommitmentStarted, CommitCycleStarted, CommitCycleCommitted, CommitCycleRolledBack, CommitmentEnded, AbnormalEnd, NextReceiver, PreviousReceiver}

-- what an entry says of the slot on one side of its change
pub data Side : Type 0 where
  -- a deleted slot, or the place past the last slot
  NotLive : Side
  LiveWith : List ℕ → Side
  Deleted : Side
  -- the journal doesn't tell how the record was
  Lacking : Side

-- how the slot is before the change and after it
pub record SlotChange : Type 0 where
  pub before : Side
  pub after : Side

abbrev pub is_same : Option ℕ → Option ℕ → Bool
is_same None None = true
is_same None (Some n) = false
is_same (Some m) None = false
is_same (Some m) (Some n) = m == n

-- two entries speak of one record
abbrev pub is_same_record : Entry → Entry → Bool
is_same_record a b = is_same a.member b.member && is_same a.rrn b.rrn

-- the before image of an update
abbrev pub updated_from : EntryKind → Side
updated_from (BeforeImage image) = LiveWith image
updated_from _ = Lacking

-- the before image of an undo
abbrev pub undone_from : EntryKind → Side
undone_from (UndoBeforeImage image) = LiveWith image
undone_from _ = Lacking

-- the before image that the entry before an entry holds for it
abbrev pub held_before : (EntryKind → Side) → Option Entry → Entry → Side
held_before image None e = Lacking
held_before image (Some prior) e = if is_same_record prior e then image prior.kind else Lacking

abbrev pub live_before : Option (List ℕ) → Side
live_before None = Lacking
live_before (Some image) = LiveWith image

abbrev pub changes_to : Side → Side → Option SlotChange
changes_to before after = Some (record { before = before; after = after })

-- the change that an entry of this kind makes, behind the entry prior
abbrev pub change_by : EntryKind → Option Entry → Entry → Option SlotChange
change_by (RecordAdded image) prior e = changes_to NotLive (LiveWith image)
change_by (RecordAddedAtNumber image) prior e = changes_to NotLive (LiveWith image)
change_by (AfterImage true image) prior e = changes_to (held_before updated_from prior e) (LiveWith image)
change_by (AfterImage false image) prior e = changes_to Lacking (LiveWith image)
change_by (UndoAfterImage true image) prior e = changes_to (held_before undone_from prior e) (LiveWith image)
change_by (UndoAfterImage false image) prior e = changes_to NotLive (LiveWith image)
change_by (RecordDeleted before) prior e = changes_to (live_before before) Deleted
change_by (UndoDelete image) prior e = changes_to (LiveWith image) Deleted
change_by (FileCreated kind name source) prior e = None
change_by (FileDeleted name) prior e = None
change_by (MemberAdded file name) prior e = None
change_by (JournalingStarted images slots) prior e = None
change_by (InitialSlot image) prior e = None
change_by JournalingEnded prior e = None
change_by MemberCleared prior e = None
change_by MemberReorganized prior e = None
change_by (ChangesApplied first last changes) prior e = None
change_by (ChangesRemoved first last changes) prior e = None
change_by (BeforeImage image) prior e = None
change_by (UndoBeforeImage image) prior e = None
change_by (CommitmentStarted level) prior e = None
change_by CommitCycleStarted prior e = None
change_by CommitCycleCommitted prior e = None
change_by CommitCycleRolledBack prior e = None
change_by CommitmentEnded prior e = None
change_by AbnormalEnd prior e = None
change_by (NextReceiver number) prior e = None
change_by (PreviousReceiver number) prior e = None

-- the change that an entry makes behind the entry prior; None where it makes none
abbrev pub slot_change : Option Entry → Entry → Option SlotChange
slot_change prior e = change_by e.kind prior e

-- How many bytes entries of the journal have: 49 that each has, and its body. (Journal Management, "Fixed-length portion of the journal entry". The
-- bytes are our own.)
use Rattle.std.specs.Prelude.{ℕ, ◌+◌, Some, None, List, length}
use Rattle.std.specs.List.{sum_by}
use Rattle.journal_model.below.entry_codec.specs.declared.entries.Entry.{Entry}
use Rattle.journal_model.below.entry_codec.specs.declared.kinds.EntryKind.{EntryKind}
use Rattle.journal_model.below.entry_codec.specs.declared.kinds.EntryKind.TheVariants.{FileCreated, FileDeleted, MemberAdded, JournalingStarted, InitialSlot, JournalingEnded, MemberCleared, MemberReorganized, ChangesApplied, ChangesRemoved, RecordAdded, RecordAddedAtNumber, BeforeImage, AfterImage, RecordDeleted, UndoBeforeImage, UndoAfterImage, UndoDelete, CommitmentStarted, CommitCycleStarted, CommitCycleCommitted, CommitCycleRolledBack, CommitmentEnded, AbnormalEnd, NextReceiver, PreviousReceiver}

-- names have 10 bytes there, a flag has one, and an image those of its record
abbrev pub body_size : EntryKind → ℕ
body_size (FileCreated kind name source) = 15 + length source
body_size (FileDeleted name) = 10
body_size (MemberAdded file name) = 20
body_size (JournalingStarted images slots) = 5
body_size (InitialSlot image) = 1 + length image
body_size JournalingEnded = 0
body_size MemberCleared = 0
body_size MemberReorganized = 0
body_size (ChangesApplied first last changes) = 20
body_size (ChangesRemoved first last changes) = 20
body_size (RecordAdded image) = 1 + length image
body_size (RecordAddedAtNumber image) = 1 + length image
body_size (BeforeImage image) = 1 + length image
body_size (AfterImage has_before image) = 1 + length image
body_size (RecordDeleted None) = 1
body_size (RecordDeleted (Some image)) = 1 + length image
body_size (UndoBeforeImage image) = 1 + length image
body_size (UndoAfterImage has_before image) = 1 + length image
body_size (UndoDelete image) = 1 + length image
body_size (CommitmentStarted level) = 1
body_size CommitCycleStarted = 0
body_size CommitCycleCommitted = 0
body_size CommitCycleRolledBack = 0
body_size CommitmentEnded = 0
body_size AbnormalEnd = 0
body_size (NextReceiver number) = 4
body_size (PreviousReceiver number) = 4

abbrev pub entry_size : Entry → ℕ
entry_size e = 49 + body_size e.kind

abbrev pub entry_bytes : List Entry → ℕ
entry_bytes entries = sum_by entry_size entries

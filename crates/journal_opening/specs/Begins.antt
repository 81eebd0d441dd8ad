-- Does an entry begin journaling with more slots than a member may have? (Our own.)
use Rattle.std.specs.Prelude.{nat_lt, Bool, false}
use Rattle.entry_codec.specs.declared.kinds.EntryKind.{EntryKind}
use Rattle.entry_codec.specs.declared.kinds.EntryKind.TheVariants.{FileCreated, FileDeleted, MemberAdded, JournalingStarted, InitialSlot, JournalingEnded, MemberCleared, MemberReorganized, ChangesApplied, ChangesRemoved, RecordAdded, RecordAddedAtNumber, BeforeImage, AfterImage, RecordDeleted, UndoBeforeImage, UndoAfterImage, UndoDelete, CommitmentStarted, CommitCycleStarted, CommitCycleCommitted, CommitCycleRolledBack, CommitmentEnded, AbnormalEnd, NextReceiver, PreviousReceiver}

abbrev pub begins_too_many : EntryKind → Bool
begins_too_many (FileCreated kind name source) = false
begins_too_many (FileDeleted name) = false
begins_too_many (MemberAdded file name) = false
begins_too_many (JournalingStarted images slots) = nat_lt 1000000 slots
begins_too_many (InitialSlot image) = false
begins_too_many JournalingEnded = false
begins_too_many MemberCleared = false
begins_too_many MemberReorganized = false
begins_too_many (ChangesApplied first last changes) = false
begins_too_many (ChangesRemoved first last changes) = false
begins_too_many (RecordAdded image) = false
begins_too_many (RecordAddedAtNumber image) = false
begins_too_many (BeforeImage image) = false
begins_too_many (AfterImage has_before image) = false
begins_too_many (RecordDeleted before) = false
begins_too_many (UndoBeforeImage image) = false
begins_too_many (UndoAfterImage has_before image) = false
begins_too_many (UndoDelete image) = false
begins_too_many (CommitmentStarted level) = false
begins_too_many CommitCycleStarted = false
begins_too_many CommitCycleCommitted = false
begins_too_many CommitCycleRolledBack = false
begins_too_many CommitmentEnded = false
begins_too_many AbnormalEnd = false
begins_too_many (NextReceiver number) = false
begins_too_many (PreviousReceiver number) = false

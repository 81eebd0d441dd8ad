-- By which letters is a kind of entry known, and what does an entry of it name: a member, a record, a
-- commit cycle? (Journal Management, "Journal code finder" and the fixed-length portion of an entry.)
use Rattle.std.specs.Prelude.{ℕ, List, Option, Some, None, Bool, true, false, ◌&&◌, ◌==◌, nat_lt, codes}
use Rattle.entry_codec.specs.declared.entries.Entry.{Entry}
use Rattle.entry_codec.specs.declared.kinds.FileKind.{FileKind}
use Rattle.entry_codec.specs.declared.kinds.FileKind.TheVariants.{Physical, Logical}
use Rattle.entry_codec.specs.declared.kinds.EntryKind.{EntryKind}
use Rattle.entry_codec.specs.declared.kinds.EntryKind.TheVariants.{FileCreated, FileDeleted, MemberAdded, JournalingStarted, InitialSlot, JournalingEnded, MemberCleared, MemberReorganized, ChangesApplied, ChangesRemoved, RecordAdded, RecordAddedAtNumber, BeforeImage, AfterImage, RecordDeleted, UndoBeforeImage, UndoAfterImage, UndoDelete, CommitmentStarted, CommitCycleStarted, CommitCycleCommitted, CommitCycleRolledBack, CommitmentEnded, AbnormalEnd, NextReceiver, PreviousReceiver}
use Rattle.entry_codec.specs.declared.places.Place.{Place}
use Rattle.entry_codec.specs.declared.places.Place.TheVariants.{Library, Member, Slot, Record, Commitment, CycleStart, CycleEnd}

-- the code, one letter, and the type, two
abbrev pub letters : EntryKind → List ℕ
letters (FileCreated kind name source) = codes "DCT"
letters (FileDeleted name) = codes "DDT"
letters (MemberAdded file name) = codes "DAM"
letters (JournalingStarted images slots) = codes "FJM"
letters (InitialSlot image) = codes "FIS"
letters JournalingEnded = codes "FEJ"
letters MemberCleared = codes "FCR"
letters MemberReorganized = codes "FRG"
letters (ChangesApplied first last changes) = codes "FAY"
letters (ChangesRemoved first last changes) = codes "FRC"
letters (RecordAdded image) = codes "RPT"
letters (RecordAddedAtNumber image) = codes "RPX"
letters (BeforeImage image) = codes "RUB"
letters (AfterImage has_before image) = codes "RUP"
letters (RecordDeleted before) = codes "RDL"
letters (UndoBeforeImage image) = codes "RBR"
letters (UndoAfterImage has_before image) = codes "RUR"
letters (UndoDelete image) = codes "RDR"
letters (CommitmentStarted level) = codes "CBC"
letters CommitCycleStarted = codes "CSC"
letters CommitCycleCommitted = codes "CCM"
letters CommitCycleRolledBack = codes "CRB"
letters CommitmentEnded = codes "CEC"
letters AbnormalEnd = codes "JIA"
letters (NextReceiver number) = codes "JNR"
letters (PreviousReceiver number) = codes "JPR"

-- a physical file is created with its first member, which the entry names
abbrev pub place_of_file : FileKind → Place
place_of_file Physical = Member
place_of_file Logical = Library

abbrev pub place : EntryKind → Place
place (FileCreated kind name source) = place_of_file kind
place (FileDeleted name) = Library
place (MemberAdded file name) = Member
place (JournalingStarted images slots) = Member
place (InitialSlot image) = Slot
place JournalingEnded = Member
place MemberCleared = Member
place MemberReorganized = Member
place (ChangesApplied first last changes) = Member
place (ChangesRemoved first last changes) = Member
place (RecordAdded image) = Record
place (RecordAddedAtNumber image) = Record
place (BeforeImage image) = Record
place (AfterImage has_before image) = Record
place (RecordDeleted before) = Record
place (UndoBeforeImage image) = Record
place (UndoAfterImage has_before image) = Record
place (UndoDelete image) = Record
place (CommitmentStarted level) = Commitment
place CommitCycleStarted = CycleStart
place CommitCycleCommitted = CycleEnd
place CommitCycleRolledBack = CycleEnd
place CommitmentEnded = Commitment
place AbnormalEnd = Library
place (NextReceiver number) = Library
place (PreviousReceiver number) = Library

-- there is no number
abbrev pub is_absent : Option ℕ → Bool
is_absent None = true
is_absent (Some n) = false

-- there is a number, counted from 1
abbrev pub is_present : Option ℕ → Bool
is_present None = false
is_present (Some n) = nat_lt 0 n

-- a number that is there is counted from 1
abbrev pub is_counted : Option ℕ → Bool
is_counted None = true
is_counted (Some n) = nat_lt 0 n

-- the commit cycle that begins here has this sequence for its name
abbrev pub is_own : ℕ → Option ℕ → Bool
is_own sequence None = false
is_own sequence (Some n) = nat_lt 0 n && (n == sequence)

-- the entry names a group, a member and a record as its place wants
abbrev pub is_placed_at : Place → (sequence : ℕ) (group member rrn : Option ℕ) → Bool
is_placed_at Library sequence group member rrn = is_absent group && is_absent member && is_absent rrn
is_placed_at Member sequence group member rrn = is_absent group && is_present member && is_absent rrn
is_placed_at Slot sequence group member rrn = is_absent group && is_present member && is_present rrn
is_placed_at Record sequence group member rrn = is_counted group && is_present member && is_present rrn
is_placed_at Commitment sequence group member rrn = is_counted group && is_absent member && is_absent rrn
is_placed_at CycleStart sequence group member rrn = is_own sequence group && is_absent member && is_absent rrn
is_placed_at CycleEnd sequence group member rrn = is_present group && is_absent member && is_absent rrn

abbrev pub is_placed : Entry → Bool
is_placed e = is_placed_at (place e.kind) e.sequence e.group e.member e.rrn

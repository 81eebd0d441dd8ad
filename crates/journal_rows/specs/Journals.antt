-- The journals of the worked rows: one member, with the number 1, of records of a name.
use Rattle.std.specs.Prelude.{ℕ, ◌+◌, true, false, List, [], ◌∷◌, ◌++◌, Option, Some, None, take, codes}
use Rattle.entry_codec.specs.declared.entries.Entry.{Entry}
use Rattle.entry_codec.specs.declared.kinds.FileKind.TheVariants.{Physical}
use Rattle.entry_codec.specs.declared.kinds.Images.TheVariants.{After, Both}
use Rattle.entry_codec.specs.declared.kinds.EntryKind.{EntryKind}
use Rattle.entry_codec.specs.declared.kinds.EntryKind.TheVariants.{FileCreated, JournalingStarted, InitialSlot, JournalingEnded, MemberCleared, MemberReorganized, ChangesRemoved, RecordAdded, RecordAddedAtNumber, BeforeImage, AfterImage, RecordDeleted, UndoBeforeImage, UndoAfterImage, UndoDelete, CommitmentStarted, CommitCycleStarted, CommitCycleCommitted, CommitCycleRolledBack}
use Rattle.commit_level.specs.declared.Level.TheVariants.{Chg}
use Rattle.journal_model.specs.Acts.{Act, acts}

-- ---- entries

abbrev pub entry : ℕ → (cycle member rrn : Option ℕ) → EntryKind → Entry
entry sequence cycle member rrn kind = record { sequence = sequence; job = None; moment = sequence; group = cycle; member = member; rrn = rrn; kind = kind }

abbrev pub of_member : ℕ → EntryKind → Entry
of_member sequence kind = entry sequence None (Some 1) None kind

abbrev pub of_record : ℕ → Option ℕ → ℕ → EntryKind → Entry
of_record sequence cycle rrn kind = entry sequence cycle (Some 1) (Some rrn) kind

abbrev pub starts : ℕ → Entry
starts sequence = entry sequence (Some sequence) None None CommitCycleStarted

abbrev pub committed : ℕ → ℕ → Entry
committed sequence cycle = entry sequence (Some cycle) None None CommitCycleCommitted

abbrev pub rolled_back : ℕ → ℕ → Entry
rolled_back sequence cycle = entry sequence (Some cycle) None None CommitCycleRolledBack

abbrev pub control_started : ℕ → Entry
control_started sequence = entry sequence None None None (CommitmentStarted Chg)

-- an update and the image before it, two entries
abbrev pub updated : ℕ → Option ℕ → ℕ → (before after : List ℕ) → List Entry
updated sequence cycle rrn before after = of_record sequence cycle rrn (BeforeImage before) ∷ of_record (sequence + 1) cycle rrn (AfterImage true after) ∷ []

abbrev pub undone : ℕ → Option ℕ → ℕ → (before after : List ℕ) → List Entry
undone sequence cycle rrn before after = of_record sequence cycle rrn (UndoBeforeImage before) ∷ of_record (sequence + 1) cycle rrn (UndoAfterImage true after) ∷ []

abbrev pub created : List Entry
created = of_member 1 (FileCreated Physical (codes "CUST") []) ∷ of_member 2 (JournalingStarted Both 0) ∷ []

-- ---- journals

-- three records are added, one is updated, one is deleted
abbrev pub plain : List Entry
plain = created
    ++ (of_record 3 None 1 (RecordAdded (codes "A")) ∷ of_record 4 None 2 (RecordAdded (codes "B")) ∷ of_record 5 None 3 (RecordAdded (codes "C")) ∷ [])
    ++ updated 6 None 1 (codes "A") (codes "A1") ++ (of_record 8 None 2 (RecordDeleted (Some (codes "B"))) ∷ [])

-- a commit cycle changes record 1 and commits; then two run interleaved, one over record 1 and one over record 2
abbrev pub interleaved : List Entry
interleaved = created
    ++ (of_record 3 None 1 (RecordAdded (codes "A")) ∷ of_record 4 None 2 (RecordAdded (codes "B")) ∷ control_started 5 ∷ control_started 6 ∷ [])
    ++ (starts 7 ∷ []) ++ updated 8 (Some 7) 1 (codes "A") (codes "A1") ++ (committed 10 7 ∷ [])
    ++ (starts 11 ∷ []) ++ updated 12 (Some 11) 1 (codes "A1") (codes "A2")
    ++ (starts 14 ∷ []) ++ updated 15 (Some 14) 2 (codes "B") (codes "B2")
    ++ (committed 17 11 ∷ []) ++ updated 18 (Some 14) 2 (codes "B2") (codes "B3") ++ (committed 20 14 ∷ [])

-- a commit cycle updates record 2 twice, adds record 4 and deletes record 1
abbrev pub pending : List Entry
pending = created
    ++ (of_record 3 None 1 (RecordAdded (codes "A")) ∷ of_record 4 None 2 (RecordAdded (codes "B")) ∷ of_record 5 None 3 (RecordAdded (codes "C")) ∷ control_started 6 ∷ [])
    ++ (starts 7 ∷ []) ++ updated 8 (Some 7) 2 (codes "B") (codes "B1") ++ updated 10 (Some 7) 2 (codes "B1") (codes "B2")
    ++ (of_record 12 (Some 7) 4 (RecordAdded (codes "D")) ∷ of_record 13 (Some 7) 1 (RecordDeleted (Some (codes "A"))) ∷ [])

-- that commit cycle is rolled back
abbrev pub undone_whole : List Entry
undone_whole = pending
    ++ (of_record 14 (Some 7) 1 (UndoAfterImage false (codes "A")) ∷ of_record 15 (Some 7) 4 (UndoDelete (codes "D")) ∷ [])
    ++ undone 16 (Some 7) 2 (codes "B2") (codes "B1") ++ undone 18 (Some 7) 2 (codes "B1") (codes "B") ++ (rolled_back 20 7 ∷ [])

-- a file with after images alone: a record is added and updated
abbrev pub after_only : List Entry
after_only = of_member 1 (FileCreated Physical (codes "CUST") []) ∷ of_member 2 (JournalingStarted After 0)
    ∷ of_record 3 None 1 (RecordAdded (codes "A")) ∷ of_record 4 None 1 (AfterImage false (codes "B")) ∷ []

abbrev pub of_one : List Entry → List Act
of_one entries = acts 1 None entries

-- the entries that the removal of entries 3 to 8 of the plain journal adds to it
abbrev pub removed_plain : List Entry
removed_plain = plain
    ++ (of_member 9 (ChangesRemoved 3 8 5) ∷ starts 10 ∷ of_record 11 (Some 10) 2 (RecordAddedAtNumber (codes "B")) ∷ [])
    ++ updated 12 (Some 10) 1 (codes "A1") (codes "A")
    ++ (of_record 14 (Some 10) 3 (RecordDeleted (Some (codes "C"))) ∷ of_record 15 (Some 10) 2 (RecordDeleted (Some (codes "B"))) ∷ of_record 16 (Some 10) 1
    (RecordDeleted (Some (codes "A"))) ∷ committed 17 10 ∷ [])

-- the member is cleared, and its journaling ends and begins again
abbrev pub broken : List Entry
broken = created
    ++ (of_record 3 None 1 (RecordAdded (codes "A")) ∷ of_member 4 MemberCleared ∷ of_record 5 None 1 (RecordAdded (codes "B")) ∷ of_member 6 JournalingEnded
    ∷ of_member 7 (JournalingStarted Both 2) ∷ of_record 8 None 1 (InitialSlot (codes "B")) ∷ of_record 9 None 2 (RecordAddedAtNumber (codes "C")) ∷ of_member 10 MemberReorganized ∷ [])

-- an update without a before image stands between an add and an update with one
abbrev pub half_kept : List Entry
half_kept = after_only ++ updated 5 None 1 (codes "B") (codes "C")

-- a commit cycle changes a record of member 2 alone, and commits after the range
abbrev pub of_another : List Entry
of_another = created ++ (starts 3 ∷ entry 4 (Some 3) (Some 2) (Some 1) (RecordAdded (codes "Z")) ∷ of_record 5 None 1 (RecordAdded (codes "A")) ∷ committed 6 3 ∷ [])

-- the commit cycle over record 2 isn't committed
abbrev pub half_committed : List Entry
half_committed = take 19 interleaved

-- the rollback stops at the later of two before images of record 2
abbrev pub undone_half : List Entry
undone_half = pending
    ++ (of_record 14 (Some 7) 1 (UndoAfterImage false (codes "A")) ∷ of_record 15 (Some 7) 4 (UndoDelete (codes "D")) ∷ [])
    ++ undone 16 (Some 7) 2 (codes "B2") (codes "B1") ++ (rolled_back 18 7 ∷ [])

-- another commit cycle, or a change outside commitment control, takes a record that an open one has changed
abbrev pub overtaken : Option ℕ → List Entry
overtaken cycle = interleaved ++ (starts 21 ∷ starts 22 ∷ []) ++ updated 23 (Some 21) 1 (codes "A2") (codes "A3") ++ updated 25 cycle 1 (codes "A3") (codes "A4")

-- the before image in front of an update is of another record
abbrev pub misplaced : List Entry
misplaced = created ++ (of_record 3 None 1 (RecordAdded (codes "A")) ∷ of_record 4 None 2 (BeforeImage (codes "A")) ∷ of_record 5 None 1 (AfterImage true (codes "B")) ∷ [])

-- Which images does an entry hold, and do they and the slots stay within what a member may have?
-- (Journal Management, "Before-images and after-images"; the limits are this project's own.)
use Rattle.std.specs.Prelude.{ℕ, List, [], ◌∷◌, replicate, Option, Some, None, option_to_list, IsTrue, ⊤}
use Rattle.std.specs.List.{AllByRecursion}
use Rattle.entry_codec.specs.declared.entries.Entry.{Entry}
use Rattle.entry_codec.specs.declared.kinds.EntryKind.{EntryKind}
use Rattle.entry_codec.specs.declared.kinds.EntryKind.TheVariants.{FileCreated, FileDeleted, MemberAdded, JournalingStarted, InitialSlot, JournalingEnded, MemberCleared, MemberReorganized, ChangesApplied, ChangesRemoved, RecordAdded, RecordAddedAtNumber, BeforeImage, AfterImage, RecordDeleted, UndoBeforeImage, UndoAfterImage, UndoDelete, CommitmentStarted, CommitCycleStarted, CommitCycleCommitted, CommitCycleRolledBack, CommitmentEnded, AbnormalEnd, NextReceiver, PreviousReceiver}
use Rattle.member_slots.specs.declared.slot.Slot.TheVariants.{Deleted}
use Rattle.member_slots.specs.Member.{IsMember}
use Rattle.journal_model.specs.Catalogue.{Descriptions, Catalogue, CatalogFile, CatalogMember, catalogue_by, file_named, member_numbered}

abbrev pub images_of : EntryKind → List (List ℕ)
images_of (InitialSlot image) = image ∷ []
images_of (RecordAdded image) = image ∷ []
images_of (RecordAddedAtNumber image) = image ∷ []
images_of (BeforeImage image) = image ∷ []
images_of (AfterImage has_before image) = image ∷ []
images_of (RecordDeleted before) = option_to_list before
images_of (UndoBeforeImage image) = image ∷ []
images_of (UndoAfterImage has_before image) = image ∷ []
images_of (UndoDelete image) = image ∷ []
images_of (FileCreated kind name source) = []
images_of (FileDeleted name) = []
images_of (MemberAdded file name) = []
images_of (JournalingStarted images slots) = []
images_of JournalingEnded = []
images_of MemberCleared = []
images_of MemberReorganized = []
images_of (ChangesApplied first last changes) = []
images_of (ChangesRemoved first last changes) = []
images_of (CommitmentStarted level) = []
images_of CommitCycleStarted = []
images_of CommitCycleCommitted = []
images_of CommitCycleRolledBack = []
images_of CommitmentEnded = []
images_of AbnormalEnd = []
images_of (NextReceiver number) = []
images_of (PreviousReceiver number) = []

-- ---- images are records of their member's file

abbrev pub AreRecords : Descriptions → List CatalogFile → Option CatalogFile → List (List ℕ) → Type 0
AreRecords d files None images = ⊤
AreRecords d files (Some file) images = AllByRecursion (λ image. IsTrue (d.is_record files file.source image)) images

abbrev pub AreRecordsOf : Descriptions → Catalogue → Option CatalogMember → List (List ℕ) → Type 0
AreRecordsOf d c None images = ⊤
AreRecordsOf d c (Some member) images = AreRecords d c.files (file_named member.file c) images

-- of a member that the catalogue has; other entries aren't judged
abbrev pub HasRecords : Descriptions → Catalogue → Entry → Type 0
HasRecords d c e = AreRecordsOf d c (member_numbered e.member c) (images_of e.kind)

-- each entry's images are records by the catalogue as the entries before it leave it
abbrev pub AllHaveRecords : Descriptions → Catalogue → List Entry → Type 0
AllHaveRecords d c [] = ⊤
AllHaveRecords d c (e ∷ entries) = HasRecords d c e × AllHaveRecords d (catalogue_by e.kind e c) entries

-- ---- the limits of one member

-- a member can have this relative record number
abbrev pub HasPlace : ℕ → Option ℕ → Type 0
HasPlace record_length None = ⊤
HasPlace record_length (Some rrn) = IsMember (record { record_length = record_length; slots = replicate rrn Deleted })

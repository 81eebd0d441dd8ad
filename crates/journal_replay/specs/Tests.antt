-- How are the parts of a standing tested, where an entry is to come?
-- (Journal Management, "Recovery operations using journaling".)
use Rattle.std.specs.Prelude.{ℕ, Bool, true, false, ◌&&◌, ◌||◌, ◌==◌, not, nat_le, nat_lt, is_none, if◌then◌else◌, List, [], ◌∷◌, length, Option, Some, None}
use Rattle.std.specs.List.{list_any, list_all}
use Rattle.std.specs.Option.{is_some}
use Rattle.std.specs.Str.{bytes_eq}
use Rattle.entry_codec.specs.declared.entries.Entry.{Entry}
use Rattle.entry_codec.specs.declared.kinds.FileKind.{FileKind}
use Rattle.entry_codec.specs.declared.kinds.FileKind.TheVariants.{Physical, Logical}
use Rattle.entry_codec.specs.declared.kinds.EntryKind.{EntryKind}
use Rattle.entry_codec.specs.declared.kinds.EntryKind.TheVariants.{FileCreated, FileDeleted, MemberAdded, JournalingStarted, InitialSlot, JournalingEnded, MemberCleared, MemberReorganized, ChangesApplied, ChangesRemoved, RecordAdded, RecordAddedAtNumber, BeforeImage, AfterImage, RecordDeleted, UndoBeforeImage, UndoAfterImage, UndoDelete, CommitmentStarted, CommitCycleStarted, CommitCycleCommitted, CommitCycleRolledBack, CommitmentEnded, AbnormalEnd, NextReceiver, PreviousReceiver}
use Rattle.journal_model.specs.declared.limits.TheConstants.{LAST_MEMBER}
use Rattle.member_slots.specs.declared.slot.Slot.{Slot}
use Rattle.member_slots.specs.declared.slot.Slot.TheVariants.{Live, Deleted}
use Rattle.journal_model.specs.Acts.{Act, Changed, Began, Committed, RolledBack, Journaled, Stood, Cleared, Reorganized, Ended, Nothing, Change, changes_slot, held_before, updated_from, undone_from, deleted_from, place_of, cycle_of, is_number, is_same_number}
use Rattle.journal_model.specs.Places.{slot_of, is_same_slot}
use Rattle.journal_model.specs.Replay.{is_in, before_of}
use Rattle.journal_model.specs.Replayable.{is_one_of, is_open, agrees_before}
use Rattle.journal_model.specs.Pairs.{Pair, OfUpdate, OfUndo, pair_begun, pair_ended}
use Rattle.journal_model.specs.Catalogue.{Catalogue, CatalogFile, CatalogMember, Descriptions, file_named, member_numbered, members_of, depends_on}
use Rattle.journal_model.specs.Images.{images_of}
use Rattle.journal_model.specs.Rollback.{MemberChange, named}
use Rattle.journal_replay.specs.Standing.{HeldMember, Standing, catalogue_in, slots_at}

-- ---- the catalogue

abbrev pub is_next_member : Option ℕ → Catalogue → Bool
is_next_member number c = is_number number c.next_member && nat_le c.next_member LAST_MEMBER

abbrev pub makes_member : FileKind → Entry → Catalogue → Bool
makes_member Physical e c = is_next_member e.member c
makes_member Logical e c = true

abbrev pub may_create : Descriptions → FileKind → (name source : List ℕ) → Entry → Catalogue → Bool
may_create d kind name source e c = is_none (file_named name c) && makes_member kind e c && d.accepts c.files kind source

abbrev pub may_delete : Descriptions → List ℕ → Catalogue → Bool
may_delete d name c = is_some (file_named name c) && not (list_any (depends_on d name) c.files)

abbrev pub is_physical : FileKind → Bool
is_physical Physical = true
is_physical Logical = false

abbrev pub is_physical_file : Option CatalogFile → Bool
is_physical_file None = false
is_physical_file (Some file) = is_physical file.kind

abbrev pub may_add_member : (file name : List ℕ) → Entry → Catalogue → Bool
may_add_member file name e c = is_physical_file (file_named file c) && is_next_member e.member c && not (list_any (λ (m : CatalogMember). bytes_eq m.name name) (members_of file c))

abbrev pub is_of_member : Entry → Catalogue → Bool
is_of_member e c = is_some (member_numbered e.member c)

abbrev pub may_enter : Descriptions → EntryKind → Entry → Catalogue → Bool
may_enter d (FileCreated kind name source) e c = may_create d kind name source e c
may_enter d (FileDeleted name) e c = may_delete d name c
may_enter d (MemberAdded file name) e c = may_add_member file name e c
may_enter d (JournalingStarted images slots) e c = is_of_member e c
may_enter d (InitialSlot image) e c = is_of_member e c
may_enter d JournalingEnded e c = is_of_member e c
may_enter d MemberCleared e c = is_of_member e c
may_enter d MemberReorganized e c = is_of_member e c
may_enter d (ChangesApplied first last changes) e c = is_of_member e c
may_enter d (ChangesRemoved first last changes) e c = is_of_member e c
may_enter d (RecordAdded image) e c = is_of_member e c
may_enter d (RecordAddedAtNumber image) e c = is_of_member e c
may_enter d (BeforeImage image) e c = is_of_member e c
may_enter d (AfterImage has_before image) e c = is_of_member e c
may_enter d (RecordDeleted before) e c = is_of_member e c
may_enter d (UndoBeforeImage image) e c = is_of_member e c
may_enter d (UndoAfterImage has_before image) e c = is_of_member e c
may_enter d (UndoDelete image) e c = is_of_member e c
may_enter d (CommitmentStarted level) e c = true
may_enter d CommitCycleStarted e c = true
may_enter d CommitCycleCommitted e c = true
may_enter d CommitCycleRolledBack e c = true
may_enter d CommitmentEnded e c = true
may_enter d AbnormalEnd e c = true
may_enter d (NextReceiver number) e c = true
may_enter d (PreviousReceiver number) e c = true

-- ---- members and commit cycles

-- an open commit cycle has changed the member
abbrev pub is_touched : ℕ → List MemberChange → Bool
is_touched number undos = list_any (λ (c : MemberChange). c.member == number) undos

abbrev pub frees_deleted : EntryKind → Standing → Bool
frees_deleted (FileCreated kind name source) s = true
frees_deleted (FileDeleted name) s = not (list_any (λ (m : CatalogMember). is_touched m.number s.undos) (members_of name (catalogue_in s)))
frees_deleted (MemberAdded file name) s = true
frees_deleted (JournalingStarted images slots) s = true
frees_deleted (InitialSlot image) s = true
frees_deleted JournalingEnded s = true
frees_deleted MemberCleared s = true
frees_deleted MemberReorganized s = true
frees_deleted (ChangesApplied first last changes) s = true
frees_deleted (ChangesRemoved first last changes) s = true
frees_deleted (RecordAdded image) s = true
frees_deleted (RecordAddedAtNumber image) s = true
frees_deleted (BeforeImage image) s = true
frees_deleted (AfterImage has_before image) s = true
frees_deleted (RecordDeleted before) s = true
frees_deleted (UndoBeforeImage image) s = true
frees_deleted (UndoAfterImage has_before image) s = true
frees_deleted (UndoDelete image) s = true
frees_deleted (CommitmentStarted level) s = true
frees_deleted CommitCycleStarted s = true
frees_deleted CommitCycleCommitted s = true
frees_deleted CommitCycleRolledBack s = true
frees_deleted CommitmentEnded s = true
frees_deleted AbnormalEnd s = true
frees_deleted (NextReceiver number) s = true
frees_deleted (PreviousReceiver number) s = true

-- this change is of the commit cycle and of the record
abbrev pub is_of_record : (cycle member place : ℕ) → MemberChange → Bool
is_of_record cycle member place c = is_in cycle c.change && (c.member == member) && (c.change.place == place)

-- the record before the first change of it by the commit cycle, the last of the list
abbrev pub first_before : (cycle member place : ℕ) → List MemberChange → Option Slot → Option Slot
first_before cycle member place [] found = found
first_before cycle member place (c ∷ undos) found = first_before cycle member place undos (if is_of_record cycle member place c then Some (before_of c.change) else found)

abbrev pub is_back : Option Slot → Slot → Bool
is_back None slot = true
is_back (Some before) slot = is_same_slot slot before

abbrev pub is_restored_in : ℕ → List MemberChange → List HeldMember → MemberChange → Bool
is_restored_in n undos members c = not (is_in n c.change) || is_back (first_before n c.member c.change.place undos None) (slot_of (slots_at c.member members) c.change.place)

-- each record that the commit cycle changed is again as before its first change of it
abbrev pub are_restored : ℕ → Standing → Bool
are_restored n s = list_all (is_restored_in n s.undos s.members) s.undos

-- the change is of another record, or of this commit cycle
abbrev pub is_apart : (member place : ℕ) → Option ℕ → MemberChange → Bool
is_apart member place cycle c = not (c.member == member) || not (c.change.place == place) || is_same_number c.change.cycle cycle

-- the change fits the slot that is there, past the last one or not
abbrev pub fits_slot : Change → List Slot → Bool
fits_slot c slots = nat_le c.place (length slots) && agrees_before c.before c.cycle (slot_of slots c.place)

-- what an entry of this kind does to the member that it names, commit cycles apart
abbrev pub member_act : EntryKind → Option Entry → Entry → Act
member_act (FileCreated kind name source) prior e = Nothing
member_act (FileDeleted name) prior e = Nothing
member_act (MemberAdded file name) prior e = Nothing
member_act (JournalingStarted images slots) prior e = Journaled images slots
member_act (InitialSlot image) prior e = Stood (place_of e.rrn) image
member_act JournalingEnded prior e = Ended
member_act MemberCleared prior e = Cleared
member_act MemberReorganized prior e = Reorganized
member_act (ChangesApplied first last changes) prior e = Nothing
member_act (ChangesRemoved first last changes) prior e = Nothing
member_act (RecordAdded image) prior e = changes_slot e (Some Deleted) (Live image)
member_act (RecordAddedAtNumber image) prior e = changes_slot e (Some Deleted) (Live image)
member_act (BeforeImage image) prior e = Nothing
member_act (AfterImage true image) prior e = changes_slot e (held_before updated_from prior e) (Live image)
member_act (AfterImage false image) prior e = changes_slot e None (Live image)
member_act (RecordDeleted before) prior e = changes_slot e (deleted_from before) Deleted
member_act (UndoBeforeImage image) prior e = Nothing
member_act (UndoAfterImage true image) prior e = changes_slot e (held_before undone_from prior e) (Live image)
member_act (UndoAfterImage false image) prior e = changes_slot e (Some Deleted) (Live image)
member_act (UndoDelete image) prior e = changes_slot e (Some (Live image)) Deleted
member_act (CommitmentStarted level) prior e = Nothing
member_act CommitCycleStarted prior e = Nothing
member_act CommitCycleCommitted prior e = Nothing
member_act CommitCycleRolledBack prior e = Nothing
member_act CommitmentEnded prior e = Nothing
member_act AbnormalEnd prior e = Nothing
member_act (NextReceiver number) prior e = Nothing
member_act (PreviousReceiver number) prior e = Nothing

abbrev pub may_act : Standing → ℕ → Act → Bool
may_act s number (Changed c) = fits_slot c (slots_at number s.members) && is_open s.cycles c.cycle && list_all (is_apart number c.place c.cycle) s.undos
may_act s number (Journaled images slots) = not (is_touched number s.undos)
may_act s number (Stood place image) = not (is_touched number s.undos) && nat_lt place (length (slots_at number s.members))
may_act s number Cleared = not (is_touched number s.undos)
may_act s number Reorganized = not (is_touched number s.undos)
may_act s number Ended = not (is_touched number s.undos)
may_act s number (Began n) = true
may_act s number (Committed n) = true
may_act s number (RolledBack n) = true
may_act s number Nothing = true

abbrev pub follows_by : EntryKind → Standing → Entry → Bool
follows_by (FileCreated kind name source) s e = true
follows_by (FileDeleted name) s e = true
follows_by (MemberAdded file name) s e = true
follows_by (JournalingStarted images slots) s e = may_act s (named e.member) (member_act (JournalingStarted images slots) s.begun e)
follows_by (InitialSlot image) s e = may_act s (named e.member) (member_act (InitialSlot image) s.begun e)
follows_by JournalingEnded s e = may_act s (named e.member) (member_act JournalingEnded s.begun e)
follows_by MemberCleared s e = may_act s (named e.member) (member_act MemberCleared s.begun e)
follows_by MemberReorganized s e = may_act s (named e.member) (member_act MemberReorganized s.begun e)
follows_by (ChangesApplied first last changes) s e = true
follows_by (ChangesRemoved first last changes) s e = true
follows_by (RecordAdded image) s e = may_act s (named e.member) (member_act (RecordAdded image) s.begun e)
follows_by (RecordAddedAtNumber image) s e = may_act s (named e.member) (member_act (RecordAddedAtNumber image) s.begun e)
follows_by (BeforeImage image) s e = true
follows_by (AfterImage has_before image) s e = may_act s (named e.member) (member_act (AfterImage has_before image) s.begun e)
follows_by (RecordDeleted before) s e = may_act s (named e.member) (member_act (RecordDeleted before) s.begun e)
follows_by (UndoBeforeImage image) s e = true
follows_by (UndoAfterImage has_before image) s e = may_act s (named e.member) (member_act (UndoAfterImage has_before image) s.begun e)
follows_by (UndoDelete image) s e = may_act s (named e.member) (member_act (UndoDelete image) s.begun e)
follows_by (CommitmentStarted level) s e = true
follows_by CommitCycleStarted s e = cycle_of e.group == s.next
follows_by CommitCycleCommitted s e = is_one_of s.cycles (cycle_of e.group)
follows_by CommitCycleRolledBack s e = is_one_of s.cycles (cycle_of e.group) && are_restored (cycle_of e.group) s
follows_by CommitmentEnded s e = true
follows_by AbnormalEnd s e = true
follows_by (NextReceiver number) s e = true
follows_by (PreviousReceiver number) s e = true

abbrev pub names_open : EntryKind → List ℕ → Option ℕ → Bool
names_open (FileCreated kind name source) cycles group = is_open cycles group
names_open (FileDeleted name) cycles group = is_open cycles group
names_open (MemberAdded file name) cycles group = is_open cycles group
names_open (JournalingStarted images slots) cycles group = is_open cycles group
names_open (InitialSlot image) cycles group = is_open cycles group
names_open JournalingEnded cycles group = is_open cycles group
names_open MemberCleared cycles group = is_open cycles group
names_open MemberReorganized cycles group = is_open cycles group
names_open (ChangesApplied first last changes) cycles group = is_open cycles group
names_open (ChangesRemoved first last changes) cycles group = is_open cycles group
names_open (RecordAdded image) cycles group = is_open cycles group
names_open (RecordAddedAtNumber image) cycles group = is_open cycles group
names_open (BeforeImage image) cycles group = is_open cycles group
names_open (AfterImage has_before image) cycles group = is_open cycles group
names_open (RecordDeleted before) cycles group = is_open cycles group
names_open (UndoBeforeImage image) cycles group = is_open cycles group
names_open (UndoAfterImage has_before image) cycles group = is_open cycles group
names_open (UndoDelete image) cycles group = is_open cycles group
names_open (CommitmentStarted level) cycles group = is_open cycles group
names_open CommitCycleStarted cycles group = true
names_open CommitCycleCommitted cycles group = is_open cycles group
names_open CommitCycleRolledBack cycles group = is_open cycles group
names_open CommitmentEnded cycles group = is_open cycles group
names_open AbnormalEnd cycles group = is_open cycles group
names_open (NextReceiver number) cycles group = is_open cycles group
names_open (PreviousReceiver number) cycles group = is_open cycles group

-- ---- pairs of images

abbrev pub is_pair : Option Pair → Option Pair → Bool
is_pair None None = true
is_pair None (Some other) = false
is_pair (Some pair) None = false
is_pair (Some OfUpdate) (Some OfUpdate) = true
is_pair (Some OfUpdate) (Some OfUndo) = false
is_pair (Some OfUndo) (Some OfUpdate) = false
is_pair (Some OfUndo) (Some OfUndo) = true

abbrev pub is_same_job : Option (List ℕ) → Option (List ℕ) → Bool
is_same_job None None = true
is_same_job None (Some b) = false
is_same_job (Some a) None = false
is_same_job (Some a) (Some b) = bytes_eq a b

abbrev pub is_one_change : Entry → Entry → Bool
is_one_change a b = is_same_job a.job b.job && is_same_number a.group b.group && is_same_number a.member b.member && is_same_number a.rrn b.rrn

abbrev pub one_change : Option Pair → Entry → Entry → Bool
one_change None prior e = true
one_change (Some pair) prior e = is_one_change prior e

abbrev pub ends_pair : Option Entry → Entry → Bool
ends_pair None e = is_none (pair_ended e.kind)
ends_pair (Some prior) e = is_pair (pair_ended e.kind) (pair_begun prior.kind) && one_change (pair_begun prior.kind) prior e

-- ---- images

abbrev pub are_records : Descriptions → List CatalogFile → Option CatalogFile → List (List ℕ) → Bool
are_records d files None images = true
are_records d files (Some file) images = list_all (d.is_record files file.source) images

abbrev pub are_records_of : Descriptions → Catalogue → Option CatalogMember → List (List ℕ) → Bool
are_records_of d c None images = true
are_records_of d c (Some member) images = are_records d c.files (file_named member.file c) images

-- ---- the entry

abbrev pub may_stand_next : Descriptions → Standing → Entry → Bool
may_stand_next d s e =
    (e.sequence == s.next) && ends_pair s.begun e && names_open e.kind s.cycles e.group && frees_deleted e.kind s
    && may_enter d e.kind e (catalogue_in s) && follows_by e.kind s e && are_records_of d (catalogue_in s) (member_numbered e.member (catalogue_in s)) (images_of e.kind)

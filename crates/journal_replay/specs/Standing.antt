-- What does a journal leave, and what does an entry more make of that?
-- (Journal Management, "Recovery operations using journaling".)
use Rattle.std.specs.Prelude.{ℕ, ◌+◌, ◌≡◌, ◌==◌, not, if◌then◌else◌, List, [], ◌∷◌, ◌++◌, map, Option, Some, None, unwrap_or}
use Rattle.std.specs.List.{filter, AllByRecursion}
use Rattle.std.specs.Str.{bytes_eq}
use Rattle.entry_codec.specs.declared.entries.Entry.{Entry}
use Rattle.entry_codec.specs.declared.kinds.FileKind.{FileKind}
use Rattle.entry_codec.specs.declared.kinds.FileKind.TheVariants.{Physical, Logical}
use Rattle.entry_codec.specs.declared.kinds.Images.{Images}
use Rattle.entry_codec.specs.declared.kinds.EntryKind.{EntryKind}
use Rattle.entry_codec.specs.declared.kinds.EntryKind.TheVariants.{FileCreated, FileDeleted, MemberAdded, JournalingStarted, InitialSlot, JournalingEnded, MemberCleared, MemberReorganized, ChangesApplied, ChangesRemoved, RecordAdded, RecordAddedAtNumber, BeforeImage, AfterImage, RecordDeleted, UndoBeforeImage, UndoAfterImage, UndoDelete, CommitmentStarted, CommitCycleStarted, CommitCycleCommitted, CommitCycleRolledBack, CommitmentEnded, AbnormalEnd, NextReceiver, PreviousReceiver}
use Rattle.member_slots.specs.declared.slot.Slot.{Slot}
use Rattle.journal_model.specs.Acts.{Act, Changed, Began, Committed, RolledBack, Journaled, Stood, Cleared, Reorganized, Ended, Nothing, Change, act, act_elsewhere}
use Rattle.journal_model.specs.Replay.{State, moved, cycles_after}
use Rattle.journal_model.specs.Replayable.{MayFollow, IsOpen}
use Rattle.journal_model.specs.Pairs.{Pair, pair_begun, EndsPair}
use Rattle.journal_model.specs.Catalogue.{Catalogue, CatalogFile, CatalogMember, Descriptions, MayEnterBy, is_named, members_of}
use Rattle.journal_model.specs.Images.{HasRecords}
use Rattle.journal_model.specs.Rollback.{MemberChange, undos_by, of_member, named}

-- a member of the catalogue, with its slots and the sequence of its last break, 0 for none
pub record HeldMember : Type 0 where
  pub number : ℕ
  pub file : List ℕ
  pub name : List ℕ
  pub images : Option Images
  pub last_break : ℕ
  pub slots : List Slot

pub record Standing : Type 0 where
  -- the sequence of the entry that comes next
  pub next : ℕ
  -- the last entry, where it begins a pair of images
  pub begun : Option Entry
  pub files : List CatalogFile
  pub members : List HeldMember
  pub next_member : ℕ
  -- the open commit cycles in the order of their beginnings, and their changes, the last one first
  pub cycles : List ℕ
  pub undos : List MemberChange

-- ---- what is read off it

abbrev pub catalog_member : HeldMember → CatalogMember
catalog_member m = record { number = m.number; file = m.file; name = m.name; images = m.images }

abbrev pub catalogue_in : Standing → Catalogue
catalogue_in s = record { files = s.files; members = map catalog_member s.members; next_member = s.next_member }

-- a member that isn't there has no slots
abbrev pub slots_at : ℕ → List HeldMember → List Slot
slots_at number [] = []
slots_at number (m ∷ members) = if m.number == number then m.slots else slots_at number members

-- a member with the open commit cycles
abbrev pub state_in : Standing → ℕ → State
state_in s member = record { slots = slots_at member s.members; cycles = s.cycles; undos = of_member member s.undos; next = s.next }

-- ---- an entry more

abbrev pub only_begun : Option Pair → Entry → Option Entry
only_begun None e = None
only_begun (Some pair) e = Some e

-- the entry, where it begins a pair of images
abbrev pub begun_by : Option Entry → Option Entry
begun_by None = None
begun_by (Some e) = only_begun (pair_begun e.kind) e

abbrev pub images_by : Act → Option Images → Option Images
images_by (Journaled images slots) old = Some images
images_by Ended old = None
images_by (Changed c) old = old
images_by (Began n) old = old
images_by (Committed n) old = old
images_by (RolledBack n) old = old
images_by (Stood place image) old = old
images_by Cleared old = old
images_by Reorganized old = old
images_by Nothing old = old

-- journaling began or ended, or the records lost their numbers
abbrev pub break_by : Act → (sequence old : ℕ) → ℕ
break_by (Journaled images slots) sequence old = sequence
break_by (Stood place image) sequence old = sequence
break_by Cleared sequence old = sequence
break_by Reorganized sequence old = sequence
break_by Ended sequence old = sequence
break_by (Changed c) sequence old = old
break_by (Began n) sequence old = old
break_by (Committed n) sequence old = old
break_by (RolledBack n) sequence old = old
break_by Nothing sequence old = old

abbrev pub member_by : Act → (sequence : ℕ) → HeldMember → HeldMember
member_by a sequence m = record m { images = images_by a m.images; last_break = break_by a sequence m.last_break; slots = moved m.slots a }

-- each member by what the entry does to it
abbrev pub members_by : Option Entry → Entry → List HeldMember → List HeldMember
members_by prior e members = map (λ (m : HeldMember). member_by (act m.number prior e) e.sequence m) members

abbrev pub new_member : (number : ℕ) → (file name : List ℕ) → HeldMember
new_member number file name = record { number = number; file = file; name = name; images = None; last_break = 0; slots = [] }

abbrev pub made_with : FileKind → Entry → List ℕ → List HeldMember
made_with Physical e name = new_member (unwrap_or e.member 0) name name ∷ []
made_with Logical e name = []

-- the member that the entry makes
abbrev pub made_by : EntryKind → Entry → List HeldMember
made_by (FileCreated kind name source) e = made_with kind e name
made_by (FileDeleted name) e = []
made_by (MemberAdded file name) e = new_member (unwrap_or e.member 0) file name ∷ []
made_by (JournalingStarted images slots) e = []
made_by (InitialSlot image) e = []
made_by JournalingEnded e = []
made_by MemberCleared e = []
made_by MemberReorganized e = []
made_by (ChangesApplied first last changes) e = []
made_by (ChangesRemoved first last changes) e = []
made_by (RecordAdded image) e = []
made_by (RecordAddedAtNumber image) e = []
made_by (BeforeImage image) e = []
made_by (AfterImage has_before image) e = []
made_by (RecordDeleted before) e = []
made_by (UndoBeforeImage image) e = []
made_by (UndoAfterImage has_before image) e = []
made_by (UndoDelete image) e = []
made_by (CommitmentStarted level) e = []
made_by CommitCycleStarted e = []
made_by CommitCycleCommitted e = []
made_by CommitCycleRolledBack e = []
made_by CommitmentEnded e = []
made_by AbnormalEnd e = []
made_by (NextReceiver number) e = []
made_by (PreviousReceiver number) e = []

-- the members that the entry leaves
abbrev pub left_by : EntryKind → List HeldMember → List HeldMember
left_by (FileCreated kind name source) members = members
left_by (FileDeleted name) members = filter (λ (m : HeldMember). not (bytes_eq m.file name)) members
left_by (MemberAdded file name) members = members
left_by (JournalingStarted images slots) members = members
left_by (InitialSlot image) members = members
left_by JournalingEnded members = members
left_by MemberCleared members = members
left_by MemberReorganized members = members
left_by (ChangesApplied first last changes) members = members
left_by (ChangesRemoved first last changes) members = members
left_by (RecordAdded image) members = members
left_by (RecordAddedAtNumber image) members = members
left_by (BeforeImage image) members = members
left_by (AfterImage has_before image) members = members
left_by (RecordDeleted before) members = members
left_by (UndoBeforeImage image) members = members
left_by (UndoAfterImage has_before image) members = members
left_by (UndoDelete image) members = members
left_by (CommitmentStarted level) members = members
left_by CommitCycleStarted members = members
left_by CommitCycleCommitted members = members
left_by CommitCycleRolledBack members = members
left_by CommitmentEnded members = members
left_by AbnormalEnd members = members
left_by (NextReceiver number) members = members
left_by (PreviousReceiver number) members = members

abbrev pub files_by : EntryKind → Entry → List CatalogFile → List CatalogFile
files_by (FileCreated kind name source) e files = files ++ record { created = e.sequence; kind = kind; name = name; source = source } ∷ []
files_by (FileDeleted name) e files = filter (λ (f : CatalogFile). not (is_named name f)) files
files_by (MemberAdded file name) e files = files
files_by (JournalingStarted images slots) e files = files
files_by (InitialSlot image) e files = files
files_by JournalingEnded e files = files
files_by MemberCleared e files = files
files_by MemberReorganized e files = files
files_by (ChangesApplied first last changes) e files = files
files_by (ChangesRemoved first last changes) e files = files
files_by (RecordAdded image) e files = files
files_by (RecordAddedAtNumber image) e files = files
files_by (BeforeImage image) e files = files
files_by (AfterImage has_before image) e files = files
files_by (RecordDeleted before) e files = files
files_by (UndoBeforeImage image) e files = files
files_by (UndoAfterImage has_before image) e files = files
files_by (UndoDelete image) e files = files
files_by (CommitmentStarted level) e files = files
files_by CommitCycleStarted e files = files
files_by CommitCycleCommitted e files = files
files_by CommitCycleRolledBack e files = files
files_by CommitmentEnded e files = files
files_by AbnormalEnd e files = files
files_by (NextReceiver number) e files = files
files_by (PreviousReceiver number) e files = files

abbrev pub next_after : ℕ → List HeldMember → ℕ
next_after old [] = old
next_after old (m ∷ made) = m.number + 1

abbrev pub standing_after : Entry → Standing → Standing
standing_after e s = record {
  next = s.next + 1;
  begun = begun_by (Some e);
  files = files_by e.kind e s.files;
  members = left_by e.kind (members_by s.begun e s.members) ++ made_by e.kind e;
  next_member = next_after s.next_member (made_by e.kind e);
  cycles = cycles_after s.cycles (act_elsewhere e.kind e);
  undos = undos_by (act (named e.member) s.begun e) (named e.member) s.undos;
}

-- ---- which entry may come

pub record MayStandNext (d : Descriptions) (s : Standing) (e : Entry) : Type 0 where
  pub sequence : e.sequence ≡ s.next
  pub enters : MayEnterBy d e.kind e (catalogue_in s)
  pub replays : (member : ℕ) → MayFollow (state_in s member) (act member s.begun e)
  pub names : (e.kind ≡ CommitCycleStarted → ⊥) → IsOpen s.cycles e.group
  pub deletes : (name : List ℕ) → e.kind ≡ FileDeleted name → AllByRecursion (λ (m : CatalogMember). of_member m.number s.undos ≡ []) (members_of name (catalogue_in s))
  pub pairs : EndsPair s.begun e
  pub records : HasRecords d (catalogue_in s) e

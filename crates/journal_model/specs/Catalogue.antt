-- Which files and members does a journal leave, and which entries may follow?
-- (Journal Management, "Journal code finder"; Database Programming, "Physical file members". That one journal is of the
-- whole library, and the numbers of members, are this project's own.)
use Rattle.std.specs.Prelude.{ℕ, ◌+◌, ◌≡◌, ◌≤◌, Bool, ◌&&◌, not, if◌then◌else◌, List, [], ◌∷◌, ◌++◌, map, Option, Some, None, unwrap_or, IsTrue, IsFalse, ⊤}
use Rattle.std.specs.List.{filter, find, list_any}
use Rattle.std.specs.Str.{bytes_eq}
use Rattle.entry_codec.specs.declared.entries.Entry.{Entry}
use Rattle.entry_codec.specs.declared.kinds.FileKind.{FileKind}
use Rattle.entry_codec.specs.declared.kinds.FileKind.TheVariants.{Physical, Logical}
use Rattle.entry_codec.specs.declared.kinds.Images.{Images}
use Rattle.entry_codec.specs.declared.kinds.EntryKind.{EntryKind}
use Rattle.entry_codec.specs.declared.kinds.EntryKind.TheVariants.{FileCreated, FileDeleted, MemberAdded, JournalingStarted, InitialSlot, JournalingEnded, MemberCleared, MemberReorganized, ChangesApplied, ChangesRemoved, RecordAdded, RecordAddedAtNumber, BeforeImage, AfterImage, RecordDeleted, UndoBeforeImage, UndoAfterImage, UndoDelete, CommitmentStarted, CommitCycleStarted, CommitCycleCommitted, CommitCycleRolledBack, CommitmentEnded, AbnormalEnd, NextReceiver, PreviousReceiver}
use Rattle.journal_model.specs.declared.limits.TheConstants.{LAST_MEMBER}
use Rattle.journal_model.specs.Acts.{is_number}

-- a file: the sequence of its creation, 0 where a checkpoint has it, its name and the text of its description
pub record CatalogFile : Type 0 where
  pub created : ℕ
  pub kind : FileKind
  pub name : List ℕ
  pub source : List ℕ

-- a member: its number, its file, its name, and which images the journal keeps, None where it isn't journaled
pub record CatalogMember : Type 0 where
  pub number : ℕ
  pub file : List ℕ
  pub name : List ℕ
  pub images : Option Images

-- files and members in order of creation, and the number of the next member
pub record Catalogue : Type 0 where
  pub files : List CatalogFile
  pub members : List CatalogMember
  pub next_member : ℕ

abbrev pub empty_catalogue : Catalogue
empty_catalogue = record { files = []; members = []; next_member = 1 }

-- what the rules of data descriptions say; they stand elsewhere
pub record Descriptions : Type 0 where
  -- the description is accepted beside these files
  pub accepts : List CatalogFile → FileKind → List ℕ → Bool
  -- the files over which it stands, or which it names in REF and REFFLD
  pub names : FileKind → List ℕ → List (List ℕ)
  -- the bytes of a record, and whether bytes are a record: of that length, with a value in each field
  pub record_length : List CatalogFile → List ℕ → ℕ
  pub is_record : List CatalogFile → List ℕ → List ℕ → Bool

-- ---- looking up

abbrev pub is_named : List ℕ → CatalogFile → Bool
is_named name file = bytes_eq file.name name

abbrev pub file_named : List ℕ → Catalogue → Option CatalogFile
file_named name c = find (is_named name) c.files

abbrev pub is_in_file : List ℕ → CatalogMember → Bool
is_in_file file member = bytes_eq member.file file

abbrev pub members_of : List ℕ → Catalogue → List CatalogMember
members_of file c = filter (is_in_file file) c.members

abbrev pub has_number : Option ℕ → CatalogMember → Bool
has_number number member = is_number number member.number

abbrev pub member_numbered : Option ℕ → Catalogue → Option CatalogMember
member_numbered number c = find (has_number number) c.members

-- ---- what an entry leaves

abbrev pub file_added : ℕ → FileKind → (name source : List ℕ) → Catalogue → Catalogue
file_added created kind name source c = record c { files = c.files ++ record { created = created; kind = kind; name = name; source = source } ∷ [] }

abbrev pub member_added : ℕ → (file name : List ℕ) → Catalogue → Catalogue
member_added number file name c = record c { members = c.members ++ record { number = number; file = file; name = name; images = None } ∷ []; next_member = number + 1 }

-- a physical file has a member of its own name from the beginning
abbrev pub file_created : FileKind → Entry → (name source : List ℕ) → Catalogue → Catalogue
file_created Physical e name source c = member_added (unwrap_or e.member 0) name name (file_added e.sequence Physical name source c)
file_created Logical e name source c = file_added e.sequence Logical name source c

abbrev pub file_deleted : List ℕ → Catalogue → Catalogue
file_deleted name c = record c { files = filter (λ (f : CatalogFile). not (is_named name f)) c.files; members = filter (λ (m : CatalogMember). not (is_in_file name m)) c.members }

abbrev pub with_images : Option ℕ → Option Images → Catalogue → Catalogue
with_images number images c = record c { members = map (λ (m : CatalogMember). if has_number number m then record m { images = images } else m) c.members }

abbrev pub catalogue_by : EntryKind → Entry → Catalogue → Catalogue
catalogue_by (FileCreated kind name source) e c = file_created kind e name source c
catalogue_by (FileDeleted name) e c = file_deleted name c
catalogue_by (MemberAdded file name) e c = member_added (unwrap_or e.member 0) file name c
catalogue_by (JournalingStarted images slots) e c = with_images e.member (Some images) c
catalogue_by JournalingEnded e c = with_images e.member None c
catalogue_by (InitialSlot image) e c = c
catalogue_by MemberCleared e c = c
catalogue_by MemberReorganized e c = c
catalogue_by (ChangesApplied first last changes) e c = c
catalogue_by (ChangesRemoved first last changes) e c = c
catalogue_by (RecordAdded image) e c = c
catalogue_by (RecordAddedAtNumber image) e c = c
catalogue_by (BeforeImage image) e c = c
catalogue_by (AfterImage has_before image) e c = c
catalogue_by (RecordDeleted before) e c = c
catalogue_by (UndoBeforeImage image) e c = c
catalogue_by (UndoAfterImage has_before image) e c = c
catalogue_by (UndoDelete image) e c = c
catalogue_by (CommitmentStarted level) e c = c
catalogue_by CommitCycleStarted e c = c
catalogue_by CommitCycleCommitted e c = c
catalogue_by CommitCycleRolledBack e c = c
catalogue_by CommitmentEnded e c = c
catalogue_by AbnormalEnd e c = c
catalogue_by (NextReceiver number) e c = c
catalogue_by (PreviousReceiver number) e c = c

abbrev pub catalogue_after : Catalogue → List Entry → Catalogue
catalogue_after c [] = c
catalogue_after c (e ∷ entries) = catalogue_after (catalogue_by e.kind e c) entries

-- ---- what may follow

-- the number of a member that is made is the next one
pub record IsNextMember (number : Option ℕ) (c : Catalogue) : Type 0 where
  pub next : number ≡ Some c.next_member
  pub last : c.next_member ≤ LAST_MEMBER

abbrev pub MakesMember : FileKind → Entry → Catalogue → Type 0
MakesMember Physical e c = IsNextMember e.member c
MakesMember Logical e c = ⊤

pub record MayCreate (d : Descriptions) (kind : FileKind) (name source : List ℕ) (e : Entry) (c : Catalogue) : Type 0 where
  pub unnamed : file_named name c ≡ None
  pub accepted : IsTrue (d.accepts c.files kind source)
  pub numbered : MakesMember kind e c

-- another file stands over this one, or names it
abbrev pub depends_on : Descriptions → List ℕ → CatalogFile → Bool
depends_on d name file = not (is_named name file) && list_any (bytes_eq name) (d.names file.kind file.source)

pub record MayDelete (d : Descriptions) (name : List ℕ) (c : Catalogue) : Type 0 where
  pub file : CatalogFile
  pub named : file_named name c ≡ Some file
  pub alone : IsFalse (list_any (depends_on d name) c.files)

pub record MayAddMember (file name : List ℕ) (e : Entry) (c : Catalogue) : Type 0 where
  pub over : CatalogFile
  pub named : file_named file c ≡ Some over
  pub physical : over.kind ≡ Physical
  pub unnamed : IsFalse (list_any (λ (m : CatalogMember). bytes_eq m.name name) (members_of file c))
  pub numbered : IsNextMember e.member c

-- the member that an entry names is there
abbrev pub IsOfMember : Entry → Catalogue → Type 0
IsOfMember e c = (member : CatalogMember) × (member_numbered e.member c ≡ Some member)

abbrev pub MayEnterBy : Descriptions → EntryKind → Entry → Catalogue → Type 0
MayEnterBy d (FileCreated kind name source) e c = MayCreate d kind name source e c
MayEnterBy d (FileDeleted name) e c = MayDelete d name c
MayEnterBy d (MemberAdded file name) e c = MayAddMember file name e c
MayEnterBy d (JournalingStarted images slots) e c = IsOfMember e c
MayEnterBy d (InitialSlot image) e c = IsOfMember e c
MayEnterBy d JournalingEnded e c = IsOfMember e c
MayEnterBy d MemberCleared e c = IsOfMember e c
MayEnterBy d MemberReorganized e c = IsOfMember e c
MayEnterBy d (ChangesApplied first last changes) e c = IsOfMember e c
MayEnterBy d (ChangesRemoved first last changes) e c = IsOfMember e c
MayEnterBy d (RecordAdded image) e c = IsOfMember e c
MayEnterBy d (RecordAddedAtNumber image) e c = IsOfMember e c
MayEnterBy d (BeforeImage image) e c = IsOfMember e c
MayEnterBy d (AfterImage has_before image) e c = IsOfMember e c
MayEnterBy d (RecordDeleted before) e c = IsOfMember e c
MayEnterBy d (UndoBeforeImage image) e c = IsOfMember e c
MayEnterBy d (UndoAfterImage has_before image) e c = IsOfMember e c
MayEnterBy d (UndoDelete image) e c = IsOfMember e c
MayEnterBy d (CommitmentStarted level) e c = ⊤
MayEnterBy d CommitCycleStarted e c = ⊤
MayEnterBy d CommitCycleCommitted e c = ⊤
MayEnterBy d CommitCycleRolledBack e c = ⊤
MayEnterBy d CommitmentEnded e c = ⊤
MayEnterBy d AbnormalEnd e c = ⊤
MayEnterBy d (NextReceiver number) e c = ⊤
MayEnterBy d (PreviousReceiver number) e c = ⊤

-- each entry may stand where the catalogue is as the entries before it leave it
abbrev pub MayEnterAll : Descriptions → Catalogue → List Entry → Type 0
MayEnterAll d c [] = ⊤
MayEnterAll d c (e ∷ entries) = MayEnterBy d e.kind e c × MayEnterAll d (catalogue_by e.kind e c) entries

-- Which bytes spell an entry of the journal? The grammar of receivers, apart from reader and writer.
use Rattle.std.specs.Prelude.{◌≡◌, ℕ, ◌+◌, ◌≤◌, ◌<◌, ◌^◌, ⊤, Bool, true, false, IsTrue, List, [], ◌∷◌, ◌++◌, length, take, drop, replicate, Option, Some, None, IfSome}
use Rattle.std.specs.Option.{unwrap_or}
use Rattle.byteorder.specs.Endian.{big_bytes}
use Rattle.commit_level.specs.declared.Level.{Level}
use Rattle.commit_level.specs.declared.Level.TheVariants.{Chg, Cs, All}
use Rattle.field_types.specs.SystemName.{is_name}
use Rattle.entry_codec.specs.declared.entries.Entry.{Entry}
use Rattle.entry_codec.specs.declared.kinds.FileKind.{FileKind}
use Rattle.entry_codec.specs.declared.kinds.FileKind.TheVariants.{Physical, Logical}
use Rattle.entry_codec.specs.declared.kinds.Images.{Images}
use Rattle.entry_codec.specs.declared.kinds.Images.TheVariants.{After, Both}
use Rattle.entry_codec.specs.declared.kinds.EntryKind.{EntryKind}
use Rattle.entry_codec.specs.declared.kinds.EntryKind.TheVariants.{FileCreated, FileDeleted, MemberAdded, JournalingStarted, InitialSlot, JournalingEnded, MemberCleared, MemberReorganized, ChangesApplied, ChangesRemoved, RecordAdded, RecordAddedAtNumber, BeforeImage, AfterImage, RecordDeleted, UndoBeforeImage, UndoAfterImage, UndoDelete, CommitmentStarted, CommitCycleStarted, CommitCycleCommitted, CommitCycleRolledBack, CommitmentEnded, AbnormalEnd, NextReceiver, PreviousReceiver}
use Rattle.entry_codec.specs.Placing.{letters, is_placed}

-- ---- fields

-- an unsigned number in four bytes, the highest first
unfoldable pub number4 : ℕ → List ℕ
number4 n = big_bytes 4 n

-- an unsigned number in eight bytes, the highest first
unfoldable pub number8 : ℕ → List ℕ
number8 n = big_bytes 8 n

-- a name in ten bytes, with blanks behind it
unfoldable pub name_field : List ℕ → List ℕ
name_field name = take 10 (name ++ replicate 10 32)

-- ten blanks where there is no job
abbrev pub job_field : Option (List ℕ) → List ℕ
job_field None = replicate 10 32
job_field (Some name) = name_field name

abbrev pub file_kind_field : FileKind → List ℕ
file_kind_field Physical = 1 ∷ []
file_kind_field Logical = 2 ∷ []

abbrev pub images_field : Images → List ℕ
images_field After = 1 ∷ []
images_field Both = 2 ∷ []

abbrev pub level_field : Level → List ℕ
level_field Chg = 1 ∷ []
level_field Cs = 2 ∷ []
level_field All = 3 ∷ []

-- 2 where the entry before holds the before image
abbrev pub before_field : Bool → List ℕ
before_field false = 1 ∷ []
before_field true = 2 ∷ []

-- an image behind a flag
abbrev pub image_field : List ℕ → List ℕ
image_field image = 1 ∷ image

-- an image that may be missing
abbrev pub optional_image_field : Option (List ℕ) → List ℕ
optional_image_field None = 0 ∷ []
optional_image_field (Some image) = image_field image

-- its length, and that many bytes
abbrev pub source_field : List ℕ → List ℕ
source_field source = number4 (length source) ++ source

-- ---- entries

abbrev pub body : EntryKind → List ℕ
body (FileCreated kind name source) = file_kind_field kind ++ name_field name ++ source_field source
body (FileDeleted name) = name_field name
body (MemberAdded file name) = name_field file ++ name_field name
body (JournalingStarted images slots) = images_field images ++ number4 slots
body (InitialSlot image) = image_field image
body JournalingEnded = []
body MemberCleared = []
body MemberReorganized = []
body (ChangesApplied first last changes) = number8 first ++ number8 last ++ number4 changes
body (ChangesRemoved first last changes) = number8 first ++ number8 last ++ number4 changes
body (RecordAdded image) = image_field image
body (RecordAddedAtNumber image) = image_field image
body (BeforeImage image) = image_field image
body (AfterImage has_before image) = before_field has_before ++ image
body (RecordDeleted before) = optional_image_field before
body (UndoBeforeImage image) = image_field image
body (UndoAfterImage has_before image) = before_field has_before ++ image
body (UndoDelete image) = image_field image
body (CommitmentStarted level) = level_field level
body CommitCycleStarted = []
body CommitCycleCommitted = []
body CommitCycleRolledBack = []
body CommitmentEnded = []
body AbnormalEnd = []
body (NextReceiver number) = number4 number
body (PreviousReceiver number) = number4 number

-- what every entry has in front; 0 where there is no number
abbrev pub head : Entry → List ℕ
head e = number8 e.sequence ++ letters e.kind ++ job_field e.job ++ number8 e.moment ++ number8 (unwrap_or e.group 0) ++ number4 (unwrap_or e.member 0) ++ number4 (unwrap_or e.rrn 0)

abbrev pub content : Entry → List ℕ
content e = head e ++ body e.kind

-- the length of the content, and the content
abbrev pub spelling : Entry → List ℕ
spelling e = number4 (length (content e)) ++ content e

-- ---- which entries have a spelling

-- a record has from 1 to 32,766 bytes
abbrev pub IsImage : List ℕ → Type 0
IsImage image = (1 ≤ length image) × (length image ≤ 32766)

-- each image could be a record, and the source leaves the length of the entry below 2 ^ 32
abbrev pub HoldsFields : EntryKind → Type 0
HoldsFields (FileCreated kind name source) = length source + 60 < 2 ^ 32
HoldsFields (InitialSlot image) = IsImage image
HoldsFields (RecordAdded image) = IsImage image
HoldsFields (RecordAddedAtNumber image) = IsImage image
HoldsFields (BeforeImage image) = IsImage image
HoldsFields (AfterImage has_before image) = IsImage image
HoldsFields (RecordDeleted before) = IfSome before IsImage
HoldsFields (UndoBeforeImage image) = IsImage image
HoldsFields (UndoAfterImage has_before image) = IsImage image
HoldsFields (UndoDelete image) = IsImage image
HoldsFields _ = ⊤

-- what an entry of the program has to be for a spelling
pub record HasSpelling (e : Entry) : Type 0 where
  pub placed : IsTrue (is_placed e)
  pub fields : HoldsFields e.kind

-- what the types of a kind's fields keep: names are names, and numbers have their width
abbrev pub IsKind : EntryKind → Type 0
IsKind (FileCreated kind name source) = IsTrue (is_name name)
IsKind (FileDeleted name) = IsTrue (is_name name)
IsKind (MemberAdded file name) = IsTrue (is_name file) × IsTrue (is_name name)
IsKind (JournalingStarted images slots) = slots < 2 ^ 32
IsKind (ChangesApplied first last changes) = (first < 2 ^ 64) × (last < 2 ^ 64) × (changes < 2 ^ 32)
IsKind (ChangesRemoved first last changes) = (first < 2 ^ 64) × (last < 2 ^ 64) × (changes < 2 ^ 32)
IsKind (NextReceiver number) = number < 2 ^ 32
IsKind (PreviousReceiver number) = number < 2 ^ 32
IsKind _ = ⊤

-- what the types of the fields in front keep
pub record IsHead (e : Entry) : Type 0 where
  pub sequence : e.sequence < 2 ^ 64
  pub job : IfSome e.job (λ name. IsTrue (is_name name))
  pub moment : e.moment < 2 ^ 64
  pub group : IfSome e.group (λ n. n < 2 ^ 64)
  pub member : IfSome e.member (λ n. n < 2 ^ 32)
  pub rrn : IfSome e.rrn (λ n. n < 2 ^ 32)

-- what the types of an entry's fields keep
pub record IsEntry (e : Entry) : Type 0 where
  pub head : IsHead e
  pub kind : IsKind e.kind

-- an entry that a journal can hold
pub record IsSpelled (e : Entry) : Type 0 where
  pub has : HasSpelling e
  pub is : IsEntry e

-- the entry is spelled at the front of the bytes, and takes so many of them
pub record Begins (bytes : List ℕ) (e : Entry) (count : ℕ) : Type 0 where
  pub spelled : IsSpelled e
  pub long : count ≡ length (spelling e)
  pub within : count ≤ length bytes
  pub front : bytes ≡ spelling e ++ drop count bytes

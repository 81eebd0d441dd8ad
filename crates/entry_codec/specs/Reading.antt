-- Reading an entry from left to right: what the reader's parts answer.
use Rattle.std.specs.Prelude.{◌≡◌, ℕ, ◌+◌, Bool, true, false, ◌&&◌, ◌==◌, nat_lt, nat_le, if◌then◌else◌, List, [], ◌∷◌, length, take, drop, Option, Some, None, IsSome, Result, Ok, Err, codes}
use Rattle.std.specs.List.{list_all}
use Rattle.std.specs.Str.{bytes_eq}
use Rattle.byteorder.specs.Endian.{big_number}
use Rattle.commit_level.specs.declared.Level.{Level}
use Rattle.commit_level.specs.declared.Level.TheVariants.{Chg, Cs, All}
use Rattle.field_types.specs.SystemName.{is_name}
use Rattle.entry_codec.specs.declared.entries.Entry.{Entry}
use Rattle.entry_codec.specs.declared.kinds.FileKind.{FileKind}
use Rattle.entry_codec.specs.declared.kinds.FileKind.TheVariants.{Physical, Logical}
use Rattle.entry_codec.specs.declared.kinds.Images.{Images}
use Rattle.entry_codec.specs.declared.kinds.Images.TheVariants.{After, Both}
use Rattle.entry_codec.specs.declared.kinds.EntryKind.{EntryKind}
use Rattle.entry_codec.specs.declared.kinds.EntryKind.TheVariants.{FileCreated, FileDeleted, MemberAdded, JournalingStarted, InitialSlot, JournalingEnded, MemberCleared, MemberReorganized, ChangesApplied, ChangesRemoved, RecordAdded, RecordAddedAtNumber, BeforeImage, AfterImage, RecordDeleted, UndoBeforeImage, UndoAfterImage, UndoDelete, CommitmentStarted, CommitCycleStarted, CommitCycleCommitted, CommitCycleRolledBack, CommitmentEnded, AbnormalEnd, NextReceiver, PreviousReceiver}
use Rattle.entry_codec.specs.declared.places.Named.{Named}
use Rattle.entry_codec.specs.declared.unread.NotInGrammar.{NotInGrammar}
use Rattle.entry_codec.specs.declared.unread.Unread.{Unread}
use Rattle.entry_codec.specs.declared.unread.Unread.TheVariants.{NoMemory, NotSpelled}
use Rattle.entry_codec.specs.Placing.{place, is_placed_at}

infixl 10 ◌>>=◌
abbrev pub ◌>>=◌ : {A B : Type 0} → Option A → (A → Option B) → Option B
(Some x) >>= f = f x
None >>= f = None

-- what a function that takes no memory returned is what reading gives
abbrev pub Reads : {X Y : Type 0} → (X → Y) → Result X NotInGrammar → Option Y → Type 0
Reads view (Ok x) read = read ≡ Some (view x)
Reads view (Err e) read = read ≡ None

-- what a function returned is what reading gives; memory runs out only where reading gives something
abbrev pub Fails : {Y : Type 0} → Unread → Option Y → Type 0
Fails NoMemory read = IsSome read
Fails NotSpelled read = read ≡ None

abbrev pub Gives : {X Y : Type 0} → (X → Y) → Result X Unread → Option Y → Type 0
Gives view (Ok x) read = read ≡ Some (view x)
Gives view (Err e) read = Fails e read

-- ---- fields: a value at the front, and the bytes after it

abbrev pub Reader : Type 0 → Type 0
Reader A = List ℕ → Option (A × List ℕ)

unfoldable pub front_at : ℕ → Reader (List ℕ)
front_at n bytes = if nat_lt (length bytes) n then None else Some (take n bytes, drop n bytes)

-- the number that four bytes, or eight, spell
unfoldable pub number4_of : List ℕ → ℕ
number4_of bytes = big_number 4 bytes

unfoldable pub number8_of : List ℕ → ℕ
number8_of bytes = big_number 8 bytes

unfoldable pub number4_at : Reader ℕ
number4_at bytes = front_at 4 bytes >>= λ front. Some (number4_of front.0, front.1)

unfoldable pub number8_at : Reader ℕ
number8_at bytes = front_at 8 bytes >>= λ front. Some (number8_of front.0, front.1)

-- 0 stands for no number
abbrev pub unless_zero : ℕ → Option ℕ
unless_zero n = if n == 0 then None else Some n

unfoldable pub optional4_at : Reader (Option ℕ)
optional4_at bytes = number4_at bytes >>= λ n. Some (unless_zero n.0, n.1)

unfoldable pub optional8_at : Reader (Option ℕ)
optional8_at bytes = number8_at bytes >>= λ n. Some (unless_zero n.0, n.1)

abbrev pub is_blank : ℕ → Bool
is_blank b = b == 32

abbrev pub before_blank : List ℕ → List ℕ
before_blank [] = []
before_blank (b ∷ bs) = if is_blank b then [] else b ∷ before_blank bs

-- the name in a field, with nothing but blanks behind it
unfoldable pub name_in : List ℕ → Option (List ℕ)
name_in field = if list_all is_blank (drop (length (before_blank field)) field) && is_name (before_blank field) then Some (before_blank field) else None

unfoldable pub name_at : Reader (List ℕ)
name_at bytes = front_at 10 bytes >>= λ front. name_in front.0 >>= λ name. Some (name, front.1)

-- a blank field stands for no job
unfoldable pub job_in : List ℕ → Option (Option (List ℕ))
job_in field = if list_all is_blank field then Some None else name_in field >>= λ name. Some (Some name)

unfoldable pub file_kind_at : Reader FileKind
file_kind_at [] = None
file_kind_at (flag ∷ rest) = if flag == 1 then Some (Physical, rest) else if flag == 2 then Some (Logical, rest) else None

unfoldable pub images_at : Reader Images
images_at [] = None
images_at (flag ∷ rest) = if flag == 1 then Some (After, rest) else if flag == 2 then Some (Both, rest) else None

unfoldable pub level_at : Reader Level
level_at [] = None
level_at (flag ∷ rest) = if flag == 1 then Some (Chg, rest) else if flag == 2 then Some (Cs, rest) else if flag == 3 then Some (All, rest) else None

unfoldable pub before_at : Reader Bool
before_at [] = None
before_at (flag ∷ rest) = if flag == 1 then Some (false, rest) else if flag == 2 then Some (true, rest) else None

-- an image is all the bytes that are left
unfoldable pub image_at : Reader (List ℕ)
image_at bytes = if nat_le 1 (length bytes) && nat_le (length bytes) 32766 then Some (bytes, []) else None

unfoldable pub flagged_image_at : Reader (List ℕ)
flagged_image_at [] = None
flagged_image_at (flag ∷ rest) = if flag == 1 then image_at rest else None

unfoldable pub optional_image_at : Reader (Option (List ℕ))
optional_image_at [] = None
optional_image_at (flag ∷ rest) = if flag == 0 then Some (None, rest) else if flag == 1 then (image_at rest >>= λ image. Some (Some image.0, image.1)) else None

unfoldable pub source_at : Reader (List ℕ)
source_at bytes = number4_at bytes >>= λ n. front_at n.0 n.1

-- ---- bodies: so many fields, and no bytes after them

abbrev pub all_of : EntryKind → List ℕ → Option EntryKind
all_of kind rest = if length rest == 0 then Some kind else None

abbrev pub read1 : {A : Type 0} → (A → EntryKind) → Reader A → List ℕ → Option EntryKind
read1 make a bytes = a bytes >>= λ x. all_of (make x.0) x.1

abbrev pub read2 : {A B : Type 0} → (A → B → EntryKind) → Reader A → Reader B → List ℕ → Option EntryKind
read2 make a b bytes = a bytes >>= λ x. b x.1 >>= λ y. all_of (make x.0 y.0) y.1

abbrev pub read3 : {A B C : Type 0} → (A → B → C → EntryKind) → Reader A → Reader B → Reader C → List ℕ → Option EntryKind
read3 make a b c bytes = a bytes >>= λ x. b x.1 >>= λ y. c y.1 >>= λ z. all_of (make x.0 y.0 z.0) z.1

-- what happened to files and members
unfoldable pub file_kinds_at : List ℕ → List ℕ → Option EntryKind
file_kinds_at letters bytes =
    if bytes_eq letters (codes "DCT") then read3 FileCreated file_kind_at name_at source_at bytes
    else if bytes_eq letters (codes "DDT") then read1 FileDeleted name_at bytes
    else if bytes_eq letters (codes "DAM") then read2 MemberAdded name_at name_at bytes
    else None

-- what happened to a member as a whole
unfoldable pub member_kinds_at : List ℕ → List ℕ → Option EntryKind
member_kinds_at letters bytes =
    if bytes_eq letters (codes "FJM") then read2 JournalingStarted images_at number4_at bytes
    else if bytes_eq letters (codes "FIS") then read1 InitialSlot flagged_image_at bytes
    else if bytes_eq letters (codes "FEJ") then all_of JournalingEnded bytes
    else if bytes_eq letters (codes "FCR") then all_of MemberCleared bytes
    else if bytes_eq letters (codes "FRG") then all_of MemberReorganized bytes
    else if bytes_eq letters (codes "FAY") then read3 ChangesApplied number8_at number8_at number4_at bytes
    else if bytes_eq letters (codes "FRC") then read3 ChangesRemoved number8_at number8_at number4_at bytes
    else None

-- what happened to a record
unfoldable pub record_kinds_at : List ℕ → List ℕ → Option EntryKind
record_kinds_at letters bytes =
    if bytes_eq letters (codes "RPT") then read1 RecordAdded flagged_image_at bytes
    else if bytes_eq letters (codes "RPX") then read1 RecordAddedAtNumber flagged_image_at bytes
    else if bytes_eq letters (codes "RUB") then read1 BeforeImage flagged_image_at bytes
    else if bytes_eq letters (codes "RUP") then read2 AfterImage before_at image_at bytes
    else if bytes_eq letters (codes "RDL") then read1 RecordDeleted optional_image_at bytes
    else if bytes_eq letters (codes "RBR") then read1 UndoBeforeImage flagged_image_at bytes
    else if bytes_eq letters (codes "RUR") then read2 UndoAfterImage before_at image_at bytes
    else if bytes_eq letters (codes "RDR") then read1 UndoDelete flagged_image_at bytes
    else None

-- what happened to a commit cycle
unfoldable pub commit_kinds_at : List ℕ → List ℕ → Option EntryKind
commit_kinds_at letters bytes =
    if bytes_eq letters (codes "CBC") then read1 CommitmentStarted level_at bytes
    else if bytes_eq letters (codes "CSC") then all_of CommitCycleStarted bytes
    else if bytes_eq letters (codes "CCM") then all_of CommitCycleCommitted bytes
    else if bytes_eq letters (codes "CRB") then all_of CommitCycleRolledBack bytes
    else if bytes_eq letters (codes "CEC") then all_of CommitmentEnded bytes
    else None

-- what happened to the journal
unfoldable pub journal_kinds_at : List ℕ → List ℕ → Option EntryKind
journal_kinds_at letters bytes =
    if bytes_eq letters (codes "JIA") then all_of AbnormalEnd bytes
    else if bytes_eq letters (codes "JNR") then read1 NextReceiver number4_at bytes
    else if bytes_eq letters (codes "JPR") then read1 PreviousReceiver number4_at bytes
    else None

unfoldable pub kind_by_code : ℕ → List ℕ → List ℕ → Option EntryKind
kind_by_code code letters bytes =
    if code == 68 then file_kinds_at letters bytes
    else if code == 70 then member_kinds_at letters bytes
    else if code == 82 then record_kinds_at letters bytes
    else if code == 67 then commit_kinds_at letters bytes
    else if code == 74 then journal_kinds_at letters bytes
    else None

-- by the code, which is the first letter
unfoldable pub kind_at : List ℕ → List ℕ → Option EntryKind
kind_at [] bytes = None
kind_at (code ∷ type) bytes = kind_by_code code (code ∷ type) bytes

-- ---- entries

-- the kind, where the numbers in front name what it wants
abbrev pub placed : Named → Option EntryKind → Option EntryKind
placed named None = None
placed named (Some kind) = if is_placed_at (place kind) named.sequence named.group named.member named.rrn then Some kind else None

-- all of the bytes
unfoldable pub content_at : List ℕ → Option Entry
content_at bytes = do
  sequence ← number8_at bytes
  letters ← front_at 3 sequence.1
  field ← front_at 10 letters.1
  job ← job_in field.0
  moment ← number8_at field.1
  group ← optional8_at moment.1
  member ← optional4_at group.1
  rrn ← optional4_at member.1
  kind ← placed (record { sequence = sequence.0; group = group.0; member = member.0; rrn = rrn.0 }) (kind_at letters.0 rrn.1)
  Some (record { sequence = sequence.0; job = job; moment = moment.0; group = group.0; member = member.0; rrn = rrn.0; kind = kind })

-- the entry at the front, and how many bytes it takes
unfoldable pub entry_at : List ℕ → Option (Entry × ℕ)
entry_at bytes = do
  n ← number4_at bytes
  front ← front_at n.0 n.1
  entry ← content_at front.0
  Some (entry, 4 + n.0)

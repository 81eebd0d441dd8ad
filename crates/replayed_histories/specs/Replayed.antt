-- Of which libraries can the journal be replayed, so that it leaves the library as it stands? Of each that was nothing in the beginning, as long as it has
-- no checkpoint. (Journal Management, "Recovery operations using journaling"; Commitment Control.)
use Rattle.std.specs.Prelude.{◌≡◌, ℕ, ◌<◌, ◌≤◌, Bool, true, false, IfSome, Option, Some, None, List, length, map}
use Rattle.std.specs.List.{AllByRecursion, filter}
use Rattle.std.specs.Option.{is_some}
use Rattle.entry_codec.specs.declared.entries.Entry.{Entry}
use Rattle.entry_codec.specs.declared.kinds.FileKind.TheVariants.{Physical}
use Rattle.member_slots.specs.Member.{IsMember, records}
use Rattle.member_slots.specs.Members.{NumberedMembers, member_of}
use Rattle.journal_model.specs.Journal.{StaysMembers, record_length}
use Rattle.journal_model.specs.Replay.{is_in}
use Rattle.journal_model.specs.Replayable.{is_one_of}
use Rattle.journal_model.specs.Rollback.{MemberChange}
use Rattle.journal_replay.specs.Standing.{HeldMember, Standing, catalog_member, catalogue_in}
use Rattle.journal_replay.specs.Left.{IsLeft}
use Rattle.library_model.specs.Named.{Named, named}
use Rattle.library_model.specs.declared.requests.Request.{Request}
use Rattle.library_model.specs.declared.requests.Request.TheVariants.{CreatePhysicalFile, CreateLogicalFile, DeleteFile, AddMember, ClearMember, ReorganizeMember, StartJournaling, EndJournaling, ChangeJournal, DeleteReceiver, Checkpoint, DisplayJournal, ApplyChanges, RemoveChanges, StartCommitment, EndCommitment, Commit, Rollback, OpenFile, CloseFile, SetLowerLimit, SetGreaterThan, Read, ReadPrior, ReadEqual, ReadPriorEqual, Chain, Write, Update, Delete, Unlock, EndJob}
use Rattle.library_steps.specs.State.{State, FileState, JobState, MemberStatus, fields_of}
use Rattle.library_steps.specs.Change.{Change}
use Rattle.library_steps.specs.SlotChange.{status_among}
use Rattle.joint_state.specs.Sound.{Does, after}
use Rattle.named_bases.specs.Sources.{descriptions, described_files, fields_beside}
use Rattle.named_bases.specs.Libraries.{journal_with}
use Rattle.journaled_entries.specs.Deposited.{AreDeposited}
use Rattle.replayed_histories.specs.Shown.{catalog_shown, file_shown, memberless, ShowsMembers, cycle_numbers, kind_in, AreDifferent, IsRising}

-- ---- what the journal's entries leave

-- the member is within its limits
abbrev pub IsHeldWithin : Standing → HeldMember → Type 0
IsHeldWithin left m = IsMember (record { record_length = record_length descriptions (catalogue_in left) (catalog_member m); slots = m.slots })

-- the entries can be replayed from the beginning, but for a pair of images at their end, and leave this; a library deposits such entries
pub record IsLeftBy (entries : List Entry) (left : Standing) : Type 0 where
  pub replays : IsLeft descriptions (λ member. 0) (journal_with entries) left
  pub limits : StaysMembers descriptions (journal_with entries)
  pub within : AllByRecursion (IsHeldWithin left) left.members
  pub deposited : AreDeposited entries

-- ---- a member

-- journaling of the member ended, or never began: the journal tells its slots of that moment, which it has still where nothing has changed it since
pub record IsAsEnded (m : HeldMember) (members : NumberedMembers) (status : MemberStatus) : Type 0 where
  pub records_then : status.records_then ≡ length (records (record { record_length = 0; slots = m.slots }))
  pub unchanged : status.changed ≡ false → m.slots ≡ (member_of m.number members).slots

-- the member is one of a file, with the images that the journal keeps; where it keeps some, its slots are those that the journal leaves
pub record MemberStands (files : Named FileState) (members : NumberedMembers) (m : HeldMember) : Type 0 where
  pub counted : 1 ≤ m.number
  pub status : MemberStatus
  pub found : status_among m.number files ≡ Some status
  pub images : m.images ≡ status.images
  pub journaled : is_some m.images ≡ true → m.slots ≡ (member_of m.number members).slots
  pub ended : is_some m.images ≡ false → IsAsEnded m members status

-- ---- commit cycles

-- the changes of a commit cycle, the last one first
abbrev pub changes_in : ℕ → List MemberChange → List MemberChange
changes_in cycle undos = filter (λ (c : MemberChange). is_in cycle c.change) undos

-- a job's changes are those of its commit cycle in the journal
abbrev pub HasItsChanges : List MemberChange → JobState → Type 0
HasItsChanges undos job = IfSome job.cycle (λ cycle. changes_in cycle.sequence undos ≡ cycle.undos)

abbrev pub IsOfOneOf : List ℕ → Option ℕ → Type 0
IsOfOneOf cycles None = ⊥
IsOfOneOf cycles (Some n) = is_one_of cycles n ≡ true

abbrev pub BeganBefore : (next : ℕ) → ℕ → Type 0
BeganBefore next n = (1 ≤ n) × (n < next)

-- the commit cycles that the journal leaves open are those of the jobs, in the order of their beginnings
pub record CyclesStand (next : ℕ) (cycles : List ℕ) (undos : List MemberChange) (jobs : List JobState) : Type 0 where
  pub same : (n : ℕ) → is_one_of cycles n ≡ is_one_of (cycle_numbers jobs) n
  pub rising : IsRising cycles
  pub apart : AreDifferent (cycle_numbers jobs)
  pub begun : AllByRecursion (BeganBefore next) cycles
  pub changes : AllByRecursion (HasItsChanges undos) jobs
  pub owned : AllByRecursion (λ (c : MemberChange). IsOfOneOf cycles c.change.cycle) undos

-- ---- the library

-- what the journal leaves is the library with these files, members and jobs
pub record StandsAs (left : Standing) (files : Named FileState) (members : NumberedMembers) (next_member : ℕ) (jobs : List JobState) : Type 0 where
  pub files_are : map catalog_shown left.files ≡ map file_shown files
  -- each file's specification is that of its source beside the files before it
  pub described : described_files left.files ≡ map memberless files
  -- and its records have the fields by which the journal judges images
  pub fields_are : AllByRecursion (λ entry. kind_in entry.1.spec ≡ Physical → fields_beside left.files entry.1.source ≡ fields_of entry.1) files
  pub members_are : AllByRecursion (ShowsMembers left.members) files
  pub homes : AllByRecursion (λ (m : HeldMember). is_some (named m.file files) ≡ true) left.members
  pub numbers : map (λ (m : HeldMember). m.number) left.members ≡ map (λ entry. entry.number) members
  pub next_is : left.next_member ≡ next_member
  pub slots : AllByRecursion (MemberStands files members) left.members
  pub cycles_are : CyclesStand left.next left.cycles left.undos jobs

-- all entries are there, and what they leave is the library as it stands
pub record IsReplayed (s : State) : Type 0 where
  pub gone : s.gone ≡ 0
  pub checkpoint : s.checkpoint ≡ 0
  pub left : Standing
  pub journal : IsLeftBy s.entries left
  -- no pair of images waits for its second entry
  pub whole : left.begun ≡ None
  pub stands : StandsAs left s.files s.members s.next_member s.jobs

-- so it is of a sound library after whatever a running job asks of it and is done, but for CHKPT
abbrev pub AreReplaysKept : Type 0
AreReplaysKept = (s : State) (done : Change) → Does s done → done.memory.checkpoint ≡ 0 → IsReplayed s → IsReplayed (after s done)

-- ---- request by request

-- the requests that leave files, members and records alone
abbrev pub leaves_records : Request → Bool
leaves_records (CreatePhysicalFile args) = false
leaves_records (CreateLogicalFile args) = false
leaves_records (DeleteFile args) = false
leaves_records (AddMember args) = false
leaves_records (ClearMember args) = false
leaves_records (ReorganizeMember args) = false
leaves_records (StartJournaling args) = false
leaves_records (EndJournaling args) = false
leaves_records ChangeJournal = true
leaves_records (DeleteReceiver args) = true
leaves_records Checkpoint = true
leaves_records (DisplayJournal args) = true
leaves_records (ApplyChanges args) = false
leaves_records (RemoveChanges args) = false
leaves_records (StartCommitment args) = true
leaves_records EndCommitment = true
leaves_records Commit = true
leaves_records Rollback = false
leaves_records (OpenFile args) = true
leaves_records (CloseFile args) = true
leaves_records (SetLowerLimit args) = true
leaves_records (SetGreaterThan args) = true
leaves_records (Read args) = true
leaves_records (ReadPrior args) = true
leaves_records (ReadEqual args) = true
leaves_records (ReadPriorEqual args) = true
leaves_records (Chain args) = true
leaves_records (Write args) = false
leaves_records (Update args) = false
leaves_records (Delete args) = false
leaves_records (Unlock args) = true
leaves_records (EndJob args) = false

-- it is so after each of these
abbrev pub AreReplaysKeptByThese : Type 0
AreReplaysKeptByThese = (s : State) (done : Change) (d : Does s done) → leaves_records d.request ≡ true → done.memory.checkpoint ≡ 0 → IsReplayed s → IsReplayed (after s done)

-- What the parts of a library need of each other: opens name files and members that are there, logical files stand over physical files that
-- are there, each record has a value in each field of its file, changes of commit cycles can be taken back, locks are of jobs that have begun,
-- and the members have no more bytes than a library may. (Our own.)
use Rattle.std.specs.Prelude.{◌≡◌, ℕ, ◌<◌, ◌≤◌, true, Option, Some, None, is_some, IsSome, List, [], ◌∷◌, length, slice_get}
use Rattle.std.specs.List.{AllByRecursion}
use Rattle.member_slots.specs.declared.slot.Slot.{Slot}
use Rattle.member_slots.specs.declared.slot.Slot.TheVariants.{Live, Deleted}
use Rattle.member_slots.specs.Member.{MemberState, FitsSlot}
use Rattle.member_slots.specs.Members.{NumberedMembers, member_at, member_of}
use Rattle.library_steps.specs.Replay.{before_of}
use Rattle.library_steps.specs.Rollback.{MemberChange}
use Rattle.library_steps.below.record_fmt.specs.declared.formats.Field.{Field}
use Rattle.library_steps.specs.Layout.{record_length}
use Rattle.library_steps.specs.RecordFmtRecords.{record_held}
use Rattle.library_steps.below.dds_logical.specs.declared.views.LogicalSpec.{LogicalSpec}
use Rattle.library_steps.specs.Bases.{FileSpec, PhysicalFile, LogicalFile, base_names, base_members}
use Rattle.lawful_states.specs.Owners.{Owns, has_number}
use Rattle.lawful_states.specs.Jobs.{AreOfJobs}
use Rattle.library_steps.specs.Named.{Named, named}
use Rattle.library_steps.specs.declared.limits.TheConstants.{MOST_LIBRARY_BYTES}
use Rattle.library_steps.specs.State.{State, FileState, MemberStatus, OpenState, CycleState, JobState, fields_of, physical_among}
use Rattle.library_steps.specs.LogicalFiles.{bases_in}
use Rattle.library_steps.specs.Ranges.{library_bytes}

-- where a record stands in the slot, a value stands in each of these fields of it
abbrev pub HoldsValues : List Field → Slot → Type 0
HoldsValues fields (Live image) = is_some (record_held fields image) ≡ true
HoldsValues fields Deleted = Unit {0}

-- the member's records have these fields
pub record HasRecords (fields : List Field) (member : MemberState) : Type 0 where
  pub long : member.record_length ≡ record_length fields
  pub values : AllByRecursion (HoldsValues fields) member.slots

-- a member is there, with records of these fields
abbrev pub IsThere : List Field → Option MemberState → Type 0
IsThere fields None = ⊥
IsThere fields (Some member) = HasRecords fields member

-- a physical file has a member of its own name; a logical file has none, and stands over physical files that are there
pub record StandsOver (files : Named FileState) (members : Named MemberStatus) (spec : LogicalSpec) : Type 0 where
  pub none : members ≡ []
  pub bases : AllByRecursion (λ name. IsSome (physical_among name files)) (base_names spec)

abbrev pub IsBased : Named FileState → (name : List ℕ) → Named MemberStatus → FileSpec → Type 0
IsBased files name members (PhysicalFile spec) = IsSome (named name members)
IsBased files name members (LogicalFile spec) = StandsOver files members spec

abbrev pub AreBased : Named FileState → Type 0
AreBased files = (name : List ℕ) (file : FileState) → named name files ≡ Some file → IsBased files name file.members file.spec

-- an open of a physical file is over one of its members
pub record IsOfMember (members : Named MemberStatus) (opened : OpenState) : Type 0 where
  pub only : opened.members ≡ opened.member ∷ []
  pub format : opened.format ≡ 0
  pub has : has_number opened.member members ≡ true

-- an open of a logical file is over the members of its base files, and what it read last lies in that of the format
pub record IsOverBases (files : Named FileState) (spec : LogicalSpec) (opened : OpenState) : Type 0 where
  pub all : opened.members ≡ base_members (bases_in files) spec
  pub read : slice_get opened.members opened.format ≡ Some opened.member

abbrev pub OpensBy : Named FileState → OpenState → Named MemberStatus → FileSpec → Type 0
OpensBy files opened members (PhysicalFile spec) = IsOfMember members opened
OpensBy files opened members (LogicalFile spec) = IsOverBases files spec opened

-- the file that was opened is there
abbrev pub OpensFile : Named FileState → OpenState → Option FileState → Type 0
OpensFile files opened None = ⊥
OpensFile files opened (Some file) = OpensBy files opened file.members file.spec

abbrev pub OpenHolds : Named FileState → OpenState → Type 0
OpenHolds files opened = OpensFile files opened (named opened.file files)

abbrev pub OpensHold : Named FileState → JobState → Type 0
OpensHold files job = AllByRecursion (λ entry. OpenHolds files entry.1) job.opens

-- the member that was changed is there and has the place, and the slot before the change fits it
pub record FitsPlace (members : NumberedMembers) (undo : MemberChange) : Type 0 where
  pub there : is_some (member_at undo.member members) ≡ true
  pub place : undo.change.place < length (member_of undo.member members).slots
  pub fits : FitsSlot (member_of undo.member members).record_length (before_of undo.change)

-- a change can be taken back in the commit cycle that began with this entry: the slot before it may stand where it stood
pub record GoesBack (files : Named FileState) (members : NumberedMembers) (sequence : ℕ) (undo : MemberChange) : Type 0 where
  pub cycle : undo.change.cycle ≡ Some sequence
  pub place : FitsPlace members undo
  pub values : (name : List ℕ) (file : FileState) → Owns files name file undo.member → HoldsValues (fields_of file) (before_of undo.change)

abbrev pub CycleGoesBack : Named FileState → NumberedMembers → Option CycleState → Type 0
CycleGoesBack files members None = Unit {0}
CycleGoesBack files members (Some cycle) = AllByRecursion (GoesBack files members cycle.sequence) cycle.undos

abbrev pub AllGoBack : Named FileState → NumberedMembers → List JobState → Type 0
AllGoBack files members jobs = AllByRecursion (λ job. CycleGoesBack files members job.cycle) jobs

-- that no two files or members have one number is known of the files alone (AreApart)
pub record IsLibrary (s : State) : Type 0 where
  pub members : (name : List ℕ) (file : FileState) (number : ℕ) → Owns s.files name file number → IsThere (fields_of file) (member_at number s.members)
  pub bases : AreBased s.files
  pub opens : AllByRecursion (OpensHold s.files) s.jobs
  pub changes : AllGoBack s.files s.members s.jobs
  pub numbers : AllByRecursion (λ entry. entry.number < s.next_member) s.members
  pub keepers : AreOfJobs s.jobs s.locks
  pub few : library_bytes s.members ≤ MOST_LIBRARY_BYTES

-- the parts make up a library, and the bytes of its members are counted
pub record AreOne (s : State) (member_bytes : ℕ) : Type 0 where
  pub lawful : IsLibrary s
  pub counted : member_bytes ≡ library_bytes s.members

-- What a request that is done makes of the locks, the opens and the slots of members: one record for each kind of request.
use Rattle.std.proofs.Common.{◌≡◌, ◌⊎◌, ℕ, ◌-◌, ◌≤◌, ◌==◌, Bool, true, false, if◌then◌else◌, IsSome, List, Some, None, is_some}
use Rattle.commit_level.specs.declared.Level.{Level}
use Rattle.member_slots.specs.declared.slot.Slot.{Slot}
use Rattle.member_slots.specs.declared.slot.Slot.TheVariants.{Live, Deleted}
use Rattle.member_slots.specs.Members.{member_of, with_member}
use Rattle.lock_table.specs.declared.levels.Call.{Call}
use Rattle.lock_table.specs.declared.levels.Call.TheVariants.{UpdateRead, Update, Delete, Write, WriteAt, Close, Commit, Rollback, EndCommitment, EndJob}
use Rattle.library_model.specs.declared.requests.OpenFile.{OpenFile}
use Rattle.library_steps.specs.State.{Memory, OpenState, CycleState, JobState, job_of, job_changed, open_named, with_opens}
use Rattle.library_steps.specs.Locking.{locks_left, clashing}
use Rattle.library_steps.specs.Opens.{with_open, without_open}
use Rattle.library_steps.specs.Records.{live_record}
use Rattle.library_steps.specs.Reads.{at_format, open_changed}
use Rattle.library_steps.specs.SlotChange.{slot_put, with_cycle}
use Rattle.library_steps.specs.WriteRecord.{next_place}
use Rattle.library_steps.specs.ChangeRecord.{without_current, without_record}
use Rattle.library_steps.specs.Commitment.{boundary_locks, committed_open, rolled_back_open, without_cycle, with_level, taken_back, changes_of, has_committed_open}
use Rattle.library_steps.specs.EndJob.{ended_job}
use Rattle.library_steps.specs.Uses.{user_of}
use Rattle.joint_state.specs.Calls.{IsRead, AsksNone}

abbrev pub slots_of : (number : ℕ) → Memory → List Slot
slots_of number m = (member_of number m.members).slots

-- jobs and locks stay, and so do the slots of each member that a job uses
pub record IsAround (m new : Memory) : Type 0 where
  pub jobs : new.jobs ≡ m.jobs
  pub locks : new.locks ≡ m.locks
  pub slots : (number : ℕ) → (user_of number m ≡ None) ⊎ (slots_of number new ≡ slots_of number m)

-- an open more, under a name that no other has; under commitment control where the job is
pub record IsOpening (m : Memory) (job : ℕ) (new : Memory) : Type 0 where
  pub args : OpenFile
  pub over : List ℕ
  pub jobs : new.jobs ≡ job_changed (job - 1) (with_open args over) m.jobs
  pub locks : new.locks ≡ m.locks
  pub members : new.members ≡ m.members
  pub fresh : open_named args.open_id job m ≡ None
  pub control : args.commit ≡ true → is_some (job_of job m).level ≡ true

-- an open less
pub record IsClosing (m : Memory) (job : ℕ) (new : Memory) : Type 0 where
  pub name : List ℕ
  pub opened : OpenState
  pub named : open_named name job m ≡ Some opened
  pub jobs : new.jobs ≡ job_changed (job - 1) (without_open name) m.jobs
  pub locks : new.locks ≡ locks_left Close job opened 0 m
  pub members : new.members ≡ m.members

-- the same open but for where it stands, what it has read, and where that lies
pub record IsAlike (new old : OpenState) : Type 0 where
  pub number : new.number ≡ old.number
  pub commit : new.commit ≡ old.commit

-- the same open but for where it stands and what it has read
pub record IsSameOpen (new old : OpenState) : Type 0 where
  pub number : new.number ≡ old.number
  pub member : new.member ≡ old.member
  pub commit : new.commit ≡ old.commit

pub alike : (new old : OpenState) → IsSameOpen new old → IsAlike new old
alike new old same = record { number = same.number; commit = same.commit }

-- the open at one of its members, as a call on a record of it asks for locks
abbrev pub at_member : ℕ → OpenState → OpenState
at_member member opened = record opened { member = member }

-- an open is used, by a read of a record that is there, which moves it to the record's member, or by a call that asks for no lock
pub record IsUse (m : Memory) (job : ℕ) (new : Memory) : Type 0 where
  pub name : List ℕ
  pub opened : OpenState
  pub member : ℕ
  pub call : Call
  pub rrn : ℕ
  pub change : OpenState → OpenState
  pub named : open_named name job m ≡ Some opened
  pub jobs : new.jobs ≡ job_changed (job - 1) (open_changed opened.number change) m.jobs
  pub locks : new.locks ≡ locks_left call job (at_member member opened) rrn m
  pub members : new.members ≡ m.members
  pub same : (o : OpenState) → IsAlike (change o) o
  pub of : IsRead call × IsSome (live_record member rrn m) × ((change opened).member ≡ member) ⊎ AsksNone call × ((o : OpenState) → (change o).member ≡ o.member)
  pub free : clashing call job (at_member member opened) rrn m ≡ None
  pub current : (o : OpenState) (r : ℕ) → (change o).current ≡ Some r → (r ≡ rrn) × (call ≡ UpdateRead)

abbrev pub in_cycle : Bool → CycleState → JobState → JobState
in_cycle true cycle job = with_cycle cycle job
in_cycle false cycle job = job

abbrev pub changing : Bool → CycleState → (OpenState → OpenState) → JobState → JobState
changing commit cycle change job = with_opens change (in_cycle commit cycle job)

-- a record of a member is changed through an open
pub record IsChange (m : Memory) (job : ℕ) (new : Memory) (opened : OpenState) (member : ℕ) (call : Call) (rrn : ℕ) (slot : Slot) (change : OpenState → OpenState) : Type 0 where
  pub name : List ℕ
  pub cycle : CycleState
  pub named : open_named name job m ≡ Some opened
  pub jobs : new.jobs ≡ job_changed (job - 1) (changing opened.commit cycle change) m.jobs
  pub locks : new.locks ≡ locks_left call job (at_member member opened) rrn m
  pub members : new.members ≡ with_member member (slot_put rrn slot (member_of member m.members)) m.members

-- the place of a WRITE: the next one, or one that is named, where no record stands and no other job's lock is in the way
pub record IsPlaceNamed (m : Memory) (job : ℕ) (opened : OpenState) (rrn : ℕ) : Type 0 where
  pub first : 1 ≤ rrn
  pub last : rrn ≤ next_place opened.member m
  pub empty : is_some (live_record opened.member rrn m) ≡ false
  pub free : clashing WriteAt job opened rrn m ≡ None

-- through the open at a format, where it stays as it was
pub record IsWriting (m : Memory) (job : ℕ) (new : Memory) : Type 0 where
  pub opened : OpenState
  pub format : ℕ
  pub call : Call
  pub rrn : ℕ
  pub image : List ℕ
  pub change : IsChange m job new opened (at_format format opened).member call rrn (Live image) (λ o. o)
  pub place : (call ≡ Write) × (rrn ≡ next_place (at_format format opened).member m) ⊎ (call ≡ WriteAt) × IsPlaceNamed m job (at_format format opened) rrn

-- the open of this number has no current record
abbrev pub unread : ℕ → OpenState → OpenState
unread number opened = if opened.number == number then without_current opened else opened

pub record IsUpdating (m : Memory) (job : ℕ) (new : Memory) : Type 0 where
  pub opened : OpenState
  pub rrn : ℕ
  pub image : List ℕ
  pub change : IsChange m job new opened opened.member Update rrn (Live image) (unread opened.number)
  pub current : opened.current ≡ Some rrn

pub record IsDeleting (m : Memory) (job : ℕ) (new : Memory) : Type 0 where
  pub opened : OpenState
  pub rrn : ℕ
  pub change : IsChange m job new opened opened.member Delete rrn Deleted (without_record opened.member rrn)
  pub current : opened.current ≡ Some rrn

pub record IsStart (m : Memory) (job : ℕ) (new : Memory) : Type 0 where
  pub level : Level
  pub jobs : new.jobs ≡ job_changed (job - 1) (with_level (Some level)) m.jobs
  pub locks : new.locks ≡ m.locks
  pub members : new.members ≡ m.members

pub record IsEnd (m : Memory) (job : ℕ) (new : Memory) : Type 0 where
  pub jobs : new.jobs ≡ job_changed (job - 1) (with_level None) m.jobs
  pub locks : new.locks ≡ boundary_locks EndCommitment job m
  pub members : new.members ≡ m.members
  pub cycle : (job_of job m).cycle ≡ None
  pub opens : has_committed_open (job_of job m) ≡ false

pub record IsCommit (m : Memory) (job : ℕ) (new : Memory) : Type 0 where
  pub jobs : new.jobs ≡ job_changed (job - 1) (λ j. with_opens committed_open (without_cycle j)) m.jobs
  pub locks : new.locks ≡ boundary_locks Commit job m
  pub members : new.members ≡ m.members

-- what the job's open commit cycle has changed is taken back
pub record IsTakingBack (m : Memory) (job : ℕ) (new : Memory) (call : Call) (change : JobState → JobState) : Type 0 where
  pub jobs : new.jobs ≡ job_changed (job - 1) change m.jobs
  pub locks : new.locks ≡ boundary_locks call job m
  pub members : new.members ≡ (taken_back (changes_of (job_of job m).cycle) m).members

pub data Effect (m : Memory) (job : ℕ) (new : Memory) : Type 0 where
  Around : IsAround m new → Effect m job new
  Opening : IsOpening m job new → Effect m job new
  Closing : IsClosing m job new → Effect m job new
  Use : IsUse m job new → Effect m job new
  Writing : IsWriting m job new → Effect m job new
  Updating : IsUpdating m job new → Effect m job new
  Deleting : IsDeleting m job new → Effect m job new
  Start : IsStart m job new → Effect m job new
  End : IsEnd m job new → Effect m job new
  Committing : IsCommit m job new → Effect m job new
  RollingBack : IsTakingBack m job new Rollback (λ j. with_opens rolled_back_open (without_cycle j)) → Effect m job new
  EndingJob : IsTakingBack m job new EndJob ended_job → Effect m job new

-- A library stays lawful: what each call does keeps the members of files and opens there, values in their records, and locks of jobs that have begun.
use Rattle.std.proofs.Common.{◌≡◌, ℕ, ◌+◌, ◌-◌, ◌==◌, if◌then◌else◌, not, map, ◌≤◌, Bool, true, false, cond, filter, length, slice_get, List, [], ◌∷◌, ◌++◌, Option, Some, None, IsSome, Result, Ok, Err, OnErr, OnOk, subst, refl, sym, ◌∙◌, ap, arith, zero, suc}
use Rattle.std.specs.List.{AllByRecursion, list_any}
use Rattle.std.specs.Option.{option_map}
use Rattle.std.proofs.lemmas.Bool.{eqb-true}
use Rattle.member_slots.specs.declared.slot.Slot.{Slot}
use Rattle.member_slots.specs.declared.slot.Slot.TheVariants.{Live}
use Rattle.member_slots.specs.Member.{MemberState, appended, changed}
use Rattle.member_slots.specs.Members.{member_at, member_of, with_member}
use Rattle.library_steps.specs.Replay.{before_of}
use Rattle.lawful_states.specs.Owners.{Owns, has_number}
use Rattle.lawful_states.proofs.ChangeLemmas.{changed-from}
use Rattle.lawful_states.proofs.StatusLemmas.{has_number-changed_in, after-number}
use Rattle.lawful_states.specs.Statuses.{after}
use Rattle.lawful_states.specs.declared.changes.StatusChange.{StatusChange}
use Rattle.entry_codec.specs.declared.entries.Entry.{Entry}
use Rattle.library_steps.below.lock_table.specs.declared.lock.Lock.{Lock}
use Rattle.lawful_states.specs.Jobs.{HasBegun, AreOfJobs}
use Rattle.library_steps.specs.Named.{Named, named, same_name}
use Rattle.library_steps.below.library_model.specs.declared.requests.OpenFile.{OpenFile}
use Rattle.library_steps.below.lock_table.specs.declared.levels.Call.TheVariants.{Commit, EndCommitment, EndJob}
use Rattle.library_steps.specs.Lock.{is_of_group}
use Rattle.library_steps.specs.Table.{freed}
use Rattle.commit_level.specs.declared.Level.{Level}
use Rattle.commit_level.specs.declared.Level.TheVariants as levels
use Rattle.library_steps.specs.Levels.{locks_after}
use Rattle.library_steps.specs.Bases.{FileSpec}
use Rattle.library_steps.specs.State.{State, Receivers, FileState, OpenState, CycleState, JobState, empty_library, memory_of, job_of, job_changed, with_opens, status_changed, new_job, fields_of, format_in}
use Rattle.library_steps.specs.declared.limits.TheConstants.{MOST_LIBRARY_BYTES}
use Rattle.library_steps.specs.Ranges.{library_bytes}
use Rattle.library_steps.specs.Opens.{with_open, without_open, new_open}
use Rattle.library_steps.specs.SlotChange.{with_cycle}
use Rattle.library_steps.specs.Reads.{open_changed}
use Rattle.library_steps.specs.ChangeRecord.{without_current, without_record, is_current}
use Rattle.library_steps.specs.Commitment.{boundary_locks, at_boundary, committed_open, with_level, without_cycle, committed, commitment_ended}
use Rattle.library_steps.specs.Locking.{is_committed}
use Rattle.library_steps.specs.EndJob.{ended_job, job_ended}
use Rattle.library_steps.specs.Uses.{user_of}
use Rattle.lawful_states.specs.Lawful.{HoldsValues, OpenHolds, OpensHold, HasRecords, IsThere, CycleGoesBack, AllGoBack, IsLibrary, AreOne}
use Rattle.library_steps.below.record_fmt.specs.declared.formats.Field.{Field}
use Rattle.lawful_states.specs.Slots.{MayStand, weight}
use Rattle.lawful_states.proofs.MemberLemmas.{at-member_of, is_some-IsSome, IsThere-with_member, HasRecords-member_of, HasRecords-appended, HasRecords-changed, numbers-with_member, library_bytes-with, weight-appended, weight-changed, length-push, length-changed, record_length-changed}
use Rattle.lawful_states.proofs.BaseLemmas.{AreBased-each, Keeps, Keeps-status, OpenHolds-alike, OpenHolds-kept, kept-each}
use Rattle.lawful_states.proofs.BackLemmas.{AllGoBack-each, AllGoBack-with, AllGoBack-unused, GoesBack-values}

pub AllByRecursion-append : {X : Type 0} (P : X → Type 0) (xs ys : List X) → AllByRecursion P xs → AllByRecursion P ys → AllByRecursion P (xs ++ ys)
AllByRecursion-append P [] ys all more = more
AllByRecursion-append P (x ∷ xs) ys all more = (all.0, AllByRecursion-append P xs ys all.1 more)

-- ---- a library with nothing in it

pub AreOne-empty : AreOne empty_library 0
AreOne-empty = record {
  lawful = record {
    members = λ name file number owns. absurd (let there = owns.there in cc);
    bases = λ name file there. absurd cc;
    opens = tt;
    changes = tt;
    numbers = tt;
    keepers = λ k d lt. absurd (omega arith);
    few = omega arith;
  };
  counted = refl;
}

-- another journal
pub AreOne-journal : (s : State) (bytes gone : ℕ) (entries : List Entry) (receivers : Receivers) (checkpoint : ℕ) → AreOne s bytes
    → AreOne (record s { gone = gone; entries = entries; receivers = receivers; checkpoint = checkpoint }) bytes
AreOne-journal s bytes gone entries receivers checkpoint one = record {
  lawful = record {
    members = one.lawful.members;
    bases = one.lawful.bases;
    opens = one.lawful.opens;
    changes = one.lawful.changes;
    numbers = one.lawful.numbers;
    keepers = one.lawful.keepers;
    few = one.lawful.few;
  };
  counted = one.counted;
}

-- ---- jobs that begin

HasBegun-more : (count more number : ℕ) → count ≤ more → HasBegun count number → HasBegun more number
HasBegun-more count more number fewer begun = let last : number ≤ count = begun.last in record { first = begun.first; last = omega arith }

pub AreOfJobs-more : (jobs more : List JobState) (locks : List Lock) → length jobs ≤ length more → AreOfJobs jobs locks → AreOfJobs more locks
AreOfJobs-more jobs more locks fewer all = λ k d lt. HasBegun-more (length jobs) (length more) _ fewer (all k d lt)

length-more : (jobs more : List JobState) → length jobs ≤ length (jobs ++ more)
length-more [] more = omega arith
length-more (job ∷ jobs) more = let rest = length-more jobs more in omega arith

pub AreOne-new_job : (s : State) (bytes : ℕ) (name : List ℕ) → AreOne s bytes → AreOne (record s { jobs = s.jobs ++ new_job name ∷ [] }) bytes
AreOne-new_job s bytes name one = record {
  lawful = record {
    members = one.lawful.members;
    bases = one.lawful.bases;
    opens = AllByRecursion-append (OpensHold s.files) s.jobs (new_job name ∷ []) one.lawful.opens (tt, tt);
    changes = AllByRecursion-append (λ (job : JobState). CycleGoesBack s.files s.members job.cycle) s.jobs (new_job name ∷ []) one.lawful.changes (tt, tt);
    numbers = one.lawful.numbers;
    keepers = AreOfJobs-more s.jobs (s.jobs ++ new_job name ∷ []) s.locks (length-more s.jobs (new_job name ∷ [])) one.lawful.keepers;
    few = one.lawful.few;
  };
  counted = one.counted;
}

-- the jobs after one has begun, or after it hasn't
pub AreOne-begun : (s : State) (bytes : ℕ) (name : List ℕ) {A E : Type 0} (result : Result A E) (jobs : List JobState) → AreOne s bytes
    → OnOk result (jobs ≡ s.jobs ++ new_job name ∷ []) → OnErr result (jobs ≡ s.jobs) → AreOne (record s { jobs = jobs }) bytes
AreOne-begun s bytes name (Ok n) jobs one begun kept = rw begun (AreOne-new_job s bytes name one)
AreOne-begun s bytes name (Err e) jobs one begun kept = rw kept one

-- ---- changes of the jobs and of the locks

AllByRecursion-filter : {X : Type 0} (P : X → Type 0) (test : X → Bool) (xs : List X) → AllByRecursion P xs → AllByRecursion P (filter test xs)
AllByRecursion-filter P test [] all = tt
AllByRecursion-filter P test (x ∷ xs) all =
    elim (test x) as (λ b. AllByRecursion P (cond b (x ∷ filter test xs) (filter test xs))) [
      | true ↦ (all.0, AllByRecursion-filter P test xs all.1)
      | false ↦ AllByRecursion-filter P test xs all.1
    ]

AllByRecursion-job_changed : (P : JobState → Type 0) (place : ℕ) (change : JobState → JobState) (jobs : List JobState) → ((job : JobState) → P job → P (change job))
    → AllByRecursion P jobs → AllByRecursion P (job_changed place change jobs)
AllByRecursion-job_changed P place change [] each all = tt
AllByRecursion-job_changed P zero change (job ∷ jobs) each all = (each job all.0, all.1)
AllByRecursion-job_changed P (suc place) change (job ∷ jobs) each all = (all.0, AllByRecursion-job_changed P place change jobs each all.1)

length-job_changed : (place : ℕ) (change : JobState → JobState) (jobs : List JobState) → length (job_changed place change jobs) ≡ length jobs
length-job_changed place change [] = refl
length-job_changed zero change (job ∷ jobs) = refl
length-job_changed (suc place) change (job ∷ jobs) = ap (λ n. suc n) (length-job_changed place change jobs)

pub AreOne-locks : (s : State) (bytes : ℕ) (locks : List Lock) → AreOne s bytes → AreOfJobs s.jobs locks → AreOne (record s { locks = locks }) bytes
AreOne-locks s bytes locks one begun = record {
  lawful = record {
    members = one.lawful.members;
    bases = one.lawful.bases;
    opens = one.lawful.opens;
    changes = one.lawful.changes;
    numbers = one.lawful.numbers;
    keepers = begun;
    few = one.lawful.few;
  };
  counted = one.counted;
}

pub AreOne-job_changed : (s : State) (bytes place : ℕ) (change : JobState → JobState) → AreOne s bytes → ((job : JobState) → OpensHold s.files job → OpensHold s.files (change job))
    → ((job : JobState) → CycleGoesBack s.files s.members job.cycle → CycleGoesBack s.files s.members (change job).cycle)
    → AreOne (record s { jobs = job_changed place change s.jobs }) bytes
AreOne-job_changed s bytes place change one each back = record {
  lawful = record {
    members = one.lawful.members;
    bases = one.lawful.bases;
    opens = AllByRecursion-job_changed (OpensHold s.files) place change s.jobs each one.lawful.opens;
    changes = AllByRecursion-job_changed (λ (job : JobState). CycleGoesBack s.files s.members job.cycle) place change s.jobs back one.lawful.changes;
    numbers = one.lawful.numbers;
    keepers = let same = length-job_changed place change s.jobs in AreOfJobs-more s.jobs (job_changed place change s.jobs) s.locks (omega (arith, same)) one.lawful.keepers;
    few = one.lawful.few;
  };
  counted = one.counted;
}

AllByRecursion-job_at : (P : JobState → Type 0) (place : ℕ) (change : JobState → JobState) (jobs : List JobState) → ((job : JobState) → slice_get jobs place ≡ Some job → P job → P (change job))
    → AllByRecursion P jobs → AllByRecursion P (job_changed place change jobs)
AllByRecursion-job_at P place change [] each all = tt
AllByRecursion-job_at P zero change (job ∷ jobs) each all = (each job refl all.0, all.1)
AllByRecursion-job_at P (suc place) change (job ∷ jobs) each all = (all.0, AllByRecursion-job_at P place change jobs each all.1)

-- a change that keeps the opens of the one job at that place
pub AreOne-job_at : (s : State) (bytes place : ℕ) (change : JobState → JobState) → AreOne s bytes
    → ((job : JobState) → slice_get s.jobs place ≡ Some job → OpensHold s.files job → OpensHold s.files (change job))
    → ((job : JobState) → CycleGoesBack s.files s.members job.cycle → CycleGoesBack s.files s.members (change job).cycle)
    → AreOne (record s { jobs = job_changed place change s.jobs }) bytes
AreOne-job_at s bytes place change one each back = record {
  lawful = record {
    members = one.lawful.members;
    bases = one.lawful.bases;
    opens = AllByRecursion-job_at (OpensHold s.files) place change s.jobs each one.lawful.opens;
    changes = AllByRecursion-job_changed (λ (job : JobState). CycleGoesBack s.files s.members job.cycle) place change s.jobs back one.lawful.changes;
    numbers = one.lawful.numbers;
    keepers = let same = length-job_changed place change s.jobs in AreOfJobs-more s.jobs (job_changed place change s.jobs) s.locks (omega (arith, same)) one.lawful.keepers;
    few = one.lawful.few;
  };
  counted = one.counted;
}

-- one change more in the commit cycle of a job
pub AreOne-noted : (s : State) (bytes place : ℕ) (cycle : CycleState) → AreOne s bytes → CycleGoesBack s.files s.members (Some cycle)
    → AreOne (record s { jobs = job_changed place (with_cycle cycle) s.jobs }) bytes
AreOne-noted s bytes place cycle one back = AreOne-job_changed s bytes place (with_cycle cycle) one (λ job holds. holds) (λ job was. back)

-- a job that has ended has no opens
pub AreOne-ended : (s : State) (bytes place : ℕ) (locks : List Lock) → AreOne s bytes → AreOfJobs s.jobs locks → AreOne (record s { jobs = job_changed place ended_job s.jobs; locks = locks }) bytes
AreOne-ended s bytes place locks one begun = AreOne-job_changed (record s { locks = locks }) bytes place ended_job (AreOne-locks s bytes locks one begun) (λ job holds. tt) (λ job back. tt)

-- one open more, whose file and members are there
pub AreOne-with_open : (s : State) (bytes place : ℕ) (args : OpenFile) (members : List ℕ) → AreOne s bytes → OpenHolds s.files (new_open args 0 members)
    → AreOne (record s { jobs = job_changed place (with_open args members) s.jobs }) bytes
AreOne-with_open s bytes place args members one holds =
    AreOne-job_changed s bytes place (with_open args members) one
    (λ job all. AllByRecursion-append (λ (e : List ℕ × OpenState). OpenHolds s.files e.1) job.opens ((args.open_id, new_open args (job.opened + 1) members) ∷ []) all
    (OpenHolds-alike s.files (new_open args 0 members) (new_open args (job.opened + 1) members) refl refl refl refl holds, tt))
    (λ job back. back)

-- one open less
pub AreOne-without_open : (s : State) (bytes place : ℕ) (name : List ℕ) → AreOne s bytes → AreOne (record s { jobs = job_changed place (without_open name) s.jobs }) bytes
AreOne-without_open s bytes place name one =
    AreOne-job_changed s bytes place (without_open name) one
    (λ job all. AllByRecursion-filter (λ (e : List ℕ × OpenState). OpenHolds s.files e.1) (λ (e : List ℕ × OpenState). not (same_name name e.0)) job.opens all)
    (λ job back. back)

pub opens-map : (files : Named FileState) (change : OpenState → OpenState) → ((opened : OpenState) → OpenHolds files opened → OpenHolds files (change opened)) → (opens : Named OpenState)
    → AllByRecursion (λ (e : List ℕ × OpenState). OpenHolds files e.1) opens
    → AllByRecursion (λ (e : List ℕ × OpenState). OpenHolds files e.1) (map (λ entry. (entry.0, change entry.1)) opens)
opens-map files change each [] all = tt
opens-map files change each (entry ∷ opens) all = (each entry.1 all.0, opens-map files change each opens all.1)

pub AreOne-with_opens : (s : State) (bytes place : ℕ) (change : OpenState → OpenState) → AreOne s bytes → ((opened : OpenState) → OpenHolds s.files opened → OpenHolds s.files (change opened))
    → AreOne (record s { jobs = job_changed place (with_opens change) s.jobs }) bytes
AreOne-with_opens s bytes place change one each = AreOne-job_changed s bytes place (with_opens change) one (λ job all. opens-map s.files change each job.opens all) (λ job back. back)

-- the open of one number changed, but for its file and member
pub AreOne-open_changed : (s : State) (bytes place number : ℕ) (change : OpenState → OpenState) → AreOne s bytes → ((opened : OpenState) → OpenHolds s.files opened → OpenHolds s.files (change opened))
    → AreOne (record s { jobs = job_changed place (open_changed number change) s.jobs }) bytes
AreOne-open_changed s bytes place number change one each =
    AreOne-with_opens s bytes place (λ opened. if opened.number == number then change opened else opened) one
    (λ opened holds. elim (opened.number == number) as (λ b. OpenHolds s.files (if b then change opened else opened)) [ true ↦ each opened holds | false ↦ holds ])

-- what a change of the open of one number keeps of it, for each of these opens
abbrev pub KeepsOpens : Named FileState → (number : ℕ) → (OpenState → OpenState) → Named OpenState → Type 0
KeepsOpens files number change opens = AllByRecursion (λ entry. entry.1.number ≡ number → OpenHolds files entry.1 → OpenHolds files (change entry.1)) opens

opens-at : (files : Named FileState) (number : ℕ) (change : OpenState → OpenState) (opens : Named OpenState) → KeepsOpens files number change opens
    → AllByRecursion (λ (e : List ℕ × OpenState). OpenHolds files e.1) opens
    → AllByRecursion (λ (e : List ℕ × OpenState). OpenHolds files e.1) (map (λ entry. (entry.0, if entry.1.number == number then change entry.1 else entry.1)) opens)
opens-at files number change [] each all = tt
opens-at files number change (entry ∷ opens) each all = (
  elim (entry.1.number == number) as (λ b. entry.1.number == number ≡ b → OpenHolds files (if b then change entry.1 else entry.1)) [
    | true ↦ λ same. each.0 (eqb-true entry.1.number number same) all.0
    | false ↦ λ other. all.0
  ] refl,
  opens-at files number change opens each.1 all.1,
)

-- the open of one number changed, which keeps what it is for the opens that the job has
pub AreOne-open_at : (s : State) (bytes place number : ℕ) (change : OpenState → OpenState) → AreOne s bytes
    → ((job : JobState) → slice_get s.jobs place ≡ Some job → KeepsOpens s.files number change job.opens)
    → AreOne (record s { jobs = job_changed place (open_changed number change) s.jobs }) bytes
AreOne-open_at s bytes place number change one each =
    AreOne-job_at s bytes place (open_changed number change) one (λ job here all. opens-at s.files number change job.opens (each job here) all) (λ job back. back)

-- the current record of opens given up
pub AreOne-without_record : (s : State) (bytes place member rrn : ℕ) → AreOne s bytes → AreOne (record s { jobs = job_changed place (with_opens (without_record member rrn)) s.jobs }) bytes
AreOne-without_record s bytes place member rrn one =
    AreOne-with_opens s bytes place (without_record member rrn) one
    (λ opened holds. elim (is_current member rrn opened) as (λ b. OpenHolds s.files (if b then without_current opened else opened)) [
      | true ↦ OpenHolds-alike s.files opened (without_current opened) refl refl refl refl holds
      | false ↦ holds
    ])

-- the end of a job that has changed nothing since its boundary
pub ended-memory : (s : State) (job : ℕ) (locks : List Lock) (jobs : List JobState) → (job_of job (memory_of s)).cycle ≡ None → locks ≡ boundary_locks EndJob job (memory_of s)
    → jobs ≡ job_changed (job - 1) ended_job s.jobs → memory_of (record s { locks = locks; jobs = jobs }) ≡ job_ended job (memory_of s)
ended-memory s job locks jobs none left ended = rw (none, left, ended) refl

-- ---- a member changed

pub AreOne-with_member : (s : State) (bytes after number : ℕ) (member : MemberState) → AreOne s bytes → ((name : List ℕ) (file : FileState) → Owns s.files name file number
    → HasRecords (fields_of file) member)
    → after ≡ library_bytes (with_member number member s.members) → library_bytes (with_member number member s.members) ≤ MOST_LIBRARY_BYTES
    → AllGoBack s.files (with_member number member s.members) s.jobs
    → AreOne (record s { members = with_member number member s.members }) after
AreOne-with_member s bytes after number member one kept counted few back = record {
  lawful = record {
    members = λ name file other owns. IsThere-with_member (fields_of file) s.members other number member (one.lawful.members name file other owns) (λ same. kept name file (subst
        (Owns s.files name file) same owns));
    bases = one.lawful.bases;
    opens = one.lawful.opens;
    changes = back;
    numbers = numbers-with_member s.members number s.next_member member one.lawful.numbers;
    keepers = one.lawful.keepers;
    few = few;
  };
  counted = counted;
}

-- one record more
pub AreOne-appended : (s : State) (bytes length number : ℕ) (image : List ℕ) → AreOne s bytes → IsSome (member_at number s.members) → MayStand s number (Live image)
    → length ≡ (member_of number s.members).record_length → library_bytes s.members + length ≤ MOST_LIBRARY_BYTES
    → AreOne (record s { members = with_member number (appended (member_of number s.members) image) s.members }) (bytes + length)
AreOne-appended s bytes length number image one there values long few =
    let member = member_of number s.members in
    let here : member_at number s.members ≡ Some member = at-member_of number s.members (is_some-IsSome (member_at number s.members) there) in
    let after = library_bytes-with number member (appended member image) s.members here in
    let weighs = weight-appended member image in
    let counted = one.counted in
    AreOne-with_member s bytes (bytes + length) number (appended member image) one
    (λ name file owns. HasRecords-appended (fields_of file) member image (HasRecords-member_of (fields_of file) number s.members (one.lawful.members name file number owns)) (values name file owns))
    (omega (arith, after, weighs, counted, long)) (omega (arith, after, weighs, long, few))
    (AllGoBack-with s.files s.members number (appended member image) s.jobs refl (let more = length-push member.slots (Live image) in omega (arith, more)) one.lawful.changes)

-- another slot
pub AreOne-changed : (s : State) (bytes number rrn : ℕ) (slot : Slot) → AreOne s bytes → IsSome (member_at number s.members) → MayStand s number slot
    → AreOne (record s { members = with_member number (changed (member_of number s.members) rrn slot) s.members }) bytes
AreOne-changed s bytes number rrn slot one there values =
    let member = member_of number s.members in
    let here : member_at number s.members ≡ Some member = at-member_of number s.members (is_some-IsSome (member_at number s.members) there) in
    let after = library_bytes-with number member (changed member rrn slot) s.members here in
    let weighs = weight-changed member rrn slot in
    let counted = one.counted in
    let few = one.lawful.few in
    AreOne-with_member s bytes bytes number (changed member rrn slot) one
    (λ name file owns. HasRecords-changed (fields_of file) member rrn slot (HasRecords-member_of (fields_of file) number s.members (one.lawful.members name file number owns)) (values name file owns))
    (omega (arith, after, weighs, counted)) (omega (arith, after, weighs, few))
    (AllGoBack-with s.files s.members number (changed member rrn slot) s.jobs (record_length-changed member rrn slot) (let same = length-changed member rrn slot in omega (arith, same)) one.lawful.changes)

-- no slots, or only those with records
pub AreOne-slots : (s : State) (bytes after number : ℕ) (change : MemberState → MemberState) → AreOne s bytes → IsSome (member_at number s.members)
    → ((fields : List Field) (member : MemberState) → HasRecords fields member → HasRecords fields (change member)) → weight (change (member_of number s.members)) ≤ weight (member_of number s.members)
    → after + weight (member_of number s.members) ≡ bytes + weight (change (member_of number s.members)) → user_of number (memory_of s) ≡ None
    → AreOne (record s { members = with_member number (change (member_of number s.members)) s.members }) after
AreOne-slots s bytes after number change one there kept fewer is unused =
    let member = member_of number s.members in
    let here : member_at number s.members ≡ Some member = at-member_of number s.members (is_some-IsSome (member_at number s.members) there) in
    let sum = library_bytes-with number member (change member) s.members here in
    let counted = one.counted in
    let few = one.lawful.few in
    AreOne-with_member s bytes after number (change member) one
    (λ name file owns. kept (fields_of file) member (HasRecords-member_of (fields_of file) number s.members (one.lawful.members name file number owns)))
    (omega (arith, sum, counted, is)) (omega (arith, sum, fewer, few))
    (AllGoBack-unused s.files s.members number (change member) s.locks s.jobs unused one.lawful.changes)

-- ---- the files changed, but for their fields and their members' numbers

named-map : (change : FileState → FileState) (name : List ℕ) (files : Named FileState) → named name (map (λ entry. (entry.0, change entry.1)) files) ≡ option_map change (named name files)
named-map change name [] = refl
named-map change name (entry ∷ files) =
    elim (same_name name entry.0) as (λ b. cond b (Some (change entry.1)) (named name (map (λ e. (e.0, change e.1)) files)) ≡ option_map change (cond b (Some entry.1) (named name files))) [
      | true ↦ refl
      | false ↦ named-map change name files
    ]

opens-each : (files others : Named FileState) → ((opened : OpenState) → OpenHolds files opened → OpenHolds others opened) → (opens : Named OpenState)
    → AllByRecursion (λ (e : List ℕ × OpenState). OpenHolds files e.1) opens
    → AllByRecursion (λ (e : List ℕ × OpenState). OpenHolds others e.1) opens
opens-each files others each [] all = tt
opens-each files others each (entry ∷ opens) all = (each entry.1 all.0, opens-each files others each opens all.1)

pub jobs-each : (files others : Named FileState) → ((opened : OpenState) → OpenHolds files opened → OpenHolds others opened) → (jobs : List JobState)
    → AllByRecursion (OpensHold files) jobs → AllByRecursion (OpensHold others) jobs
jobs-each files others each [] all = tt
jobs-each files others each (job ∷ jobs) all = (opens-each files others each job.opens all.0, jobs-each files others each jobs all.1)

module _ (change : FileState → FileState) (keeps : (file : FileState) → Keeps file (change file))
    (same_members : (file : FileState) (number : ℕ) → has_number number (change file).members ≡ has_number number file.members) where
  same_fields : (file : FileState) → fields_of (change file) ≡ fields_of file
  same_fields file = ap (λ (spec : FileSpec). (format_in spec).fields) (keeps file).spec

  IsThere-changed : (s : State) (name : List ℕ) (file : FileState) (number : ℕ) → IsLibrary s → (was : (before : FileState) × (named name s.files ≡ Some before) × (change before ≡ file))
      → has_number number file.members ≡ true
      → IsThere (fields_of file) (member_at number s.members)
  IsThere-changed s name file number lawful was has =
      let before_has : has_number number was.0.members ≡ true = sym (same_members was.0 number) ∙ ap (λ (f : FileState). has_number number f.members) was.2 ∙ has in
      let there = lawful.members name was.0 number (record { there = was.1; has = before_has }) in
      let fields : fields_of was.0 ≡ fields_of file = sym (same_fields was.0) ∙ ap fields_of was.2 in
      subst (λ fs. IsThere fs (member_at number s.members)) fields there

  HoldsValues-changed : (s : State) (name : List ℕ) (file : FileState) (number : ℕ) (slot : Slot)
      → ((before : List ℕ) (its : FileState) → Owns s.files before its number → HoldsValues (fields_of its) slot)
      → (was : (before : FileState) × (named name s.files ≡ Some before) × (change before ≡ file)) → has_number number file.members ≡ true → HoldsValues (fields_of file) slot
  HoldsValues-changed s name file number slot values was has =
      let before_has : has_number number was.0.members ≡ true = sym (same_members was.0 number) ∙ ap (λ (f : FileState). has_number number f.members) was.2 ∙ has in
      let fields : fields_of was.0 ≡ fields_of file = sym (same_fields was.0) ∙ ap fields_of was.2 in
      subst (λ fs. HoldsValues fs slot) fields (values name was.0 (record { there = was.1; has = before_has }))

  pub AreOne-files : (s : State) (bytes : ℕ) → AreOne s bytes → AreOne (record s { files = map (λ entry. (entry.0, change entry.1)) s.files }) bytes
  AreOne-files s bytes one = record {
    lawful = record {
      members = λ name file number owns. IsThere-changed s name file number one.lawful (changed-from change (named name s.files) file (sym (named-map change name s.files) ∙ owns.there)) owns.has;
      bases = AreBased-each change keeps s.files one.lawful.bases;
      opens = jobs-each s.files (map (λ entry. (entry.0, change entry.1)) s.files)
          (OpenHolds-kept s.files (map (λ entry. (entry.0, change entry.1)) s.files) one.lawful.bases (kept-each change keeps s.files)) s.jobs one.lawful.opens;
      changes = AllGoBack-each s.files (map (λ entry. (entry.0, change entry.1)) s.files) s.members s.members
          (λ sequence undo back. GoesBack-values s.files (map (λ entry. (entry.0, change entry.1)) s.files) s.members sequence undo
          (λ name file owns. HoldsValues-changed s name file undo.member (before_of undo.change) back.values (changed-from change (named name s.files) file
          (sym (named-map change name s.files) ∙ owns.there)) owns.has) back)
          s.jobs one.lawful.changes;
      numbers = one.lawful.numbers;
      keepers = one.lawful.keepers;
      few = one.lawful.few;
    };
    counted = one.counted;
  }

-- the status of a member changed
pub AreOne-status : (s : State) (bytes number : ℕ) (change : StatusChange) → AreOne s bytes
    → AreOne (record s { files = map (λ entry. (entry.0, status_changed number (after change) entry.1)) s.files }) bytes
AreOne-status s bytes number change one =
    AreOne-files (status_changed number (after change)) (Keeps-status number (after change) (after-number change)) (λ file other. has_number-changed_in other number (after change) file.members (after-number change)) s bytes one

-- the jobs and the locks after a COMMIT
pub AreOne-committed : (s : State) (bytes place : ℕ) (locks : List Lock) → AreOne s bytes → AreOfJobs s.jobs locks
    → AreOne (record s { jobs = job_changed place (λ j. with_opens committed_open (without_cycle j)) s.jobs; locks = locks }) bytes
AreOne-committed s bytes place locks one begun =
    AreOne-job_changed (record s { locks = locks }) bytes place (λ j. with_opens committed_open (without_cycle j)) (AreOne-locks s bytes locks one begun)
    (λ job all. opens-map s.files committed_open
    (λ opened holds. elim opened.commit as (λ b. OpenHolds s.files (if b then at_boundary opened else opened)) [
      | true ↦ OpenHolds-alike s.files opened (at_boundary opened) refl refl refl refl holds
      | false ↦ holds
    ]) job.opens all)
    (λ job back. tt)

pub committed-memory : (s : State) (job : ℕ) (locks : List Lock) (jobs : List JobState) (numbers : List ℕ) → ((n : ℕ) → list_any (λ o. o == n) numbers ≡ is_committed (job_of job (memory_of s)) n)
    → locks ≡ locks_after Commit (job_of job (memory_of s)).level (record { job = job; opened = 0 }) (record { member = 0; rrn = 0 }) (λ n. list_any (λ o. o == n) numbers) s.locks
    → jobs ≡ job_changed (job - 1) (λ j. with_opens committed_open (without_cycle j)) s.jobs → memory_of (record s { locks = locks; jobs = jobs }) ≡ committed job (memory_of s)
committed-memory s job locks jobs numbers same left ended =
    let freed : locks ≡ boundary_locks Commit job (memory_of s) =
    left ∙ (λ i. locks_after Commit (job_of job (memory_of s)).level (record { job = job; opened = 0 }) (record { member = 0; rrn = 0 }) (λ n. same n i) s.locks) in
    rw (freed, ended) refl

-- the jobs and the locks after commitment control has ended
pub AreOne-commitment_ended : (s : State) (bytes place : ℕ) (locks : List Lock) → AreOne s bytes → AreOfJobs s.jobs locks
    → AreOne (record s { jobs = job_changed place (with_level None) s.jobs; locks = locks }) bytes
AreOne-commitment_ended s bytes place locks one begun = AreOne-job_changed (record s { locks = locks }) bytes place (with_level None) (AreOne-locks s bytes locks one begun) (λ job holds. holds) (λ job back. back)

-- whatever its level was, its boundary locks go
group-freed : (level : Option Level) (job : ℕ) (is_committed : ℕ → Bool) (held : List Lock)
    → locks_after EndCommitment level (record { job = job; opened = 0 }) (record { member = 0; rrn = 0 }) is_committed held ≡ freed (is_of_group job) held
group-freed None job is_committed held = refl
group-freed (Some levels.Chg) job is_committed held = refl
group-freed (Some levels.Cs) job is_committed held = refl
group-freed (Some levels.All) job is_committed held = refl

pub commitment-memory : (s : State) (job : ℕ) → memory_of (record s {
  locks = freed (is_of_group job) s.locks;
  jobs = job_changed (job - 1)
      (with_level None) s.jobs;
}) ≡ commitment_ended job (memory_of s)
commitment-memory s job = rw (group-freed (job_of job (memory_of s)).level job (is_committed (job_of job (memory_of s))) s.locks) refl

-- Jobs that begin leave a sound library in which none had begun sound: without a job it has no lock, and a job that has done nothing owes nothing.
use Rattle.std.proofs.Common.{◌≡◌, ℕ, zero, suc, ◌+◌, ◌-◌, ◌==◌, if◌then◌else◌, Bool, true, false, IsSome, List, [], ◌∷◌, ◌++◌, map, Some, None, slice_get, refl, sym, ◌∙◌, ap, subst, arith}
use Rattle.std.specs.List.{AllByRecursion}
use Rattle.std.proofs.lemmas.Option.{slice_get_past}
use Rattle.library_model.specs.Named.{Named}
use Rattle.lock_table.specs.declared.lock.Lock.{Lock}
use Rattle.lock_table.specs.Lock.{is_open}
use Rattle.member_slots.specs.Members.{NumberedMembers}
use Rattle.library_steps.specs.State.{State, FileState, JobState, Memory, begun, job_at, job_of, memory_of, new_job, or_new}
use Rattle.joint_state.specs.Lawful.{OpensHold, AllGoBack}
use Rattle.joint_state.specs.Jobs.{AreOfJobs}
use Rattle.joint_state.specs.Joint.{JobStands}
use Rattle.joint_state.specs.Locks.{LockStands, HasOpenOf}
use Rattle.joint_state.specs.Agreed.{StaysJournaled}
use Rattle.joint_state.specs.Sound.{IsSound}

-- ---- jobs that have done nothing

opens-new : (files : Named FileState) (names : List (List ℕ)) → AllByRecursion (OpensHold files) (map new_job names)
opens-new files [] = tt
opens-new files (name ∷ names) = (tt, opens-new files names)

back-new : (files : Named FileState) (members : NumberedMembers) (names : List (List ℕ)) → AllGoBack files members (map new_job names)
back-new files members [] = tt
back-new files members (name ∷ names) = (tt, back-new files members names)

job-new : (names : List (List ℕ)) (place : ℕ) (job : JobState) → slice_get (map new_job names) place ≡ Some job → (name : List ℕ) × (new_job name ≡ job)
job-new [] place job there = absurd cc
job-new (name ∷ names) zero job there = (name, let e : new_job name ≡ job = cc in e)
job-new (name ∷ names) (suc place) job there = job-new names place job there

stands-new : (s : State) (number : ℕ) (name : List ℕ) → JobStands s number (new_job name)
stands-new s number name = record {
  idle = record { opens = λ ended. refl; level = λ ended. refl };
  control = record { cycle = λ none. refl; opens = λ none. tt };
  opens = record { apart = tt; counted = tt };
  journaled = tt;
  begun = tt;
  current = tt;
  locked = tt;
  made = tt;
}

journaled-new : (files : Named FileState) (names : List (List ℕ)) → AllByRecursion (StaysJournaled files) (map new_job names)
journaled-new files [] = tt
journaled-new files (name ∷ names) = (record { opens = tt; changes = tt }, journaled-new files names)

-- ---- no job, no lock

none-at : (number : ℕ) (jobs : List JobState) → jobs ≡ [] → or_new (job_at number jobs) ≡ new_job []
none-at number jobs none = ap (λ (js : List JobState). or_new (job_at number js)) none ∙ by (number == 0)
  where
    by : (b : Bool) → or_new (if b then None else slice_get [] (number - 1)) ≡ new_job []
    by true = refl
    by false = ap or_new (slice_get_past [] (number - 1) (omega arith))

-- a lock is held through an open, or kept by a job that is under commitment control
no-lock : (m : Memory) (lock : Lock) → m.jobs ≡ [] → LockStands m lock → ⊥
no-lock m lock none stands = by (is_open lock.reach) refl
  where
    job_is : job_of lock.job m ≡ new_job []
    job_is = none-at lock.job m.jobs none

    by : (b : Bool) → is_open lock.reach ≡ b → ⊥
    by true opened = let held = subst (λ (j : JobState). HasOpenOf j lock) job_is (stands.opened opened) in absurd cc
    by false kept = let started = subst (λ (j : JobState). IsSome j.level) job_is (stands.started kept) in absurd cc

no-locks : (m : Memory) (locks : List Lock) → m.jobs ≡ [] → AllByRecursion (LockStands m) locks → locks ≡ []
no-locks m [] none all = refl
no-locks m (lock ∷ locks) none all = absurd (no-lock m lock none all.0)

-- ---- the library with the jobs

module _ (s : State) (names : List (List ℕ)) (sound : IsSound s) (none : s.jobs ≡ []) where
  abbrev jobs : List JobState
  jobs = map new_job names

  abbrev later : State
  later = record s { jobs = jobs }

  free : s.locks ≡ []
  free = no-locks (memory_of s) s.locks none sound.joint.locks

  later-sound : IsSound later
  later-sound = record {
    library = record {
      members = sound.library.members;
      bases = sound.library.bases;
      opens = opens-new s.files names;
      changes = back-new s.files s.members names;
      numbers = sound.library.numbers;
      keepers = subst (λ (locks : List Lock). AreOfJobs jobs locks) (sym free) (λ k d lt. absurd (omega arith));
      few = sound.library.few;
    };
    apart = sound.apart;
    names = sound.names;
    numbered = sound.numbered;
    formats = sound.formats;
    views = sound.views;
    defaults = sound.defaults;
    within = sound.within;
    joint = record {
      compatible = sound.joint.compatible;
      locks = subst (λ (locks : List Lock). AllByRecursion (LockStands (memory_of later)) locks) (sym free) tt;
      jobs = λ place job there. let new = job-new names place job there in
          subst (λ (j : JobState). JobStands later (place + 1) j) new.1 (stands-new later (place + 1) new.0);
      told = record { records = sound.joint.told.records; members = sound.joint.told.members };
    };
    agreed = record {
      chained = sound.agreed.chained;
      told = λ member place there. let is = sound.agreed.told member place there in record { so = is.so; silent = is.silent };
      committed = journaled-new s.files names;
    };
  }

  pub begun-sound : IsSound (begun s names)
  begun-sound = subst (λ (js : List JobState). IsSound (record s { jobs = js ++ jobs })) (sym none) later-sound

-- A sound library is sound once one more job has begun, which has done nothing.
use Rattle.std.proofs.Common.{◌≡◌, ◌⊎◌, inl, inr, ℕ, zero, suc, ◌+◌, ◌-◌, ◌==◌, true, false, if◌then◌else◌, Option, Some, None, IsSome, List, [], ◌∷◌, ◌++◌, slice_get, refl, sym, subst}
use Rattle.std.specs.List.{AllByRecursion}
use Rattle.lock_table.specs.declared.lock.Lock.{Lock}
use Rattle.lawful_states.proofs.LawfulLemmas.{AllByRecursion-append, AreOne-new_job}
use Rattle.library_steps.specs.Ranges.{library_bytes}
use Rattle.library_steps.specs.State.{JobState, OpenState, State, begun, job_at, memory_of, new_job, or_new}
use Rattle.record_changes.specs.Agreed.{StaysJournaled}
use Rattle.record_changes.specs.CurrentRecords.{AllCurrentStand, CurrentStands}
use Rattle.record_changes.specs.Joint.{IsJoint, JobStands}
use Rattle.record_changes.specs.JointStateLocks.{HasOpenOf, LockStands}
use Rattle.record_changes.specs.Sound.{IsSound}

each-so : {X : Type 0} (P Q : X → Type 0) (xs : List X) → ((x : X) → P x → Q x) → AllByRecursion P xs → AllByRecursion Q xs
each-so P Q [] so all = tt
each-so P Q (x ∷ xs) so all = (so x all.0, each-so P Q xs so all.1)

-- ---- the jobs by their places

there-more : (jobs more : List JobState) (k : ℕ) (job : JobState) → slice_get jobs k ≡ Some job → slice_get (jobs ++ more) k ≡ Some job
there-more [] more k job there = absurd cc
there-more (j ∷ jobs) more zero job there = there
there-more (j ∷ jobs) more (suc k) job there = there-more jobs more k job there

at-more : (number : ℕ) (jobs more : List JobState) (job : JobState) → job_at number jobs ≡ Some job → job_at number (jobs ++ more) ≡ Some job
at-more number jobs more job =
    elim (number == 0) as (λ b. (if b then None else slice_get jobs (number - 1)) ≡ Some job → (if b then None else slice_get (jobs ++ more) (number - 1)) ≡ Some job) [
      | true ↦ λ there. there
      | false ↦ λ there. there-more jobs more (number - 1) job there
    ]

there-split : (jobs : List JobState) (new : JobState) (k : ℕ) (job : JobState) → slice_get (jobs ++ new ∷ []) k ≡ Some job → (slice_get jobs k ≡ Some job) ⊎ (new ≡ job)
there-split [] new zero job there = inr (let e : new ≡ job = cc in e)
there-split [] new (suc k) job there = absurd cc
there-split (j ∷ jobs) new zero job there = inl there
there-split (j ∷ jobs) new (suc k) job there = there-split jobs new k job there

-- what holds of a job with this number, and of none that has done nothing, holds of it still
holds-more : (number : ℕ) (jobs more : List JobState) (P : JobState → Type 0) → (P (new_job []) → ⊥) → P (or_new (job_at number jobs)) → P (or_new (job_at number (jobs ++ more)))
holds-more number jobs more P none here = by (job_at number jobs) refl here
  where
    by : (found : Option JobState) → job_at number jobs ≡ found → P (or_new found) → P (or_new (job_at number (jobs ++ more)))
    by None is here = absurd (none here)
    by (Some job) is here = subst (λ (o : Option JobState). P (or_new o)) (sym (at-more number jobs more job is)) here

no-open : (lock : Lock) → HasOpenOf (new_job []) lock → ⊥
no-open lock here = absurd cc

no-level : IsSome (new_job []).level → ⊥
no-level here = absurd cc

module _ (s : State) (name : List ℕ) where
  abbrev next : State
  next = begun s (name ∷ [])

  lock-begun : (lock : Lock) → LockStands (memory_of s) lock → LockStands (memory_of next) lock
  lock-begun lock stands = record {
    counted = stands.counted;
    there = stands.there;
    opened = λ opens. holds-more lock.job s.jobs (new_job name ∷ []) (λ (job : JobState). HasOpenOf job lock) (no-open lock) (stands.opened opens);
    started = λ kept. holds-more lock.job s.jobs (new_job name ∷ []) (λ (job : JobState). IsSome job.level) no-level (stands.started kept);
  }

  current-begun : (number : ℕ) (job : JobState) → AllCurrentStand (memory_of s) number job → AllCurrentStand (memory_of next) number job
  current-begun number job all =
      each-so (λ (entry : List ℕ × OpenState). (rrn : ℕ) → entry.1.current ≡ Some rrn → CurrentStands (memory_of s) number entry.1 rrn)
      (λ (entry : List ℕ × OpenState). (rrn : ℕ) → entry.1.current ≡ Some rrn → CurrentStands (memory_of next) number entry.1 rrn) job.opens
      (λ entry each rrn is. record { live = (each rrn is).live; locked = (each rrn is).locked }) all

  job-begun : (number : ℕ) (job : JobState) → JobStands s number job → JobStands next number job
  job-begun number job stands = record {
    idle = stands.idle;
    control = stands.control;
    opens = stands.opens;
    journaled = stands.journaled;
    begun = stands.begun;
    current = current-begun number job stands.current;
    locked = stands.locked;
    made = stands.made;
  }

  job-new : (number : ℕ) → JobStands next number (new_job name)
  job-new number = record {
    idle = record { opens = λ ended. refl; level = λ ended. refl };
    control = record { cycle = λ none. refl; opens = λ none. tt };
    opens = record { apart = tt; counted = tt };
    journaled = tt;
    begun = tt;
    current = tt;
    locked = tt;
    made = tt;
  }

  joint-begun : IsJoint s → IsJoint next
  joint-begun joint = record {
    compatible = joint.compatible;
    locks = each-so (LockStands (memory_of s)) (LockStands (memory_of next)) s.locks lock-begun joint.locks;
    jobs = λ place job there. elim (there-split s.jobs (new_job name) place job there) [
      | inl old ↦ job-begun (place + 1) job (joint.jobs place job old)
      | inr same ↦ subst (λ (j : JobState). JobStands next (place + 1) j) same (job-new (place + 1))
    ];
    told = record { records = joint.told.records; members = joint.told.members };
  }

  pub begun-sound : IsSound s → IsSound next
  begun-sound sound = record {
    library = (AreOne-new_job s (library_bytes s.members) name (record { lawful = sound.library; counted = refl })).lawful;
    apart = sound.apart;
    names = sound.names;
    numbered = sound.numbered;
    formats = sound.formats;
    views = sound.views;
    defaults = sound.defaults;
    within = sound.within;
    joint = joint-begun sound.joint;
    agreed = record {
      chained = sound.agreed.chained;
      told = λ member place there. let its = sound.agreed.told member place there in record { so = its.so; silent = its.silent };
      committed = AllByRecursion-append (StaysJournaled s.files) s.jobs (new_job name ∷ []) sound.agreed.committed (record { opens = tt; changes = tt }, tt);
    };
  }

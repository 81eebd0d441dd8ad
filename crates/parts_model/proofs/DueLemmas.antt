-- What changes of one job make of the entries that the boundaries of all jobs may still deposit.
use Rattle.std.proofs.Common.{◌≡◌, ℕ, zero, suc, ◌+◌, ◌-◌, ◌*◌, ◌<◌, ◌≤◌, ◌==◌, if◌then◌else◌, IsTrue, Bool, true, false, List, [], ◌∷◌, ◌++◌, length, Option, Some, None, IsSome, is_some, slice_get, Result, Ok, Err, OnOk, OnErr, refl, sym, ◌∙◌, ap, arith, rules}
use Rattle.std.specs.Option.{option_map}
use Rattle.commit_level.specs.declared.Level.{Level}
use Rattle.memory_journal.specs.declared.journal.TheConstants.{LAST_NUMBER}
use Rattle.library_steps.specs.State.{CycleState, JobState, job_at, job_changed, or_new, new_job}
use Rattle.library_steps.specs.History.{is_running}
use Rattle.library_steps.specs.SlotChange.{noted}
use Rattle.library_steps.specs.Uses.{changes_in}
use Rattle.journal_model.specs.Rollback.{MemberChange}
use Rattle.lawful_states.specs.Jobs.{cycle_from}
use Rattle.parts_model.specs.Due.{cycle_due, level_due, job_due, all_due, HasDue}
use Rattle.lawful_states.proofs.LockLemmas.{running-within}

-- ---- all jobs, and one of them

kept-due : (place : ℕ) (change : JobState → JobState) (jobs : List JobState) → ((job : JobState) → job_due (change job) ≡ job_due job) → all_due (job_changed place change jobs) ≡ all_due jobs
kept-due place change [] same = refl
kept-due zero change (job ∷ jobs) same = ap (λ n. n + all_due jobs) (same job)
kept-due (suc place) change (job ∷ jobs) same = ap (λ n. job_due job + n) (kept-due place change jobs same)

changed-due : (place : ℕ) (change : JobState → JobState) (jobs : List JobState) → place < length jobs
    → all_due (job_changed place change jobs) + job_due (or_new (slice_get jobs place)) ≡ all_due jobs + job_due (change (or_new (slice_get jobs place)))
changed-due place change [] within = absurd (omega arith)
changed-due zero change (job ∷ jobs) within = omega arith
changed-due (suc place) change (job ∷ jobs) within = let rest = changed-due place change jobs (omega arith) in omega (arith, rest)

due-part : (place : ℕ) (jobs : List JobState) → job_due (or_new (slice_get jobs place)) ≤ all_due jobs
due-part place [] = omega arith
due-part zero (job ∷ jobs) = omega arith
due-part (suc place) (job ∷ jobs) = let rest = due-part place jobs in omega (arith, rest)

pushed-due : (name : List ℕ) (jobs : List JobState) → all_due (jobs ++ new_job name ∷ []) ≡ all_due jobs
pushed-due name [] = refl
pushed-due name (job ∷ jobs) = ap (λ n. job_due job + n) (pushed-due name jobs)

-- ---- a job that runs

pub job_due-changed : (jobs : List JobState) (number : ℕ) (change : JobState → JobState) → IsTrue (is_running (job_at number jobs))
    → all_due (job_changed (number - 1) change jobs) + job_due (or_new (job_at number jobs)) ≡ all_due jobs + job_due (change (or_new (job_at number jobs)))
job_due-changed jobs number change running =
    elim (number == 0) as (λ b. IsTrue (is_running (if b then None else slice_get jobs (number - 1)))
    → all_due (job_changed (number - 1) change jobs) + job_due (or_new (if b then None else slice_get jobs (number - 1)))
    ≡ all_due jobs + job_due (change (or_new (if b then None else slice_get jobs (number - 1))))) [
      | true ↦ λ h. absurd cc
      | false ↦ λ h. changed-due (number - 1) change jobs (running-within jobs (number - 1) h)
    ] running

pub job_due-part : (jobs : List JobState) (number : ℕ) → job_due (or_new (job_at number jobs)) ≤ all_due jobs
job_due-part jobs number =
    elim (number == 0) as (λ b. job_due (or_new (if b then None else slice_get jobs (number - 1))) ≤ all_due jobs) [
      | true ↦ omega arith
      | false ↦ due-part (number - 1) jobs
    ]

-- ---- what is counted

-- a change of a job that leaves its commit cycle and its level
pub HasDue-kept : (jobs : List JobState) (due room place : ℕ) (change : JobState → JobState) → ((job : JobState) → job_due (change job) ≡ job_due job) → HasDue jobs due room
    → HasDue (job_changed place change jobs) due room
HasDue-kept jobs due room place change same has = record { counted = has.counted ∙ sym (kept-due place change jobs same); fits = has.fits; few = has.few }

pub HasDue-begun : (jobs after : List JobState) (due room : ℕ) (name : List ℕ) {A E : Type 0} (result : Result A E) → HasDue jobs due room → OnOk result (after ≡ jobs ++ new_job name ∷ [])
    → OnErr result (after ≡ jobs) → HasDue after due room
HasDue-begun jobs after due room name (Ok n) has begun kept = record { counted = has.counted ∙ sym (pushed-due name jobs) ∙ ap all_due (sym begun); fits = has.fits; few = has.few }
HasDue-begun jobs after due room name (Err e) has begun kept = record { counted = has.counted ∙ ap all_due (sym kept); fits = has.fits; few = has.few }

-- more entries for a job, or fewer
pub HasDue-changed : (jobs : List JobState) (due room now left number : ℕ) (change : JobState → JobState) → IsTrue (is_running (job_at number jobs)) → HasDue jobs due room
    → now + job_due (or_new (job_at number jobs)) ≡ due + job_due (change (or_new (job_at number jobs))) → now ≤ left → now ≤ LAST_NUMBER
    → HasDue (job_changed (number - 1) change jobs) now left
HasDue-changed jobs due room now left number change running has is fits few =
    let sum = job_due-changed jobs number change running in let counted = has.counted in record { counted = omega (arith, sum, counted, is); fits = fits; few = few }

-- the entries of a change that a commit cycle keeps, with those of the cycle where it begins with the change
pub noted-due : (sequence : ℕ) (cycle : Option CycleState) (undo : MemberChange) → cycle_due (Some (noted undo (cycle_from sequence cycle))) ≡ cycle_due cycle + (if is_some cycle then 2 else 3)
noted-due sequence None undo = refl
noted-due sequence (Some cycle) undo = omega arith

-- what is made of what is there is there
pub some-mapped : {A B : Type 0} (f : A → B) (o : Option A) → is_some (option_map f o) ≡ is_some o
some-mapped f None = refl
some-mapped f (Some a) = refl

pub started-due : (level : Option Level) → IsSome level → level_due level ≡ 1
started-due None there = absurd (search rules)
started-due (Some level) there = refl

pub few-noted : (is_open : Bool) → (if is_open then 2 else 3) ≤ 3
few-noted true = omega arith
few-noted false = omega arith

pub cycle_due-changes : (cycle : Option CycleState) → 2 * length (changes_in cycle) ≤ cycle_due cycle
cycle_due-changes None = omega arith
cycle_due-changes (Some cycle) = omega arith

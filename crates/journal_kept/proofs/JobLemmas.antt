-- Jobs whose opens and commit cycle change: what they have under commitment control stays journaled.
use Rattle.std.proofs.Common.{◌≡◌, ℕ, zero, suc, ◌-◌, ◌==◌, Bool, true, false, cond, if◌then◌else◌, not, filter, map, List, [], ◌∷◌, Option, Some, None, slice_get, refl, subst}
use Rattle.std.specs.List.{AllByRecursion}
use Rattle.journal_model.specs.Rollback.{MemberChange}
use Rattle.library_model.specs.Named.{Named, named, same_name}
use Rattle.library_steps.specs.State.{FileState, OpenState, CycleState, JobState, Memory, State, job_changed, job_of, memory_of, new_job, or_new, with_opens}
use Rattle.library_steps.specs.Uses.{changes_in}
use Rattle.library_steps.specs.SlotChange.{cycle_for, noted}
use Rattle.library_steps.specs.Opens.{without_open}
use Rattle.range_histories.specs.Agreed.{AreAllJournaled, StaysJournaled, is_journaled}

-- an open under commitment is of journaled members
abbrev pub IsOpenJournaled : Named FileState → OpenState → Type 0
IsOpenJournaled files opened = opened.commit ≡ true → AreAllJournaled files opened.members

abbrev pub AreOpensJournaled : Named FileState → Named OpenState → Type 0
AreOpensJournaled files opens = AllByRecursion (λ (entry : List ℕ × OpenState). entry.1.commit ≡ true → AreAllJournaled files entry.1.members) opens

abbrev pub AreChangesJournaled : Named FileState → List MemberChange → Type 0
AreChangesJournaled files undos = AllByRecursion (λ (undo : MemberChange). is_journaled undo.member files ≡ true) undos

pub all-job_changed : (P : JobState → Type 0) (place : ℕ) (change : JobState → JobState) (jobs : List JobState) → ((job : JobState) → P job → P (change job)) → AllByRecursion P jobs
    → AllByRecursion P (job_changed place change jobs)
all-job_changed P place change [] each all = tt
all-job_changed P zero change (job ∷ jobs) each all = (each job all.0, all.1)
all-job_changed P (suc place) change (job ∷ jobs) each all = (all.0, all-job_changed P place change jobs each all.1)

pub all-filter : {X : Type 0} (P : X → Type 0) (test : X → Bool) (xs : List X) → AllByRecursion P xs → AllByRecursion P (filter test xs)
all-filter P test [] all = tt
all-filter P test (x ∷ xs) all =
    elim (test x) as (λ b. AllByRecursion P (cond b (x ∷ filter test xs) (filter test xs))) [ true ↦ (all.0, all-filter P test xs all.1) | false ↦ all-filter P test xs all.1 ]

pub all-get : {X : Type 0} (P : X → Type 0) (xs : List X) (place : ℕ) (x : X) → AllByRecursion P xs → slice_get xs place ≡ Some x → P x
all-get P [] place x all here = absurd cc
all-get P (y ∷ xs) zero x all here = let same : y ≡ x = cc in subst P same all.0
all-get P (y ∷ xs) (suc place) x all here = all-get P xs place x all.1 here

-- what holds of all jobs holds of the one with a number, or that has done nothing
pub job-of : (P : JobState → Type 0) (s : State) (number : ℕ) → AllByRecursion P s.jobs → P (new_job []) → P (job_of number (memory_of s))
job-of P s number all none =
    elim (number == 0) as (λ b. P (or_new (if b then None else slice_get s.jobs (number - 1)))) [
      | true ↦ none
      | false ↦ by (slice_get s.jobs (number - 1)) (λ job h. all-get P s.jobs (number - 1) job all h)
    ]
  where
    by : (o : Option JobState) → ((job : JobState) → o ≡ Some job → P job) → P (or_new o)
    by None each = none
    by (Some job) each = each job refl

pub all-named : {A : Type 0} (P : List ℕ × A → Type 0) (Q : A → Type 0) (name : List ℕ) (things : Named A) (x : A) → ((entry : List ℕ × A) → P entry → Q entry.1) → AllByRecursion P things
    → named name things ≡ Some x → Q x
all-named P Q name [] x each all h = absurd cc
all-named P Q name (entry ∷ things) x each all h =
    elim (same_name name entry.0) as (λ b. cond b (Some entry.1) (named name things) ≡ Some x → Q x) [
      | true ↦ λ e. let same : entry.1 ≡ x = cc in subst Q same (each entry all.0)
      | false ↦ λ e. all-named P Q name things x each all.1 e
    ] h

-- ---- changes of a job

module _ (files : Named FileState) where
  pub none-open : StaysJournaled files (new_job [])
  none-open = record { opens = tt; changes = tt }

  pub opens-changed : (change : OpenState → OpenState) → ((opened : OpenState) → IsOpenJournaled files opened → IsOpenJournaled files (change opened)) → (opens : Named OpenState)
      → AreOpensJournaled files opens → AreOpensJournaled files (map (λ entry. (entry.0, change entry.1)) opens)
  opens-changed change each [] all = tt
  opens-changed change each (entry ∷ opens) all = (each entry.1 all.0, opens-changed change each opens all.1)

  pub job-opens : (change : OpenState → OpenState) → ((opened : OpenState) → IsOpenJournaled files opened → IsOpenJournaled files (change opened)) → (job : JobState) → StaysJournaled files job
      → StaysJournaled files (with_opens change job)
  job-opens change each job are = record { opens = opens-changed change each job.opens are.opens; changes = are.changes }

  -- the open of one number
  pub job-opened : (number : ℕ) (change : OpenState → OpenState) → ((opened : OpenState) → IsOpenJournaled files opened → IsOpenJournaled files (change opened)) → (job : JobState)
      → StaysJournaled files job
      → StaysJournaled files (with_opens (λ opened. if opened.number == number then change opened else opened) job)
  job-opened number change each job are =
      job-opens (λ opened. if opened.number == number then change opened else opened)
      (λ opened holds. elim (opened.number == number) as (λ b. IsOpenJournaled files (if b then change opened else opened)) [ true ↦ each opened holds | false ↦ holds ]) job are

  pub job-without_open : (name : List ℕ) (job : JobState) → StaysJournaled files job → StaysJournaled files (without_open name job)
  job-without_open name job are = record {
    opens = all-filter (λ (entry : List ℕ × OpenState). entry.1.commit ≡ true → AreAllJournaled files entry.1.members)
        (λ (entry : List ℕ × OpenState). not (same_name name entry.0)) job.opens are.opens;
    changes = are.changes;
  }

  -- one change more in the commit cycle
  pub changes-noted : (m : Memory) (job : JobState) (undo : MemberChange) → StaysJournaled files job → is_journaled undo.member files ≡ true
      → AreChangesJournaled files (noted undo (cycle_for m job)).undos
  changes-noted m job undo are on = (on, by job.cycle are.changes) where
    by : (cycle : Option CycleState) → AreChangesJournaled files (changes_in cycle) → AreChangesJournaled files (cycle_for m (record job { cycle = cycle })).undos
    by None all = tt
    by (Some cycle) all = all

-- What a change of one job leaves of the others, and what it makes of it.
use Rattle.std.proofs.Common.{◌≡◌, ◌≢◌, inl, inr, ℕ, zero, suc, ◌+◌, ◌-◌, ◌≤◌, ◌==◌, if◌then◌else◌, Bool, true, false, not, IsTrue, List, [], ◌∷◌, Option, Some, None, slice_get, subst, refl, sym, ◌∙◌, ap, arith}
use Rattle.std.proofs.lemmas.Bool.{cases_eq}
use Rattle.std.proofs.lemmas.Bool.Decides.{nat_tests}
use Rattle.library_steps.specs.State.{Memory, JobState, job_at, job_of, job_changed, or_new}
use Rattle.library_steps.specs.History.{is_running}

-- ---- by places

pub changed-own : (place : ℕ) (change : JobState → JobState) (jobs : List JobState) (job : JobState) → slice_get jobs place ≡ Some job
    → slice_get (job_changed place change jobs) place ≡ Some (change job)
changed-own place change [] job at = absurd cc
changed-own zero change (first ∷ jobs) job at = ap (λ (o : Option JobState). if_some o) at
  where
    if_some : Option JobState → Option JobState
    if_some None = None
    if_some (Some j) = Some (change j)
changed-own (suc place) change (first ∷ jobs) job at = changed-own place change jobs job at

pub changed-other : (place other : ℕ) (change : JobState → JobState) (jobs : List JobState) → other ≢ place → slice_get (job_changed place change jobs) other ≡ slice_get jobs other
changed-other place other change [] differ = refl
changed-other zero zero change (job ∷ jobs) differ = absurd (differ refl)
changed-other zero (suc other) change (job ∷ jobs) differ = refl
changed-other (suc place) zero change (job ∷ jobs) differ = refl
changed-other (suc place) (suc other) change (job ∷ jobs) differ = changed-other place other change jobs (λ same. differ (ap (λ n. suc n) same))

pub changed-twice : (place : ℕ) (one other : JobState → JobState) (jobs : List JobState) → job_changed place one (job_changed place other jobs) ≡ job_changed place (λ job. one (other job)) jobs
changed-twice place one other [] = refl
changed-twice zero one other (job ∷ jobs) = refl
changed-twice (suc place) one other (job ∷ jobs) = ap (λ js. job ∷ js) (changed-twice place one other jobs)

pub changed-same : (place : ℕ) (jobs : List JobState) → job_changed place (λ job. job) jobs ≡ jobs
changed-same place [] = refl
changed-same zero (job ∷ jobs) = refl
changed-same (suc place) (job ∷ jobs) = ap (λ js. job ∷ js) (changed-same place jobs)

pub changed-alike : (place : ℕ) (one other : JobState → JobState) → ((job : JobState) → one job ≡ other job) → (jobs : List JobState) → job_changed place one jobs ≡ job_changed place other jobs
changed-alike place one other alike [] = refl
changed-alike zero one other alike (job ∷ jobs) = ap (λ j. j ∷ jobs) (alike job)
changed-alike (suc place) one other alike (job ∷ jobs) = ap (λ js. job ∷ js) (changed-alike place one other alike jobs)

-- ---- by numbers

pub job_at-place : (number : ℕ) (jobs : List JobState) → 1 ≤ number → job_at number jobs ≡ slice_get jobs (number - 1)
job_at-place number jobs first = let positive : (number == 0) ≡ false = grind (arith, nat_tests, first) in rw positive refl

-- the job has begun and not ended
pub record Runs (jobs : List JobState) (number : ℕ) (job : JobState) : Type 0 where
  pub first : 1 ≤ number
  pub at : slice_get jobs (number - 1) ≡ Some job
  pub goes_on : job.ended ≡ false

pub running-Runs : (jobs : List JobState) (number : ℕ) → IsTrue (is_running (job_at number jobs)) → Runs jobs number (or_new (job_at number jobs))
running-Runs jobs number running =
    elim (number == 0) as (λ b. (number == 0) ≡ b → IsTrue (is_running (if b then None else slice_get jobs (number - 1)))
    → Runs jobs number (or_new (if b then None else slice_get jobs (number - 1)))) [
      | true ↦ λ e h. absurd cc
      | false ↦ λ e h. by (slice_get jobs (number - 1)) refl (grind (arith, nat_tests, e)) h
    ] refl running
  where
    not_ended : (b : Bool) → not b ≡ true → b ≡ false
    not_ended true h = absurd cc
    not_ended false h = refl

    by : (found : Option JobState) → slice_get jobs (number - 1) ≡ found → 1 ≤ number → IsTrue (is_running found) → Runs jobs number (or_new found)
    by None is first h = absurd cc
    by (Some job) is first h = record { first = first; at = is; goes_on = not_ended job.ended h }

module _ (m new : Memory) (number : ℕ) (change : JobState → JobState) (jobs : new.jobs ≡ job_changed (number - 1) change m.jobs) (runs : Runs m.jobs number (job_of number m)) where
  pub job_of-own : job_of number new ≡ change (job_of number m)
  job_of-own =
      let at : job_at number new.jobs ≡ Some (change (job_of number m)) =
      job_at-place number new.jobs runs.first ∙ ap (λ js. slice_get js (number - 1)) jobs ∙ changed-own (number - 1) change m.jobs (job_of number m) runs.at in
      ap or_new at

  pub job_of-other : (other : ℕ) → other ≢ number → job_of other new ≡ job_of other m
  job_of-other other differ =
      elim (cases_eq other 0) [
        | inl none ↦ rw none refl
        | inr some ↦ (
            let first : 1 ≤ other = omega (arith, some) in
            let begun : 1 ≤ number = runs.first in
            let apart : (other - 1) ≢ (number - 1) = λ same. differ (omega (arith, same, first, begun)) in
            ap or_new (job_at-place other new.jobs first ∙ ap (λ js. slice_get js (other - 1)) jobs ∙ changed-other (number - 1) (other - 1) change m.jobs apart
            ∙ sym (job_at-place other m.jobs first)))
      ]

  -- what holds of the changed job, and of each other as it was
  pub each-job : (Q : ℕ → JobState → Type 0) → Q number (change (job_of number m)) → ((place : ℕ) (job : JobState) → slice_get m.jobs place ≡ Some job → place + 1 ≢ number → Q (place + 1) job)
      → (place : ℕ) (job : JobState) → slice_get new.jobs place ≡ Some job → Q (place + 1) job
  each-job Q own others place job at =
      let there : slice_get (job_changed (number - 1) change m.jobs) place ≡ Some job = ap (λ js. slice_get js place) (sym jobs) ∙ at in
      let begun : 1 ≤ number = runs.first in
      elim (cases_eq (place + 1) number) [
        | inl same ↦ (
            let back : (number - 1) ≡ place = omega (arith, same) in
            let is : Some (change (job_of number m)) ≡ Some job = sym (changed-own (number - 1) change m.jobs (job_of number m) runs.at)
            ∙ ap (slice_get (job_changed (number - 1) change m.jobs)) back ∙ there in
            let job_is : change (job_of number m) ≡ job = cc in
            subst (Q (place + 1)) job_is (subst (λ n. Q n (change (job_of number m))) (sym same) own))
        | inr differ ↦ others place job (sym (changed-other (number - 1) place change m.jobs (λ same. differ (omega (arith, same, begun)))) ∙ there) differ
      ]

-- The open commit cycles of a library after one job has changed.
use Rattle.std.proofs.Common.{◌≡◌, ◌≢◌, ◌⊎◌, inl, inr, ◌∙◌, ℕ, zero, suc, ◌-◌, ◌≤◌, ◌==◌, if◌then◌else◌, true, false, List, [], ◌∷◌, slice_get, Option, None, refl, sym, ap, arith}
use Rattle.std.specs.Option.{option_map}
use Rattle.std.proofs.lemmas.Bool.{cases_eq, eqb-true}
use Rattle.std.proofs.lemmas.Bool.Decides.{nat_tests}
use Rattle.library_steps.specs.State.{State, Memory, JobState, memory_of, job_at, job_changed, job_of, or_new}
use Rattle.library_steps.specs.Uses.{changes_in}
use Rattle.key_state.specs.Keys.{changes_by}
use Rattle.cycles_kept.proofs.JobLemmas.{IsAsking}

get-changed_other : (place : ℕ) (change : JobState → JobState) (jobs : List JobState) (at : ℕ) → at ≢ place → slice_get (job_changed place change jobs) at ≡ slice_get jobs at
get-changed_other place change [] at differ = refl
get-changed_other zero change (job ∷ jobs) zero differ = absurd (differ refl)
get-changed_other zero change (job ∷ jobs) (suc at) differ = refl
get-changed_other (suc place) change (job ∷ jobs) zero differ = refl
get-changed_other (suc place) change (job ∷ jobs) (suc at) differ = get-changed_other place change jobs at (λ same. differ (ap (λ n. suc n) same))

get-changed_same : (place : ℕ) (change : JobState → JobState) (jobs : List JobState) → slice_get (job_changed place change jobs) place ≡ option_map change (slice_get jobs place)
get-changed_same place change [] = refl
get-changed_same zero change (job ∷ jobs) = refl
get-changed_same (suc place) change (job ∷ jobs) = get-changed_same place change jobs

-- one job is changed
module _ (m new : Memory) (job : ℕ) (change : JobState → JobState) (first : 1 ≤ job) (jobs : new.jobs ≡ job_changed (job - 1) change m.jobs) where
  pub changes-others : (other : ℕ) → other ≢ job → changes_by other new ≡ changes_by other m
  changes-others other differ =
      ap (λ (js : List JobState). changes_in (or_new (job_at other js)).cycle) jobs
      ∙ elim (other == 0) as
      (λ b. (other == 0) ≡ b → changes_in (or_new (if b then None else slice_get (job_changed (job - 1) change m.jobs) (other - 1))).cycle
      ≡ changes_in (or_new (if b then None else slice_get m.jobs (other - 1))).cycle) [
        | true ↦ λ e. refl
        | false ↦ λ e.
            let counted : 1 ≤ other = grind (arith, nat_tests, e) in
            ap (λ (o : Option JobState). changes_in (or_new o).cycle) (get-changed_other (job - 1) change m.jobs (other - 1) (λ same. differ (omega (arith, same, counted, first))))
      ] refl

  pub changes-at : changes_by job new ≡ changes_in (or_new (option_map change (slice_get m.jobs (job - 1)))).cycle
  changes-at =
      ap (λ (js : List JobState). changes_in (or_new (job_at job js)).cycle) jobs
      ∙ elim (job == 0) as
      (λ b. (job == 0) ≡ b → changes_in (or_new (if b then None else slice_get (job_changed (job - 1) change m.jobs) (job - 1))).cycle
      ≡ changes_in (or_new (option_map change (slice_get m.jobs (job - 1)))).cycle) [
        | true ↦ λ e. absurd (let none : job ≡ 0 = eqb-true job 0 e in omega (arith, none, first))
        | false ↦ λ e. ap (λ (o : Option JobState). changes_in (or_new o).cycle) (get-changed_same (job - 1) change m.jobs)
      ] refl

-- one that asks
module _ (s : State) (new : Memory) (job : ℕ) (change : JobState → JobState) (asks : IsAsking s job) (jobs : new.jobs ≡ job_changed (job - 1) change s.jobs) where
  pub changes-own : changes_by job new ≡ changes_in (change (job_of job (memory_of s))).cycle
  changes-own = changes-at (memory_of s) new job change asks.first jobs ∙ ap (λ (o : Option JobState). changes_in (or_new (option_map change o)).cycle) asks.there

  -- its open commit cycle stands, or has ended
  pub changes-stay : ((changes_in (change (job_of job (memory_of s))).cycle ≡ changes_by job (memory_of s)) ⊎ (changes_in (change (job_of job (memory_of s))).cycle ≡ []))
      → (other : ℕ) → (changes_by other new ≡ changes_by other (memory_of s)) ⊎ (changes_by other new ≡ [])
  changes-stay own other =
      elim (cases_eq other job) [
        | inl same ↦ elim own [
          | inl stands ↦ inl (ap (λ (n : ℕ). changes_by n new) same ∙ changes-own ∙ stands ∙ sym (ap (λ (n : ℕ). changes_by n (memory_of s)) same))
          | inr ended ↦ inr (ap (λ (n : ℕ). changes_by n new) same ∙ changes-own ∙ ended)
        ]
        | inr differ ↦ inl (changes-others (memory_of s) new job change asks.first jobs other differ)
      ]

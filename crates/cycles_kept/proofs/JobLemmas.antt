-- The jobs of a library by their places, after one of them has changed.
use Rattle.std.proofs.Common.{◌≡◌, ◌≢◌, ◌⊎◌, inl, inr, ℕ, zero, suc, ◌+◌, ◌-◌, ◌≤◌, ◌==◌, IsTrue, if◌then◌else◌, true, false, cond, List, [], ◌∷◌, slice_get, Option, Some, None, subst, refl, sym, ap, arith}
use Rattle.std.specs.List.{AllByRecursion}
use Rattle.std.proofs.lemmas.Bool.Decides.{nat_tests}
use Rattle.joint_state.proofs.NameLemmas.{some-equal}
use Rattle.library_model.specs.Named.{Named, named, same_name}
use Rattle.library_steps.specs.State.{State, JobState, memory_of, job_at, job_of, job_changed, or_new}
use Rattle.library_steps.specs.History.{is_running}
use Rattle.joint_state.specs.Joint.{IsJoint, JobStands}

-- the job that was at the place, which is the changed one or not
pub record WasThere (place : ℕ) (change : JobState → JobState) (jobs : List JobState) (at : ℕ) (new : JobState) : Type 0 where
  pub old : JobState
  pub there : slice_get jobs at ≡ Some old
  pub which : ((at ≡ place) × (new ≡ change old)) ⊎ ((at ≢ place) × (new ≡ old))

pub was_there : (place : ℕ) (change : JobState → JobState) (jobs : List JobState) (at : ℕ) (new : JobState) → slice_get (job_changed place change jobs) at ≡ Some new
    → WasThere place change jobs at new
was_there place change [] at new here = absurd cc
was_there zero change (job ∷ jobs) zero new here = record { old = job; there = refl; which = inl (refl, some-equal (sym here)) }
was_there zero change (job ∷ jobs) (suc at) new here = record { old = new; there = here; which = inr (λ e. absurd (omega (arith, e)), refl) }
was_there (suc place) change (job ∷ jobs) zero new here = record { old = new; there = here; which = inr (λ e. absurd (omega (arith, e)), refl) }
was_there (suc place) change (job ∷ jobs) (suc at) new here =
    let rest = was_there place change jobs at new here in
    record { old = rest.old; there = rest.there; which = behind rest.old rest.which }
  where
    behind : (old : JobState) → ((at ≡ place) × (new ≡ change old)) ⊎ ((at ≢ place) × (new ≡ old)) → ((suc at ≡ suc place) × (new ≡ change old)) ⊎ ((suc at ≢ suc place) × (new ≡ old))
    behind old (inl same) = inl (ap (λ n. suc n) same.0, same.1)
    behind old (inr other) = inr (λ e. other.0 (omega (arith, e)), other.1)

pub job_changed-twice : (place : ℕ) (first second : JobState → JobState) (jobs : List JobState)
    → job_changed place second (job_changed place first jobs) ≡ job_changed place (λ j. second (first j)) jobs
job_changed-twice place first second [] = refl
job_changed-twice zero first second (job ∷ jobs) = refl
job_changed-twice (suc place) first second (job ∷ jobs) = ap (λ (rest : List JobState). job ∷ rest) (job_changed-twice place first second jobs)

pub job_changed-none : (place : ℕ) (jobs : List JobState) → job_changed place (λ j. j) jobs ≡ jobs
job_changed-none place [] = refl
job_changed-none zero (job ∷ jobs) = refl
job_changed-none (suc place) (job ∷ jobs) = ap (λ (rest : List JobState). job ∷ rest) (job_changed-none place jobs)

-- ---- the job that asks

-- it is there, and so it stands
pub record IsAsking (s : State) (job : ℕ) : Type 0 where
  pub first : 1 ≤ job
  pub there : slice_get s.jobs (job - 1) ≡ Some (job_of job (memory_of s))
  pub stands : JobStands s job (job_of job (memory_of s))

running-some : (o : Option JobState) → IsTrue (is_running o) → o ≡ Some (or_new o)
running-some None running = absurd cc
running-some (Some job) running = refl

pub asking : (s : State) (job : ℕ) → IsJoint s → IsTrue (is_running (job_at job s.jobs)) → IsAsking s job
asking s job joint running =
    let is : job_at job s.jobs ≡ Some (job_of job (memory_of s)) = running-some (job_at job s.jobs) running in
    elim (job == 0) as (λ b. (job == 0) ≡ b → (if b then None else slice_get s.jobs (job - 1)) ≡ Some (job_of job (memory_of s)) → IsAsking s job) [
      | true ↦ λ e found. absurd cc
      | false ↦ λ e found.
          let first : 1 ≤ job = grind (arith, nat_tests, e) in
          let number : job - 1 + 1 ≡ job = omega (arith, first) in
          record { first = first; there = found; stands = subst (λ (n : ℕ). JobStands s n (job_of job (memory_of s))) number (joint.jobs (job - 1) (job_of job (memory_of s)) found) }
    ] refl is

-- what holds of each thing holds of the one that is found by its name
pub named-each : {A : Type 0} (P : A → Type 0) (name : List ℕ) (things : Named A) (thing : A) → AllByRecursion (λ (e : List ℕ × A). P e.1) things → named name things ≡ Some thing → P thing
named-each P name [] thing all found = absurd cc
named-each P name (first ∷ things) thing all found =
    elim (same_name name first.0) as (λ b. cond b (Some first.1) (named name things) ≡ Some thing → P thing) [
      | true ↦ λ same. let e : first.1 ≡ thing = cc in subst P e all.0
      | false ↦ λ later. named-each P name things thing all.1 later
    ] found

-- Which jobs run once one of them is changed, has ended or has begun.
use Rattle.std.proofs.Common.{◌≡◌, ℕ, ◌+◌, ◌-◌, true, false, ◌&&◌, not, if◌then◌else◌, ◌==◌, IsTrue, List, [], ◌∷◌, ◌++◌, length, Some, None, zero, suc, slice_get, refl, ap, arith}
use Rattle.std.proofs.lemmas.Bool.Decides.{nat_tests}
use Rattle.library_model.specs.declared.requests.Request.{Request}
use Rattle.library_model.specs.Ending.{is_end_job}
use Rattle.library_steps.specs.State.{JobState, job_at, job_changed, new_job}
use Rattle.library_steps.specs.History.{is_running}
use Rattle.library_steps.specs.EndJob.{ended_job}
use Rattle.library_core.specs.Running.{runs_after}

-- a change that leaves whether a job runs leaves it at each place
is_running-job_changed : (f : JobState → JobState) → ((job : JobState) → (f job).ended ≡ job.ended) → (place at : ℕ) (jobs : List JobState)
    → is_running (slice_get (job_changed place f jobs) at) ≡ is_running (slice_get jobs at)
is_running-job_changed f same place at [] = refl
is_running-job_changed f same zero zero (job ∷ jobs) = ap not (same job)
is_running-job_changed f same zero (suc at) (job ∷ jobs) = refl
is_running-job_changed f same (suc place) zero (job ∷ jobs) = refl
is_running-job_changed f same (suc place) (suc at) (job ∷ jobs) = is_running-job_changed f same place at jobs

-- the job that is ended runs no more, and the others run as they did
is_running-ended : (place at : ℕ) (jobs : List JobState) → is_running (slice_get (job_changed place ended_job jobs) at) ≡ (if at == place then false else is_running (slice_get jobs at))
is_running-ended place at [] = grind (arith, nat_tests)
is_running-ended zero zero (job ∷ jobs) = refl
is_running-ended zero (suc at) (job ∷ jobs) = grind (arith, nat_tests)
is_running-ended (suc place) zero (job ∷ jobs) = grind (arith, nat_tests)
is_running-ended (suc place) (suc at) (job ∷ jobs) = grind (arith, nat_tests, is_running-ended place at jobs)

-- the same by numbers of jobs
pub runs-job_changed : (f : JobState → JobState) → ((job : JobState) → (f job).ended ≡ job.ended) → (place other : ℕ) (jobs : List JobState)
    → is_running (job_at other (job_changed place f jobs)) ≡ is_running (job_at other jobs)
runs-job_changed f same place other jobs =
    elim (other == 0) as (λ b. is_running (if b then None else slice_get (job_changed place f jobs) (other - 1)) ≡ is_running (if b then None else slice_get jobs (other - 1))) [
      | true ↦ refl
      | false ↦ is_running-job_changed f same place (other - 1) jobs
    ]

pub runs-ended : (job other : ℕ) (jobs : List JobState) → IsTrue (is_running (job_at job jobs))
    → is_running (job_at other (job_changed (job - 1) ended_job jobs)) ≡ (not (true && (other == job)) && is_running (job_at other jobs))
runs-ended job other jobs running =
    let here = is_running-ended (job - 1) (other - 1) jobs in
    grind (arith, nat_tests, here)

-- a request that ends no job
pub runs-on : (job : ℕ) (r : Request) (jobs : List JobState) (other : ℕ) → is_end_job r ≡ false → runs_after job r jobs other ≡ is_running (job_at other jobs)
runs-on job r jobs other goes_on = rw goes_on refl

-- a job that begins runs, by the number after the last
pub running-new_job : (name : List ℕ) (jobs : List JobState) → IsTrue (is_running (job_at (length jobs + 1) (jobs ++ new_job name ∷ [])))
running-new_job name jobs = let here = last-place name jobs in grind (arith, nat_tests, here)
  where
    last-place : (name : List ℕ) (jobs : List JobState) → slice_get (jobs ++ new_job name ∷ []) (length jobs) ≡ Some (new_job name)
    last-place name [] = refl
    last-place name (job ∷ jobs) = last-place name jobs

-- What a change of one job makes of the places that are due.
use Rattle.std.proofs.Common.{◌≡◌, ◌≤◌, ℕ, zero, suc, ◌+◌, ◌-◌, ◌*◌, Bool, true, false, not, if◌then◌else◌, ◌==◌, IsTrue, Option, Some, None, List, [], ◌∷◌, length, slice_get, refl, ap, arith}
use Rattle.library_steps.specs.State.{CycleState, JobState, job_at, job_changed}
use Rattle.library_steps.specs.History.{is_running}
use Rattle.block_places.specs.Dues.{cycle_due, place_due, places_due}

two-at-most : (ended : Bool) (cycle : Option CycleState) → (if ended then 0 else 1 + cycle_due cycle) ≤ 2
two-at-most true cycle = let fact : 0 ≤ 2 = omega arith in fact
two-at-most false None = let fact : 1 ≤ 2 = omega arith in fact
two-at-most false (Some cycle) = let fact : 2 ≤ 2 = omega arith in fact

pub due-most : (jobs : List JobState) → places_due jobs ≤ 2 * length jobs
due-most [] = let fact : 0 ≤ 0 = omega arith in fact
due-most (job ∷ jobs) =
    let own : place_due job ≤ 2 = two-at-most job.ended job.cycle in
    let others = due-most jobs in
    let fact : place_due job + places_due jobs ≤ 2 * suc (length jobs) = omega (arith, own, others) in
    fact

pub due-changed : (place : ℕ) (f : JobState → JobState) (jobs : List JobState) (its : JobState) → slice_get jobs place ≡ Some its → places_due (job_changed place f jobs) + place_due its ≡ places_due jobs + place_due (f its)
due-changed zero f [] its there = absurd cc
due-changed (suc place) f [] its there = absurd cc
due-changed zero f (job ∷ jobs) its there =
    let same : job ≡ its = cc in
    let before : place_due job ≡ place_due its = ap place_due same in
    let after : place_due (f job) ≡ place_due (f its) = ap (λ (j : JobState). place_due (f j)) same in
    let fact : place_due (f job) + places_due jobs + place_due its ≡ place_due job + places_due jobs + place_due (f its) = omega (arith, before, after) in
    fact
due-changed (suc place) f (job ∷ jobs) its there =
    let rest = due-changed place f jobs its there in
    let fact : place_due job + places_due (job_changed place f jobs) + place_due its ≡ place_due job + places_due jobs + place_due (f its) = omega (arith, rest) in
    fact

-- the job with a number, where it runs
pub record Runs (job : ℕ) (jobs : List JobState) : Type 0 where
  pub its : JobState
  pub at : slice_get jobs (job - 1) ≡ Some its
  pub found : job_at job jobs ≡ Some its
  pub alive : its.ended ≡ false

not-true : (b : Bool) → not b ≡ true → b ≡ false
not-true true h = absurd cc
not-true false h = refl

by-found : (o p : Option JobState) → p ≡ o → IsTrue (is_running o) → (its : JobState) × (p ≡ Some its) × (p ≡ Some its) × (its.ended ≡ false)
by-found None p is runs = absurd cc
by-found (Some its) p is runs = (its, is, is, not-true its.ended runs)

find-job : (job : ℕ) (jobs : List JobState) → IsTrue (is_running (job_at job jobs)) → (its : JobState) × (slice_get jobs (job - 1) ≡ Some its) × (job_at job jobs ≡ Some its) × (its.ended ≡ false)
find-job job jobs =
    elim (job == 0) as (λ b. IsTrue (is_running (if b then None else slice_get jobs (job - 1))) → (its : JobState) × (slice_get jobs (job - 1) ≡ Some its) × ((if b then None else slice_get jobs (job - 1)) ≡ Some its) × (its.ended ≡ false)) [
      | true ↦ λ runs. absurd cc
      | false ↦ λ runs. by-found (slice_get jobs (job - 1)) (slice_get jobs (job - 1)) refl runs
    ]

pub running-job : (job : ℕ) (jobs : List JobState) → IsTrue (is_running (job_at job jobs)) → Runs job jobs
running-job job jobs runs = let it = find-job job jobs runs in record { its = it.0; at = it.1; found = it.2; alive = it.3 }

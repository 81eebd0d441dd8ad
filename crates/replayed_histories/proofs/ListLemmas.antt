-- What holds of each of two lists holds of each of both, and of each job that one change leaves.
use Rattle.std.proofs.Common.{◌≡◌, ℕ, zero, suc, drop, List, [], ◌∷◌, ◌++◌, refl, ap, ◌∙◌}
use Rattle.std.specs.List.{AllByRecursion}
use Rattle.library_steps.specs.State.{JobState, job_changed}

pub all-append : {X : Type 0} (P : X → Type 0) (xs ys : List X) → AllByRecursion P xs → AllByRecursion P ys → AllByRecursion P (xs ++ ys)
all-append P [] ys front back = back
all-append P (x ∷ xs) ys front back = (front.0, all-append P xs ys front.1 back)

pub all-job_changed : (P : JobState → Type 0) (place : ℕ) (change : JobState → JobState) (jobs : List JobState) → ((job : JobState) → P job → P (change job)) → AllByRecursion P jobs
    → AllByRecursion P (job_changed place change jobs)
all-job_changed P place change [] each all = tt
all-job_changed P zero change (job ∷ jobs) each all = (each job all.0, all.1)
all-job_changed P (suc place) change (job ∷ jobs) each all = (all.0, all-job_changed P place change jobs each all.1)

pub drop-none : {A : Type 0} (n : ℕ) (xs : List A) → n ≡ 0 → drop n xs ≡ xs
drop-none {A = A} n xs e = ap (λ (k : ℕ). drop k xs) e ∙ at xs where
  at : (xs : List A) → drop 0 xs ≡ xs
  at [] = refl
  at (x ∷ xs) = refl

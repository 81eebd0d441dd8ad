-- Jobs that begin one after the other.
use Rattle.std.proofs.Common.{◌≡◌, ℕ, List, [], ◌∷◌, ◌++◌, map, refl, sym, ◌∙◌, ap, subst, append_assoc}
use Rattle.store_model.specs.Disk.{Disk}
use Rattle.library_steps.specs.State.{State, JobState, begun, new_job}
use Rattle.library_core.specs.Parts.{LibraryOver}
use Rattle.library_core.specs.Stands.{Stands}
use Rattle.job_runner.specs.Places.{BeginsJobs}

jobs-append : (before more : List (List ℕ)) → map new_job (before ++ more) ≡ map new_job before ++ map new_job more
jobs-append [] more = refl
jobs-append (name ∷ before) more = ap (λ (jobs : List JobState). new_job name ∷ jobs) (jobs-append before more)

begun-append : (s : State) (before more : List (List ℕ)) → begun (begun s before) more ≡ begun s (before ++ more)
begun-append s before more =
    ap (λ (jobs : List JobState). record s { jobs = jobs })
    (append_assoc s.jobs (map new_job before) (map new_job more) ∙ ap (λ (jobs : List JobState). s.jobs ++ jobs) (sym (jobs-append before more)))

-- one job more
pub BeginsJobs-next : {S : Type 0} (tells : Type 0) (disk : S → Disk) (old mid new : LibraryOver S) (before : List (List ℕ)) (name : List ℕ) → BeginsJobs tells disk old mid before
    → BeginsJobs tells disk mid new (name ∷ []) → BeginsJobs tells disk old new (before ++ name ∷ [])
BeginsJobs-next tells disk old mid new before name front back = record {
  state = back.state ∙ ap (λ (s : State). begun s (name ∷ [])) front.state ∙ begun-append old.state before (name ∷ []);
  stands = λ s stands. subst (λ (t : State). Stands tells disk new t) (begun-append s before (name ∷ [])) (back.stands (begun s before) (front.stands s stands));
  store = back.store ∙ front.store;
  receiver = back.receiver ∙ front.receiver;
  forced = back.forced ∙ front.forced;
  failed = back.failed ∙ front.failed;
}

-- A job that may make a call may make one after another job's call, and once it has begun.
use Rattle.std.proofs.Common.{◌≡◌, ℕ, false, IsTrue, List, sym, subst}
use Rattle.library_model.specs.declared.requests.Request.{Request}
use Rattle.library_model.specs.Ending.{is_end_job}
use Rattle.library_steps.specs.State.{JobState, job_at}
use Rattle.library_steps.specs.History.{is_running}
use Rattle.library_core.specs.Running.{runs_after}
use Rattle.kept_library.specs.Parts.{LibraryOver}
use Rattle.kept_library.specs.Stands.{IsReady}
use Rattle.library_core.proofs.RunLemmas.{runs-on}

-- a job that may make a call may make one after a call that ends no job
pub IsReady-on : {S : Type 0} (job other : ℕ) (r : Request) (old new : LibraryOver S) → IsReady other old → is_end_job r ≡ false → new.failed ≡ false
    → ((n : ℕ) → is_running (job_at n new.state.jobs) ≡ runs_after job r old.state.jobs n) → IsReady other new
IsReady-on job other r old new ready goes_on alive runs = record {
  alive = alive;
  running = rw (runs other, runs-on job r old.state.jobs other goes_on) ready.running;
}

-- a job that has begun may make calls
pub IsReady-begun : {S : Type 0} (job : ℕ) (jobs : List JobState) (library : LibraryOver S) → library.failed ≡ false → library.state.jobs ≡ jobs → IsTrue (is_running (job_at job jobs)) → IsReady job library
IsReady-begun job jobs library alive is run = record { alive = alive; running = subst (λ (js : List JobState). IsTrue (is_running (job_at job js))) (sym is) run }

-- What jobs may make calls, and what a library is in which jobs have begun. (Our own.)
use Rattle.std.specs.Prelude.{◌≡◌, ◌≤◌, ℕ, false, IsTrue, List, length, map}
use Rattle.library_steps.specs.State.{job_at, new_job}
use Rattle.library_steps.specs.History.{is_running}
use Rattle.kept_library.specs.Parts.{LibraryOver}

-- each job with one of the numbers 1 to `count` may make a call
pub record AreReady {S : Type 0} (count : ℕ) (library : LibraryOver S) : Type 0 where
  pub alive : library.failed ≡ false
  pub running : (job : ℕ) → 1 ≤ job → job ≤ count → IsTrue (is_running (job_at job library.state.jobs))

-- so many jobs have begun in a library that had none, and none has made a call
pub record HasBegun {S : Type 0} (count : ℕ) (library : LibraryOver S) : Type 0 where
  pub names : List (List ℕ)
  pub many : length names ≡ count
  pub alive : library.failed ≡ false
  pub jobs : library.state.jobs ≡ map new_job names

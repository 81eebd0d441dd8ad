-- What holds of what was read, so that its jobs can run. (Our own.)
use Rattle.std.specs.Prelude.{◌≡◌, ◌≤◌, IsTrue, length}
use Rattle.std.specs.List.{list_all}
use Rattle.library_model.specs.declared.limits.TheConstants.{MOST_JOBS}
use Rattle.input_scripts.specs.declared.Scripts.{Scripts}
use Rattle.input_scripts.specs.Askable.{is_askable_script}

-- each script asks what the library answers so far, each job has a script, and there are no more jobs than may run
pub record AreReady (scripts : Scripts) : Type 0 where
  pub askable : IsTrue (list_all is_askable_script scripts.scripts)
  pub as_many : length scripts.names ≡ length scripts.scripts
  pub few : length scripts.names ≤ MOST_JOBS

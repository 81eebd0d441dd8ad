-- Which jobs run after a request: those that ran before it, but for a job that it ends. (Work Management, ending a job.)
use Rattle.std.specs.Prelude.{ℕ, ◌==◌, ◌&&◌, Bool, not, List}
use Rattle.library_model.specs.declared.requests.Request.{Request}
use Rattle.library_model.specs.Ending.{is_end_job}
use Rattle.library_steps.specs.State.{JobState, job_at}
use Rattle.library_steps.specs.History.{is_running}

-- whether a job runs after a request of another or its own: its own ENDJOB ends it, and nothing else does
abbrev pub runs_after : ℕ → Request → List JobState → ℕ → Bool
runs_after job request jobs other = not (is_end_job request && (other == job)) && is_running (job_at other jobs)

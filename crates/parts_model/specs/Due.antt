-- How many entries the boundaries of jobs may still deposit, so that COMMIT, ROLLBACK and ENDJOB never want memory: the end of each open
-- commit cycle, two for each of its changes, and the end of commitment control. (Our own.)
use Rattle.std.specs.Prelude.{◌≡◌, ℕ, ◌+◌, ◌*◌, ◌≤◌, Option, Some, None, List, [], ◌∷◌, length}
use Rattle.commit_level.specs.declared.Level.{Level}
use Rattle.memory_journal.specs.declared.journal.TheConstants.{LAST_NUMBER}
use Rattle.library_steps.specs.State.{CycleState, JobState}

abbrev pub cycle_due : Option CycleState → ℕ
cycle_due None = 0
cycle_due (Some cycle) = 1 + 2 * length cycle.undos

abbrev pub level_due : Option Level → ℕ
level_due None = 0
level_due (Some level) = 1

abbrev pub job_due : JobState → ℕ
job_due job = cycle_due job.cycle + level_due job.level

abbrev pub all_due : List JobState → ℕ
all_due [] = 0
all_due (job ∷ jobs) = job_due job + all_due jobs

-- the entries of all jobs are counted, and there is room for them
pub record HasDue (jobs : List JobState) (due room : ℕ) : Type 0 where
  pub counted : due ≡ all_due jobs
  pub fits : due ≤ room
  pub few : due ≤ LAST_NUMBER

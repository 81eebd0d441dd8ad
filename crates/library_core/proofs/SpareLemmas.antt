-- What a request leaves that ends no job: which jobs run.
use Rattle.std.proofs.Common.{◌≡◌, ◌∙◌, ℕ, ◌-◌, List, refl}
use Rattle.library_steps.specs.State.{Memory, JobState, job_at, job_changed}
use Rattle.library_steps.specs.Change.{Change}
use Rattle.library_steps.specs.History.{is_running}
use Rattle.library_core.proofs.RunLemmas.{runs-job_changed}

pub record Spares (old new : List JobState) : Type 0 where
  pub runs : (other : ℕ) → is_running (job_at other new) ≡ is_running (job_at other old)

-- of the jobs of a change
abbrev pub SparesIn : Memory → Change → Type 0
SparesIn m c = Spares m.jobs c.memory.jobs

pub spares-all : (jobs : List JobState) → Spares jobs jobs
spares-all jobs = record { runs = λ other. refl }

-- a change of a job that doesn't end it
pub spares-job : (job : ℕ) (f : JobState → JobState) (jobs : List JobState) → ((j : JobState) → (f j).ended ≡ j.ended) → Spares jobs (job_changed (job - 1) f jobs)
spares-job job f jobs keeps = record { runs = λ other. runs-job_changed f keeps (job - 1) other jobs }

-- one change after another
pub spares-both : (jobs mid later : List JobState) → Spares jobs mid → Spares mid later → Spares jobs later
spares-both jobs mid later front back = record { runs = λ other. back.runs other ∙ front.runs other }

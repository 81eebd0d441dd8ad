-- Which schedules name jobs that there are. (Our own.)
use Rattle.std.specs.Prelude.{ℕ, ◌≤◌, List, All}
use Rattle.input_scripts.specs.declared.Schedule.{Schedule}
use Rattle.input_scripts.specs.declared.Schedule.TheVariants.{Jobs, RoundRobin}

-- each number is that of one of so many jobs
abbrev pub AreJobs : (jobs : ℕ) → List ℕ → Type 0
AreJobs jobs turns = All (λ turn. (1 ≤ turn) × (turn ≤ jobs)) turns

abbrev pub NamesJobs : (jobs : ℕ) → Schedule → Type 0
NamesJobs jobs (Jobs turns) = AreJobs jobs turns
NamesJobs jobs RoundRobin = Unit {0}

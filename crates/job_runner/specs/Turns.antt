-- Whose turn the next call is: each name of the schedule is one call of that job, or each job in turn has one; when the names are used up, the jobs
-- run to their ends in order. A job that has ended is passed over. (Our own.)
use Rattle.std.specs.Prelude.{◌≡◌, ℕ, zero, suc, ◌+◌, ◌-◌, Bool, not, if◌then◌else◌, Some, List, [], ◌∷◌, ◌++◌, drop, find}
use Rattle.library_model.specs.declared.calls.Call.{Call}
use Rattle.input_scripts.specs.declared.Schedule.{Schedule}
use Rattle.input_scripts.specs.declared.Schedule.TheVariants.{Jobs, RoundRobin}
use Rattle.job_runner.specs.Ended.{has_ended}

-- so many numbers from this one on
abbrev pub numbers_from : (first count : ℕ) → List ℕ
numbers_from first zero = []
numbers_from first (suc count) = first ∷ numbers_from (first + 1) count

-- the job has still to end
abbrev pub goes_on : List Call → ℕ → Bool
goes_on calls job = not (has_ended job calls)

-- the turns from that of a job on that has still to end
abbrev pub from_running : List Call → List ℕ → List ℕ
from_running calls [] = []
from_running calls (job ∷ turns) = if goes_on calls job then job ∷ turns else from_running calls turns

-- behind the earlier calls each of the others is by these turns, and then by the first job in order that goes on
abbrev pub AreByTurns : (jobs : ℕ) → List ℕ → (before made : List Call) → Type 0
AreByTurns jobs turns before [] = Unit {0}
AreByTurns jobs turns before (call ∷ calls) =
    (find (goes_on before) (turns ++ numbers_from 1 jobs) ≡ Some call.job) × AreByTurns jobs (drop 1 (from_running before turns)) (before ++ call ∷ []) calls

-- behind the earlier calls, the last of which was this job's, each of the others is of the next job that goes on, the first after the last
abbrev pub AreInRound : (jobs last : ℕ) → (before made : List Call) → Type 0
AreInRound jobs last before [] = Unit {0}
AreInRound jobs last before (call ∷ calls) =
    (find (goes_on before) (numbers_from (last + 1) (jobs - last) ++ numbers_from 1 last) ≡ Some call.job) × AreInRound jobs call.job (before ++ call ∷ []) calls

-- behind the earlier calls the others are made by a schedule that begins there
abbrev pub AreInTurn : (jobs : ℕ) → Schedule → (before made : List Call) → Type 0
AreInTurn jobs (Jobs turns) before made = AreByTurns jobs turns before made
AreInTurn jobs RoundRobin before made = AreInRound jobs 0 before made

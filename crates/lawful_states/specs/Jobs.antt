-- Which jobs have begun, whose locks are kept, and the commit cycle that a change belongs to. (Commitment Control.)
use Rattle.std.specs.Prelude.{ℕ, ◌≤◌, Option, List, [], length, unwrap_or, All}
use Rattle.library_steps.specs.State.{CycleState, JobState}
use Rattle.library_steps.below.lock_table.specs.declared.lock.Lock.{Lock}

-- a commit cycle that begins with this entry
abbrev pub new_cycle : (sequence : ℕ) → CycleState
new_cycle sequence = record { sequence = sequence; undos = [] }

-- the cycle that a change belongs to: the open one, or one that begins with this entry
abbrev pub cycle_from : (sequence : ℕ) → Option CycleState → CycleState
cycle_from sequence cycle = unwrap_or cycle (new_cycle sequence)

-- the job has begun, where so many have
pub record HasBegun (count number : ℕ) : Type 0 where
  pub first : 1 ≤ number
  pub last : number ≤ count

-- each lock that is kept to a boundary is of a job that has begun
abbrev pub AreOfJobs : List JobState → List Lock → Type 0
AreOfJobs jobs locks = All (λ lock. HasBegun (length jobs) lock.job) locks

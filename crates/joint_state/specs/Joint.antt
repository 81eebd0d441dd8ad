-- What holds of a library between calls, beyond what its parts need of each other. (Our own.)
use Rattle.std.specs.Prelude.{◌≡◌, ◌+◌, ℕ, true, Some, None, [], slice_get}
use Rattle.std.specs.List.{AllByRecursion}
use Rattle.lock_table.specs.Table.{AreCompatible}
use Rattle.lawful_states.specs.State.{State, JobState, memory_of}
use Rattle.lawful_states.specs.Uses.{changes_in}
use Rattle.joint_state.specs.Opens.{HasOpens}
use Rattle.joint_state.specs.Locks.{LockStands}
use Rattle.joint_state.specs.CurrentRecords.{AllCurrentStand}
use Rattle.joint_state.specs.Cycles.{ChangesAreLocked, StandAsMade, IsUnderControl, HasBegun, AreJournaled}
use Rattle.joint_state.specs.Told.{AreTold}

-- a job that has ended has nothing open, and is under no commitment control
pub record IsIdle (job : JobState) : Type 0 where
  pub opens : job.ended ≡ true → job.opens ≡ []
  pub level : job.ended ≡ true → job.level ≡ None

-- of each job by its number
pub record JobStands (s : State) (number : ℕ) (job : JobState) : Type 0 where
  pub idle : IsIdle job
  pub control : IsUnderControl job
  pub opens : HasOpens job
  pub journaled : AreJournaled (memory_of s) job
  pub begun : HasBegun (memory_of s) job
  pub current : AllCurrentStand (memory_of s) number job
  pub locked : ChangesAreLocked (memory_of s) number job
  pub made : StandAsMade (changes_in job.cycle) s.members

pub record IsJoint (s : State) : Type 0 where
  pub compatible : AreCompatible s.locks
  pub locks : AllByRecursion (LockStands (memory_of s)) s.locks
  pub jobs : (place : ℕ) (job : JobState) → slice_get s.jobs place ≡ Some job → JobStands s (place + 1) job
  pub told : AreTold s

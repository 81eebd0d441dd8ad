-- Some entries are deposited without a question whether sequences are left: those by which open commit cycles are taken back or end, and by which
-- commitment control ends. There are sequences for them, far below the greatest that eight bytes hold. (Our own.)
use Rattle.std.specs.Prelude.{ℕ, ◌+◌, ◌*◌, ◌≤◌, Option, Some, None, length}
use Rattle.std.specs.List.{sum_by}
use Rattle.commit_level.specs.declared.Level.{Level}
use Rattle.library_steps.specs.declared.limits.TheConstants.{LAST_SEQUENCE, MOST_BLOCK_BYTES, MOST_GROUP_CHANGES}
use Rattle.library_steps.specs.State.{State, CycleState, JobState, memory_of}

-- two entries take a change back at most, and one ends the cycle
abbrev pub cycle_sequences : Option CycleState → ℕ
cycle_sequences None = 0
cycle_sequences (Some cycle) = 2 * length cycle.undos + 1

abbrev pub level_sequences : Option Level → ℕ
level_sequences None = 0
level_sequences (Some level) = 1

abbrev pub sequences_due : JobState → ℕ
sequences_due job = cycle_sequences job.cycle + level_sequences job.level

pub record SequencesSuffice (s : State) : Type 0 where
  pub due : (memory_of s).last_entry + sum_by sequences_due s.jobs ≤ LAST_SEQUENCE + MOST_BLOCK_BYTES + 2 * MOST_GROUP_CHANGES + 2 * length s.jobs

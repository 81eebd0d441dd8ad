-- What a call through an open has to find among the record locks before it is done. (Our own.)
use Rattle.std.specs.Prelude.{◌≡◌, ℕ, ◌≤◌, None, length}
use Rattle.lock_table.specs.declared.levels.Call.{Call}
use Rattle.lock_table.specs.declared.levels.Call.TheVariants.{InputRead, UpdateRead, Update, Delete, Write, WriteAt, Unlock, Position, Close, Commit, Rollback, EndCommitment, EndJob}
use Rattle.lock_table.specs.declared.table.TheConstants.{MOST_LOCKS}
use Rattle.library_steps.specs.State.{Memory, OpenState}
use Rattle.library_steps.specs.Locking.{clashing, locks_left}

-- no other job's lock clashes with the one that the call asks for, and those that it leaves are not too many
pub record MayLock (call : Call) (job : ℕ) (opened : OpenState) (rrn : ℕ) (m : Memory) : Type 0 where
  pub unlocked : clashing call job opened rrn m ≡ None
  pub few : length (locks_left call job opened rrn m) ≤ MOST_LOCKS

-- the call changes the current record of its open
abbrev pub IsOfCurrent : Call → Type 0
IsOfCurrent InputRead = ⊥
IsOfCurrent UpdateRead = ⊥
IsOfCurrent Update = Unit {0}
IsOfCurrent Delete = Unit {0}
IsOfCurrent Write = ⊥
IsOfCurrent WriteAt = ⊥
IsOfCurrent Unlock = ⊥
IsOfCurrent Position = ⊥
IsOfCurrent Close = ⊥
IsOfCurrent Commit = ⊥
IsOfCurrent Rollback = ⊥
IsOfCurrent EndCommitment = ⊥
IsOfCurrent EndJob = ⊥

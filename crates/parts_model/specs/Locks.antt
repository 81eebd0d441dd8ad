-- Which calls ask for room among the record locks, and which calls are on a record through an open. (Db2 for i, record locks; Commitment Control.)
use Rattle.std.specs.Prelude.{◌+◌, ◌≤◌, min, length}
use Rattle.lock_table.specs.declared.table.TheConstants.{MOST_LOCKS}
use Rattle.library_steps.specs.State.{State}
use Rattle.parts_model.specs.Parts.{Room}

-- one lock more has room, where one more may be held
abbrev pub HasLockRoom : State → Room → Type 0
HasLockRoom s room = min (length s.locks + 1) MOST_LOCKS ≤ room.locks

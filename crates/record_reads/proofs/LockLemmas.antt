-- That a read is a call through an open.
use Rattle.lock_table.specs.declared.levels.Call.{Call}
use Rattle.lock_table.specs.declared.levels.Call.TheVariants.{InputRead, UpdateRead, Update, Delete, Write, WriteAt, Unlock, Position, Close, Commit, Rollback, EndCommitment, EndJob}
use Rattle.lawful_states.specs.Calls.{IsOfOpen, IsRead}

pub IsRead-IsOfOpen : (call : Call) → IsRead call → IsOfOpen call
IsRead-IsOfOpen InputRead read = tt
IsRead-IsOfOpen UpdateRead read = tt
IsRead-IsOfOpen Update read = absurd read
IsRead-IsOfOpen Delete read = absurd read
IsRead-IsOfOpen Write read = absurd read
IsRead-IsOfOpen WriteAt read = absurd read
IsRead-IsOfOpen Unlock read = absurd read
IsRead-IsOfOpen Position read = absurd read
IsRead-IsOfOpen Close read = absurd read
IsRead-IsOfOpen Commit read = absurd read
IsRead-IsOfOpen Rollback read = absurd read
IsRead-IsOfOpen EndCommitment read = absurd read
IsRead-IsOfOpen EndJob read = absurd read

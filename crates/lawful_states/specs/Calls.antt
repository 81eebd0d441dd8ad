-- Which calls read, which write, which are on a record through an open, and which of these ask for no lock. (Db2 for i, record locks; Commitment Control.)
use Rattle.library_steps.below.lock_table.specs.declared.levels.Call.{Call}
use Rattle.library_steps.below.lock_table.specs.declared.levels.Call.TheVariants.{InputRead, UpdateRead, Update, Delete, Write, WriteAt, Unlock, Position, Close, Commit, Rollback, EndCommitment, EndJob}
use Rattle.library_steps.below.lock_table.specs.declared.levels.OpenLocks.{OpenLocks}
use Rattle.library_steps.below.lock_table.specs.declared.levels.OpenLocks.TheVariants.{Stay, OfOpen, OfRecord, OfCommitted, OfJob}

abbrev pub IsRead : Call → Type 0
IsRead InputRead = Unit {0}
IsRead UpdateRead = Unit {0}
IsRead Update = ⊥
IsRead Delete = ⊥
IsRead Write = ⊥
IsRead WriteAt = ⊥
IsRead Unlock = ⊥
IsRead Position = ⊥
IsRead Close = ⊥
IsRead Commit = ⊥
IsRead Rollback = ⊥
IsRead EndCommitment = ⊥
IsRead EndJob = ⊥

abbrev pub IsWrite : Call → Type 0
IsWrite InputRead = ⊥
IsWrite UpdateRead = ⊥
IsWrite Update = ⊥
IsWrite Delete = ⊥
IsWrite Write = Unit {0}
IsWrite WriteAt = Unit {0}
IsWrite Unlock = ⊥
IsWrite Position = ⊥
IsWrite Close = ⊥
IsWrite Commit = ⊥
IsWrite Rollback = ⊥
IsWrite EndCommitment = ⊥
IsWrite EndJob = ⊥

-- the call is of an open, and no boundary
abbrev pub IsOfOpen : Call → Type 0
IsOfOpen InputRead = Unit {0}
IsOfOpen UpdateRead = Unit {0}
IsOfOpen Update = Unit {0}
IsOfOpen Delete = Unit {0}
IsOfOpen Write = Unit {0}
IsOfOpen WriteAt = Unit {0}
IsOfOpen Unlock = Unit {0}
IsOfOpen Position = Unit {0}
IsOfOpen Close = Unit {0}
IsOfOpen Commit = ⊥
IsOfOpen Rollback = ⊥
IsOfOpen EndCommitment = ⊥
IsOfOpen EndJob = ⊥

-- the call is of an open, and asks for no lock
abbrev pub AsksNone : Call → Type 0
AsksNone InputRead = ⊥
AsksNone UpdateRead = ⊥
AsksNone Update = ⊥
AsksNone Delete = ⊥
AsksNone Write = ⊥
AsksNone WriteAt = ⊥
AsksNone Unlock = Unit {0}
AsksNone Position = Unit {0}
AsksNone Close = Unit {0}
AsksNone Commit = ⊥
AsksNone Rollback = ⊥
AsksNone EndCommitment = ⊥
AsksNone EndJob = ⊥

-- locks of one open, or of one record
abbrev pub AreOfOpen : OpenLocks → Type 0
AreOfOpen Stay = Unit {0}
AreOfOpen OfOpen = Unit {0}
AreOfOpen OfRecord = Unit {0}
AreOfOpen OfCommitted = ⊥
AreOfOpen OfJob = ⊥

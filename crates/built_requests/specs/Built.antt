-- Which requests the library answers so far: all but CHKPT.
use Rattle.std.specs.Prelude.{Bool, true, false}
use Rattle.library_model.specs.declared.requests.Request.{Request}
use Rattle.library_model.specs.declared.requests.Request.TheVariants.{CreatePhysicalFile, CreateLogicalFile, DeleteFile, AddMember, ClearMember, ReorganizeMember, StartJournaling, EndJournaling, ChangeJournal, DeleteReceiver, Checkpoint, DisplayJournal, ApplyChanges, RemoveChanges, StartCommitment, EndCommitment, Commit, Rollback, OpenFile, CloseFile, SetLowerLimit, SetGreaterThan, Read, ReadPrior, ReadEqual, ReadPriorEqual, Chain, Write, Update, Delete, Unlock, EndJob}

abbrev pub is_built : Request → Bool
is_built (CreatePhysicalFile args) = true
is_built (CreateLogicalFile args) = true
is_built (DeleteFile args) = true
is_built (AddMember args) = true
is_built (ClearMember args) = true
is_built (ReorganizeMember args) = true
is_built (StartJournaling args) = true
is_built (EndJournaling args) = true
is_built ChangeJournal = true
is_built (DeleteReceiver args) = true
is_built Checkpoint = false
is_built (DisplayJournal args) = true
is_built (ApplyChanges args) = true
is_built (RemoveChanges args) = true
is_built (StartCommitment args) = true
is_built EndCommitment = true
is_built Commit = true
is_built Rollback = true
is_built (OpenFile args) = true
is_built (CloseFile args) = true
is_built (SetLowerLimit args) = true
is_built (SetGreaterThan args) = true
is_built (Read args) = true
is_built (ReadPrior args) = true
is_built (ReadEqual args) = true
is_built (ReadPriorEqual args) = true
is_built (Chain args) = true
is_built (Write args) = true
is_built (Update args) = true
is_built (Delete args) = true
is_built (Unlock args) = true
is_built (EndJob args) = true

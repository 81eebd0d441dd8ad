-- How a request ends its job, where it does. (Work Management, ending a job.)
use Rattle.std.specs.Prelude.{Bool, Option, Some, None}
use Rattle.std.specs.Option.{is_some}
use Rattle.library_model.specs.declared.requests.EndJob.{EndJob as EndingArguments}
use Rattle.library_model.specs.declared.requests.Request.{Request}
use Rattle.library_model.specs.declared.requests.Request.TheVariants.{CreatePhysicalFile, CreateLogicalFile, DeleteFile, AddMember, ClearMember, ReorganizeMember, StartJournaling, EndJournaling, ChangeJournal, DeleteReceiver, Checkpoint, DisplayJournal, ApplyChanges, RemoveChanges, StartCommitment, EndCommitment, Commit, Rollback, OpenFile, CloseFile, SetLowerLimit, SetGreaterThan, Read, ReadPrior, ReadEqual, ReadPriorEqual, Chain, Write, Update, Delete, Unlock, EndJob}

-- how a request ends its job, where it does
abbrev pub end_asked : Request → Option EndingArguments
end_asked (EndJob args) = Some args
end_asked (CreatePhysicalFile args) = None
end_asked (CreateLogicalFile args) = None
end_asked (DeleteFile args) = None
end_asked (AddMember args) = None
end_asked (ClearMember args) = None
end_asked (ReorganizeMember args) = None
end_asked (StartJournaling args) = None
end_asked (EndJournaling args) = None
end_asked ChangeJournal = None
end_asked (DeleteReceiver args) = None
end_asked Checkpoint = None
end_asked (DisplayJournal args) = None
end_asked (ApplyChanges args) = None
end_asked (RemoveChanges args) = None
end_asked (StartCommitment args) = None
end_asked EndCommitment = None
end_asked Commit = None
end_asked Rollback = None
end_asked (OpenFile args) = None
end_asked (CloseFile args) = None
end_asked (SetLowerLimit args) = None
end_asked (SetGreaterThan args) = None
end_asked (Read args) = None
end_asked (ReadPrior args) = None
end_asked (ReadEqual args) = None
end_asked (ReadPriorEqual args) = None
end_asked (Chain args) = None
end_asked (Write args) = None
end_asked (Update args) = None
end_asked (Delete args) = None
end_asked (Unlock args) = None

abbrev pub is_end_job : Request → Bool
is_end_job request = is_some (end_asked request)

-- Which requests may be answered with NoMemory: all but those that give up what they hold. What these want was taken before. (Our own.)
use Rattle.std.specs.Prelude.{Bool, true, false}
use Rattle.library_model.specs.declared.requests.Request.{Request}
use Rattle.library_model.specs.declared.requests.Request.TheVariants.{CreatePhysicalFile, CreateLogicalFile, DeleteFile, AddMember, ClearMember, ReorganizeMember, StartJournaling, EndJournaling, ChangeJournal, DeleteReceiver, Checkpoint, DisplayJournal, ApplyChanges, RemoveChanges, StartCommitment, EndCommitment, Commit, Rollback, OpenFile, CloseFile, SetLowerLimit, SetGreaterThan, Read, ReadPrior, ReadEqual, ReadPriorEqual, Chain, Write, Update, Delete, Unlock, EndJob}

abbrev pub needs_memory : Request → Bool
needs_memory (CloseFile args) = false
needs_memory (Unlock args) = false
needs_memory (SetLowerLimit args) = false
needs_memory (SetGreaterThan args) = false
needs_memory Commit = false
needs_memory Rollback = false
needs_memory (EndJob args) = false
needs_memory (CreatePhysicalFile args) = true
needs_memory (CreateLogicalFile args) = true
needs_memory (DeleteFile args) = true
needs_memory (AddMember args) = true
needs_memory (ClearMember args) = true
needs_memory (ReorganizeMember args) = true
needs_memory (StartJournaling args) = true
needs_memory (EndJournaling args) = true
needs_memory ChangeJournal = true
needs_memory (DeleteReceiver args) = true
needs_memory Checkpoint = true
needs_memory (DisplayJournal args) = true
needs_memory (ApplyChanges args) = true
needs_memory (RemoveChanges args) = true
needs_memory (StartCommitment args) = true
needs_memory EndCommitment = true
needs_memory (OpenFile args) = true
needs_memory (Read args) = true
needs_memory (ReadPrior args) = true
needs_memory (ReadEqual args) = true
needs_memory (ReadPriorEqual args) = true
needs_memory (Chain args) = true
needs_memory (Write args) = true
needs_memory (Update args) = true
needs_memory (Delete args) = true

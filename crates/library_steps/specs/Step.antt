-- One step of the library: from its state and a job's request at a time to the state after it and the reply. It has no choice.
use Rattle.std.specs.Prelude.{◌≡◌, ℕ, ◌⊎◌, IsTrue, Result, List}
use Rattle.journal_model.below.entry_codec.specs.declared.entries.Entry.{Entry}
use Rattle.library_model.specs.declared.requests.Request.{Request}
use Rattle.library_model.specs.declared.requests.Request.TheVariants.{CreatePhysicalFile, CreateLogicalFile, DeleteFile, AddMember, ClearMember, ReorganizeMember, StartJournaling, EndJournaling, ChangeJournal, DeleteReceiver, Checkpoint, DisplayJournal, ApplyChanges, RemoveChanges, StartCommitment, EndCommitment, Commit, Rollback, OpenFile, CloseFile, SetLowerLimit, SetGreaterThan, Read, ReadPrior, ReadEqual, ReadPriorEqual, Chain, Write, Update, Delete, Unlock, EndJob}
use Rattle.library_model.specs.declared.replies.Reply.{Reply}
use Rattle.library_model.specs.declared.replies.Reply.TheVariants.{NoMemory}
use Rattle.library_model.specs.declared.sources.NamedSource.{NamedSource}
use Rattle.library_model.specs.NeedsMemory.{needs_memory}
use Rattle.library_steps.specs.State.{Memory, State, memory_of}
use Rattle.library_steps.specs.Change.{Change, changed}
use Rattle.library_steps.specs.CreatePhysicalFile.{create_physical_file}
use Rattle.library_steps.specs.CreateLogicalFile.{create_logical_file}
use Rattle.library_steps.specs.DeleteFile.{delete_file}
use Rattle.library_steps.specs.MemberCommands.{add_member, clear_member, reorganize_member}
use Rattle.library_steps.specs.Journaling.{start_journaling, end_journaling}
use Rattle.library_steps.specs.Receivers.{change_journal, delete_receiver}
use Rattle.library_steps.specs.Checkpoint.{save}
use Rattle.library_steps.specs.JournalReads.{display_journal}
use Rattle.library_steps.specs.Ranges.{apply_changes, remove_changes}
use Rattle.library_steps.specs.Commitment.{start_commitment, end_commitment, commit, rollback}
use Rattle.library_steps.specs.Opens.{open_file, close_file}
use Rattle.library_steps.specs.Reads.{set_lower_limit, set_greater_than, read, read_prior, read_equal, read_prior_equal, chain}
use Rattle.library_steps.specs.WriteRecord.{write_record}
use Rattle.library_steps.specs.ChangeRecord.{update_record, delete_record, unlock}
use Rattle.library_steps.specs.EndJob.{end_job}

-- what a request of a job at a time does to the memory, or its refusal; the entries are for those that read the journal
unfoldable pub change : List NamedSource → List Entry → Memory → ℕ → ℕ → Request → Result Change Reply
change sources entries m job timestamp (CreatePhysicalFile args) = create_physical_file sources m job timestamp args
change sources entries m job timestamp (CreateLogicalFile args) = create_logical_file sources m job timestamp args
change sources entries m job timestamp (DeleteFile args) = delete_file m job timestamp args
change sources entries m job timestamp (AddMember args) = add_member m job timestamp args
change sources entries m job timestamp (ClearMember args) = clear_member m job timestamp args
change sources entries m job timestamp (ReorganizeMember args) = reorganize_member m job timestamp args
change sources entries m job timestamp (StartJournaling args) = start_journaling m job timestamp args
change sources entries m job timestamp (EndJournaling args) = end_journaling m job timestamp args
change sources entries m job timestamp ChangeJournal = change_journal m job timestamp
change sources entries m job timestamp (DeleteReceiver args) = delete_receiver entries m args
change sources entries m job timestamp Checkpoint = save m
change sources entries m job timestamp (DisplayJournal args) = display_journal entries m args
change sources entries m job timestamp (ApplyChanges args) = apply_changes entries m job timestamp args
change sources entries m job timestamp (RemoveChanges args) = remove_changes entries m job timestamp args
change sources entries m job timestamp (StartCommitment args) = start_commitment m job timestamp args
change sources entries m job timestamp EndCommitment = end_commitment m job timestamp
change sources entries m job timestamp Commit = commit m job timestamp
change sources entries m job timestamp Rollback = rollback m job timestamp
change sources entries m job timestamp (OpenFile args) = open_file m job args
change sources entries m job timestamp (CloseFile args) = close_file m job args
change sources entries m job timestamp (SetLowerLimit args) = set_lower_limit m job args
change sources entries m job timestamp (SetGreaterThan args) = set_greater_than m job args
change sources entries m job timestamp (Read args) = read m job args
change sources entries m job timestamp (ReadPrior args) = read_prior m job args
change sources entries m job timestamp (ReadEqual args) = read_equal m job args
change sources entries m job timestamp (ReadPriorEqual args) = read_prior_equal m job args
change sources entries m job timestamp (Chain args) = chain m job args
change sources entries m job timestamp (Write args) = write_record m job timestamp args
change sources entries m job timestamp (Update args) = update_record m job timestamp args
change sources entries m job timestamp (Delete args) = delete_record m job timestamp args
change sources entries m job timestamp (Unlock args) = unlock m job args
change sources entries m job timestamp (EndJob args) = end_job m job timestamp

-- the change, with its entries behind those of the journal
abbrev pub step : List NamedSource → State → ℕ → ℕ → Request → State × Reply
step sources s job timestamp request = changed s (change sources s.entries (memory_of s) job timestamp request)

-- the answer is the step's, or want of memory, which changes nothing
abbrev pub MayAnswer : List NamedSource → State → ℕ → ℕ → Request → Reply → State → Type 0
MayAnswer sources old job timestamp request reply new =
    ((new, reply) ≡ step sources old job timestamp request) ⊎ ((new ≡ old) × (reply ≡ NoMemory) × IsTrue (needs_memory request))

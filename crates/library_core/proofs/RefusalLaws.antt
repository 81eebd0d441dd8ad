-- No request is refused for want of memory or for the store's fault: such replies are the library's own.
use Rattle.std.proofs.Common.{◌≡◌, ℕ, true, false, List, Err}
use Rattle.entry_codec.specs.declared.entries.Entry.{Entry}
use Rattle.built_requests.specs.Built.{is_built}
use Rattle.library_model.specs.declared.replies.Reply.{Reply}
use Rattle.library_model.specs.declared.requests.Request.{Request}
use Rattle.library_model.specs.declared.requests.Request.TheVariants.{CreatePhysicalFile, CreateLogicalFile, DeleteFile, AddMember, ClearMember, ReorganizeMember, StartJournaling, EndJournaling}
use Rattle.library_model.specs.declared.requests.Request.TheVariants.{ChangeJournal, DeleteReceiver, Checkpoint, DisplayJournal, ApplyChanges, RemoveChanges, StartCommitment, EndCommitment, Commit}
use Rattle.library_model.specs.declared.requests.Request.TheVariants.{Rollback, OpenFile, CloseFile, SetLowerLimit, SetGreaterThan, Read, ReadPrior, ReadEqual, ReadPriorEqual, Chain, Write, Update}
use Rattle.library_model.specs.declared.requests.Request.TheVariants.{Delete, Unlock, EndJob}
use Rattle.library_model.specs.declared.sources.NamedSource.{NamedSource}
use Rattle.library_steps.specs.State.{Memory}
use Rattle.library_steps.specs.Step.{change}
use Rattle.library_core.specs.Laws.{is_fault}
use Rattle.library_core.proofs.RefusalLemmas.{Tells, ok-tells, told-of}
use Rattle.library_core.proofs.RefusedFiles.{create_physical_file-tells, create_logical_file-tells, delete_file-tells, add_member-tells, clear_member-tells, reorganize_member-tells}
use Rattle.library_core.proofs.RefusedFiles.{start_journaling-tells, end_journaling-tells}
use Rattle.library_core.proofs.RefusedRecords.{open_file-tells, close_file-tells, write_record-tells, update_record-tells, delete_record-tells, unlock-tells, set_lower_limit-tells}
use Rattle.library_core.proofs.RefusedRecords.{set_greater_than-tells, read-tells, read_prior-tells, read_equal-tells, read_prior_equal-tells, chain-tells}
use Rattle.library_core.proofs.RefusedJournal.{change_journal-tells, delete_receiver-tells, display_journal-tells, apply_changes-tells, remove_changes-tells, start_commitment-tells}
use Rattle.library_core.proofs.RefusedJournal.{end_commitment-tells, commit-tells, rollback-tells}

change-tells : (sources : List NamedSource) (entries : List Entry) (m : Memory) (job timestamp : ℕ) (request : Request) → is_built request ≡ true
    → Tells (change sources entries m job timestamp request)
unfolding change
change-tells sources entries m job timestamp (CreatePhysicalFile args) built = create_physical_file-tells sources m job timestamp args
change-tells sources entries m job timestamp (CreateLogicalFile args) built = create_logical_file-tells sources m job timestamp args
change-tells sources entries m job timestamp (DeleteFile args) built = delete_file-tells m job timestamp args
change-tells sources entries m job timestamp (AddMember args) built = add_member-tells m job timestamp args
change-tells sources entries m job timestamp (ClearMember args) built = clear_member-tells m job timestamp args
change-tells sources entries m job timestamp (ReorganizeMember args) built = reorganize_member-tells m job timestamp args
change-tells sources entries m job timestamp (StartJournaling args) built = start_journaling-tells m job timestamp args
change-tells sources entries m job timestamp (EndJournaling args) built = end_journaling-tells m job timestamp args
change-tells sources entries m job timestamp ChangeJournal built = change_journal-tells m job timestamp
change-tells sources entries m job timestamp (DeleteReceiver args) built = delete_receiver-tells entries m args
change-tells sources entries m job timestamp Checkpoint built = absurd cc
change-tells sources entries m job timestamp (DisplayJournal args) built = display_journal-tells entries m args
change-tells sources entries m job timestamp (ApplyChanges args) built = apply_changes-tells entries m job timestamp args
change-tells sources entries m job timestamp (RemoveChanges args) built = remove_changes-tells entries m job timestamp args
change-tells sources entries m job timestamp (StartCommitment args) built = start_commitment-tells m job timestamp args
change-tells sources entries m job timestamp EndCommitment built = end_commitment-tells m job timestamp
change-tells sources entries m job timestamp Commit built = commit-tells m job timestamp
change-tells sources entries m job timestamp Rollback built = rollback-tells m job timestamp
change-tells sources entries m job timestamp (OpenFile args) built = open_file-tells m job args
change-tells sources entries m job timestamp (CloseFile args) built = close_file-tells m job args
change-tells sources entries m job timestamp (SetLowerLimit args) built = set_lower_limit-tells m job args
change-tells sources entries m job timestamp (SetGreaterThan args) built = set_greater_than-tells m job args
change-tells sources entries m job timestamp (Read args) built = read-tells m job args
change-tells sources entries m job timestamp (ReadPrior args) built = read_prior-tells m job args
change-tells sources entries m job timestamp (ReadEqual args) built = read_equal-tells m job args
change-tells sources entries m job timestamp (ReadPriorEqual args) built = read_prior_equal-tells m job args
change-tells sources entries m job timestamp (Chain args) built = chain-tells m job args
change-tells sources entries m job timestamp (Write args) built = write_record-tells m job timestamp args
change-tells sources entries m job timestamp (Update args) built = update_record-tells m job timestamp args
change-tells sources entries m job timestamp (Delete args) built = delete_record-tells m job timestamp args
change-tells sources entries m job timestamp (Unlock args) built = unlock-tells m job args
change-tells sources entries m job timestamp (EndJob args) built = ok-tells _

pub refused-told : (sources : List NamedSource) (entries : List Entry) (m : Memory) (job timestamp : ℕ) (request : Request) (reply : Reply) → is_built request ≡ true
    → change sources entries m job timestamp request ≡ Err reply → is_fault reply ≡ false
refused-told sources entries m job timestamp request reply built refused =
    told-of (change sources entries m job timestamp request) reply (change-tells sources entries m job timestamp request built) refused

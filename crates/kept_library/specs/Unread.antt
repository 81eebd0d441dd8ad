-- When a request is refused because the journal doesn't read back as it was deposited. (Our own.)
use Rattle.std.specs.Prelude.{◌≡◌, ℕ, Bool, true, false}
use Rattle.library_model.specs.declared.calls.Call.{Call}
use Rattle.library_model.specs.declared.replies.Reply.TheVariants.{BlockChanged}
use Rattle.library_model.specs.declared.requests.Request.{Request}
use Rattle.library_model.specs.declared.requests.Request.TheVariants.{CreatePhysicalFile, CreateLogicalFile, DeleteFile, AddMember, ClearMember, ReorganizeMember, StartJournaling, EndJournaling, ChangeJournal, DeleteReceiver, Checkpoint, DisplayJournal, ApplyChanges, RemoveChanges, StartCommitment, EndCommitment, Commit, Rollback, OpenFile, CloseFile, SetLowerLimit, SetGreaterThan, Read, ReadPrior, ReadEqual, ReadPriorEqual, Chain, Write, Update, Delete, Unlock, EndJob}
use Rattle.block_places.specs.State.{State}

-- DSPJRN, APYJRNCHG and RMVJRNCHG
abbrev pub reads_journal : Request → Bool
reads_journal (DisplayJournal args) = true
reads_journal (ApplyChanges args) = true
reads_journal (RemoveChanges args) = true
reads_journal (CreatePhysicalFile args) = false
reads_journal (CreateLogicalFile args) = false
reads_journal (DeleteFile args) = false
reads_journal (AddMember args) = false
reads_journal (ClearMember args) = false
reads_journal (ReorganizeMember args) = false
reads_journal (StartJournaling args) = false
reads_journal (EndJournaling args) = false
reads_journal ChangeJournal = false
reads_journal (DeleteReceiver args) = false
reads_journal Checkpoint = false
reads_journal (StartCommitment args) = false
reads_journal EndCommitment = false
reads_journal Commit = false
reads_journal Rollback = false
reads_journal (OpenFile args) = false
reads_journal (CloseFile args) = false
reads_journal (SetLowerLimit args) = false
reads_journal (SetGreaterThan args) = false
reads_journal (Read args) = false
reads_journal (ReadPrior args) = false
reads_journal (ReadEqual args) = false
reads_journal (ReadPriorEqual args) = false
reads_journal (Chain args) = false
reads_journal (Write args) = false
reads_journal (Update args) = false
reads_journal (Delete args) = false
reads_journal (Unlock args) = false
reads_journal (EndJob args) = false

-- the call read the journal, and a block of it didn't read back as the entries that were deposited, as it always does over a store that tells of its bytes:
-- the call is refused, and nothing has changed
pub record IsUnread (tells : Type 0) (s : State) (call : Call) (t : State) : Type 0 where
  pub reads : reads_journal call.request ≡ true
  pub untold : tells → ⊥
  pub sequence : ℕ
  pub refused : call.reply ≡ BlockChanged sequence
  pub same : t ≡ s

-- What the journal leaves still is the library after what is done, request by request.
use Rattle.std.proofs.Common.{◌≡◌, ℕ, ◌-◌, ◌==◌, slice_get, Bool, true, false, cond, IsTrue, List, Option, Some, None, Ok, refl}
use Rattle.entry_codec.specs.declared.entries.Entry.{Entry}
use Rattle.library_model.specs.declared.requests.Request.{Request}
use Rattle.library_model.specs.declared.requests.Request.TheVariants.{CreatePhysicalFile, CreateLogicalFile, DeleteFile, AddMember, ClearMember, ReorganizeMember, StartJournaling, EndJournaling, ChangeJournal, DeleteReceiver, Checkpoint, DisplayJournal, ApplyChanges, RemoveChanges, StartCommitment, EndCommitment, Commit, Rollback, OpenFile, CloseFile, SetLowerLimit, SetGreaterThan, Read, ReadPrior, ReadEqual, ReadPriorEqual, Chain, Write, Update, Delete, Unlock, EndJob}
use Rattle.library_model.specs.declared.sources.NamedSource.{NamedSource}
use Rattle.library_steps.specs.State.{State, JobState, job_at, job_of, memory_of, or_new}
use Rattle.library_steps.specs.Change.{Change}
use Rattle.library_steps.specs.History.{is_running}
use Rattle.library_steps.specs.Step.{change}
use Rattle.joint_state.specs.Sound.{MayBeRead, after}
use Rattle.replayed_histories.specs.Replayed.{AreReplaysKeptByThese, IsReplayed, leaves_records}
use Rattle.replayed_histories.proofs.CommitRequests.{commit-replayed}
use Rattle.replayed_histories.proofs.JobRequests.{change_journal-replayed, close_file-replayed, display_journal-replayed, end_commitment-replayed, open_file-replayed, position-replayed, read-replayed, save-replayed, start_commitment-replayed, unlock-replayed}
use Rattle.replayed_histories.proofs.ReceiverRequests.{delete_receiver-replayed}

running-some : (o : Option JobState) → IsTrue (is_running o) → o ≡ Some (or_new o)
running-some None running = absurd cc
running-some (Some job) running = refl

-- a job that runs is one of the jobs
pub job-there : (s : State) (job : ℕ) → IsTrue (is_running (job_at job s.jobs)) → slice_get s.jobs (job - 1) ≡ Some (job_of job (memory_of s))
job-there s job running =
    by (job == 0) (running-some (job_at job s.jobs) running)
  where
    by : (b : Bool) → cond b None (slice_get s.jobs (job - 1)) ≡ Some (job_of job (memory_of s)) → slice_get s.jobs (job - 1) ≡ Some (job_of job (memory_of s))
    by true is = absurd cc
    by false is = is

by_request : (s : State) → IsReplayed s → (read : List Entry) → MayBeRead s read → (sources : List NamedSource) (job timestamp : ℕ) (request : Request) (done : Change)
    → IsTrue (is_running (job_at job s.jobs)) → leaves_records request ≡ true → done.memory.checkpoint ≡ 0
    → change sources read (memory_of s) job timestamp request ≡ Ok done → IsReplayed (after s done)
unfolding change
by_request s r read reads sources job timestamp (CreatePhysicalFile args) done running these none h = absurd cc
by_request s r read reads sources job timestamp (CreateLogicalFile args) done running these none h = absurd cc
by_request s r read reads sources job timestamp (DeleteFile args) done running these none h = absurd cc
by_request s r read reads sources job timestamp (AddMember args) done running these none h = absurd cc
by_request s r read reads sources job timestamp (ClearMember args) done running these none h = absurd cc
by_request s r read reads sources job timestamp (ReorganizeMember args) done running these none h = absurd cc
by_request s r read reads sources job timestamp (StartJournaling args) done running these none h = absurd cc
by_request s r read reads sources job timestamp (EndJournaling args) done running these none h = absurd cc
by_request s r read reads sources job timestamp ChangeJournal done running these none h = change_journal-replayed s r job timestamp done h
by_request s r read reads sources job timestamp (DeleteReceiver args) done running these none h = delete_receiver-replayed s r read reads args done h
by_request s r read reads sources job timestamp Checkpoint done running these none h = save-replayed s r done h none
by_request s r read reads sources job timestamp (DisplayJournal args) done running these none h = display_journal-replayed s r read args done h
by_request s r read reads sources job timestamp (ApplyChanges args) done running these none h = absurd cc
by_request s r read reads sources job timestamp (RemoveChanges args) done running these none h = absurd cc
by_request s r read reads sources job timestamp (StartCommitment args) done running these none h = start_commitment-replayed s r job timestamp args done h
by_request s r read reads sources job timestamp EndCommitment done running these none h = end_commitment-replayed s r job timestamp done h
by_request s r read reads sources job timestamp Commit done running these none h = commit-replayed s r job timestamp (job-there s job running) done h
by_request s r read reads sources job timestamp Rollback done running these none h = absurd cc
by_request s r read reads sources job timestamp (OpenFile args) done running these none h = open_file-replayed s r job args done h
by_request s r read reads sources job timestamp (CloseFile args) done running these none h = close_file-replayed s r job args done h
by_request s r read reads sources job timestamp (SetLowerLimit args) done running these none h = position-replayed s r _ job done h
by_request s r read reads sources job timestamp (SetGreaterThan args) done running these none h = position-replayed s r _ job done h
by_request s r read reads sources job timestamp (Read args) done running these none h = read-replayed s r _ job done h
by_request s r read reads sources job timestamp (ReadPrior args) done running these none h = read-replayed s r _ job done h
by_request s r read reads sources job timestamp (ReadEqual args) done running these none h = read-replayed s r _ job done h
by_request s r read reads sources job timestamp (ReadPriorEqual args) done running these none h = read-replayed s r _ job done h
by_request s r read reads sources job timestamp (Chain args) done running these none h = read-replayed s r _ job done h
by_request s r read reads sources job timestamp (Write args) done running these none h = absurd cc
by_request s r read reads sources job timestamp (Update args) done running these none h = absurd cc
by_request s r read reads sources job timestamp (Delete args) done running these none h = absurd cc
by_request s r read reads sources job timestamp (Unlock args) done running these none h = unlock-replayed s r job args done h
by_request s r read reads sources job timestamp (EndJob args) done running these none h = absurd cc

pub these-kept : AreReplaysKeptByThese
these-kept s done d these none r = by_request s r d.read d.reads d.sources d.job d.timestamp d.request done d.running these none d.does

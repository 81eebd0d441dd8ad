-- What each request keeps that makes no checkpoint, and each legal history in which no call asks for one.
use Rattle.std.proofs.Common.{◌≡◌, ℕ, true, inl, IsTrue, List, Ok, refl, sym, ap}
use Rattle.entry_codec.specs.declared.entries.Entry.{Entry}
use Rattle.library_model.specs.declared.calls.Call.{Call}
use Rattle.library_model.specs.declared.requests.Request.{Request}
use Rattle.library_model.specs.declared.requests.Request.TheVariants.{CreatePhysicalFile, CreateLogicalFile, DeleteFile, AddMember, ClearMember, ReorganizeMember, StartJournaling, EndJournaling, ChangeJournal, DeleteReceiver, Checkpoint, DisplayJournal, ApplyChanges, RemoveChanges, StartCommitment, EndCommitment, Commit, Rollback, OpenFile, CloseFile, SetLowerLimit, SetGreaterThan, Read, ReadPrior, ReadEqual, ReadPriorEqual, Chain, Write, Update, Delete, Unlock, EndJob}
use Rattle.library_model.specs.declared.sources.NamedSource.{NamedSource}
use Rattle.library_steps.specs.Change.{Change, changed}
use Rattle.library_steps.specs.History.{is_running}
use Rattle.library_steps.specs.State.{State, job_at, memory_of}
use Rattle.library_steps.specs.Step.{change}
use Rattle.joint_state.specs.Sound.{Does, IsKept, IsSound, MayBeRead, after}
use Rattle.sound_histories.specs.Reached.{IsReached}
use Rattle.sound_histories.proofs.HistoryLemmas.{ReadingsStaySound}
use Rattle.replayed_histories.specs.Replayed.{AreReplaysKept, IsReplayed, leaves_records}
use Rattle.replayed_histories.specs.Unsaved.{AsksNoCheckpoint}
use Rattle.replayed_histories.proofs.AddRequests.{add-replayed}
use Rattle.replayed_histories.proofs.BackRequests.{end_job-replayed, rollback-replayed}
use Rattle.replayed_histories.proofs.BeginRequests.{start_journaling-replayed}
use Rattle.replayed_histories.proofs.ClearRequests.{clear-replayed, end-replayed, reorganize-replayed}
use Rattle.replayed_histories.proofs.CreateRequests.{create_logical-replayed}
use Rattle.replayed_histories.proofs.DeleteRequests.{delete_file-replayed}
use Rattle.replayed_histories.proofs.HistoryLemmas.{histories-replayed}
use Rattle.replayed_histories.proofs.PhysicalRequests.{create_physical-replayed}
use Rattle.replayed_histories.proofs.PutRequests.{delete-replayed, update-replayed, write-replayed}
use Rattle.replayed_histories.proofs.RangeRequests.{apply_changes-replayed, remove_changes-replayed}
use Rattle.replayed_histories.proofs.StepLemmas.{job-there, these-kept}

module _ (s : State) (sound : IsSound s) (r : IsReplayed s) (sources : List NamedSource) (job timestamp : ℕ) (done : Change) (running : IsTrue (is_running (job_at job s.jobs)))
    (none : done.memory.checkpoint ≡ 0) (read : List Entry) (reads : MayBeRead s read) where
  -- one that leaves files, members and records alone
  quiet : (request : Request) → leaves_records request ≡ true → change sources read (memory_of s) job timestamp request ≡ Ok done → IsReplayed (after s done)
  quiet request leaves h =
      let d : Does s done =
      record { sound = sound; sources = sources; job = job; timestamp = timestamp; request = request; running = running; read = read; reads = reads; does = h }
      in
      these-kept s done d leaves none r

  by_request : (request : Request) → change sources read (memory_of s) job timestamp request ≡ Ok done → IsReplayed (after s done)
  unfolding change
  by_request (CreatePhysicalFile args) h = create_physical-replayed sources args s sound r job timestamp done running h
  by_request (CreateLogicalFile args) h = create_logical-replayed sources args s sound r job timestamp done running h
  by_request (DeleteFile args) h = delete_file-replayed args s sound r job timestamp done running h
  by_request (AddMember args) h = add-replayed args s sound r job timestamp done running h
  by_request (ClearMember args) h = clear-replayed args s sound r job timestamp done running h
  by_request (ReorganizeMember args) h = reorganize-replayed args s sound r job timestamp done running h
  by_request (StartJournaling args) h = start_journaling-replayed s sound r job timestamp args done h
  by_request (EndJournaling args) h = end-replayed args s sound r job timestamp done running h
  by_request ChangeJournal h = quiet ChangeJournal refl h
  by_request (DeleteReceiver args) h = quiet (DeleteReceiver args) refl h
  by_request Checkpoint h = quiet Checkpoint refl h
  by_request (DisplayJournal args) h = quiet (DisplayJournal args) refl h
  by_request (ApplyChanges args) h = apply_changes-replayed s sound r job timestamp read reads args done h
  by_request (RemoveChanges args) h = remove_changes-replayed s sound r job timestamp read reads args done h
  by_request (StartCommitment args) h = quiet (StartCommitment args) refl h
  by_request EndCommitment h = quiet EndCommitment refl h
  by_request Commit h = quiet Commit refl h
  by_request Rollback h = rollback-replayed s r sound job timestamp (job-there s job running) done h
  by_request (OpenFile args) h = quiet (OpenFile args) refl h
  by_request (CloseFile args) h = quiet (CloseFile args) refl h
  by_request (SetLowerLimit args) h = quiet (SetLowerLimit args) refl h
  by_request (SetGreaterThan args) h = quiet (SetGreaterThan args) refl h
  by_request (Read args) h = quiet (Read args) refl h
  by_request (ReadPrior args) h = quiet (ReadPrior args) refl h
  by_request (ReadEqual args) h = quiet (ReadEqual args) refl h
  by_request (ReadPriorEqual args) h = quiet (ReadPriorEqual args) refl h
  by_request (Chain args) h = quiet (Chain args) refl h
  by_request (Write args) h = write-replayed args s sound r job timestamp done running h
  by_request (Update args) h = update-replayed args s sound r job timestamp done running h
  by_request (Delete args) h = delete-replayed args s sound r job timestamp done running h
  by_request (Unlock args) h = quiet (Unlock args) refl h
  by_request (EndJob args) h = end_job-replayed s r sound job timestamp (job-there s job running) done h

pub all-kept : AreReplaysKept
all-kept s done d none r = by_request s d.sound r d.sources d.job d.timestamp done d.running none d.read d.reads d.request d.does

-- what leaves each answer sound, whatever was read, leaves each change sound
sounds : ReadingsStaySound → IsKept IsSound
sounds answers s done d = answers d.sources d.read s (after s done) d.job d.timestamp d.request done.reply d.sound d.reads d.running (inl (ap (changed s) (sym d.does)))

pub all-histories : ReadingsStaySound → (sources : List NamedSource) (names : List (List ℕ)) (calls : List Call) (s : State) → AsksNoCheckpoint calls → IsReached sources names calls s → IsReplayed s
all-histories answers = histories-replayed all-kept (sounds answers)

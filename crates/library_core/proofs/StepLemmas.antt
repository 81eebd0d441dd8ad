-- What the change of each request that is built leaves: which jobs run.
use Rattle.std.proofs.Common.{◌≡◌, ◌∙◌, ℕ, ◌-◌, false, IsTrue, List, Result, refl, sym, ap}
use Rattle.entry_codec.specs.declared.entries.Entry.{Entry}
use Rattle.built_requests.specs.Built.{is_built}
use Rattle.library_model.specs.Ending.{is_end_job}
use Rattle.library_model.specs.declared.replies.Reply.{Reply}
use Rattle.library_model.specs.declared.requests.EndJob.{EndJob}
use Rattle.library_model.specs.declared.requests.Request.{Request}
use Rattle.library_model.specs.declared.requests.Request.TheVariants as request
use Rattle.library_model.specs.declared.sources.NamedSource.{NamedSource}
use Rattle.library_steps.specs.State.{Memory, JobState, job_at, job_changed, job_of}
use Rattle.library_steps.specs.Change.{Change}
use Rattle.library_steps.specs.Commitment.{changes_of}
use Rattle.library_steps.specs.EndJob.{ended_job, end_change}
use Rattle.library_steps.specs.History.{is_running}
use Rattle.library_steps.specs.Step.{change}
use Rattle.library_core.specs.Running.{runs_after}
use Rattle.library_core.proofs.RunLemmas.{runs-ended, runs-on}
use Rattle.library_core.proofs.SpareLemmas.{SparesIn}
use Rattle.library_core.proofs.ResultLemmas.{Holds, wider-holds}
use Rattle.library_core.proofs.FileSteps.{create_physical_file-spares, create_logical_file-spares, delete_file-spares, add_member-spares, clear_member-spares, reorganize_member-spares}
use Rattle.library_core.proofs.FileSteps.{start_journaling-spares, end_journaling-spares}
use Rattle.library_core.proofs.RecordSteps.{open_file-spares, close_file-spares, write_record-spares, update_record-spares, delete_record-spares, unlock-spares, set_lower_limit-spares}
use Rattle.library_core.proofs.RecordSteps.{set_greater_than-spares, read-spares, read_prior-spares, read_equal-spares, read_prior_equal-spares, chain-spares}
use Rattle.library_core.proofs.JournalSteps.{change_journal-spares, delete_receiver-spares, display_journal-spares, apply_changes-spares, remove_changes-spares, start_commitment-spares}
use Rattle.library_core.proofs.JournalSteps.{end_commitment-spares, commit-spares, rollback-spares, taken_back-jobs}

pub record Leaves (job : ℕ) (r : Request) (m : Memory) (c : Change) : Type 0 where
  pub runs : (other : ℕ) → is_running (job_at other c.memory.jobs) ≡ runs_after job r m.jobs other

-- a request that ends no job
leaves-spared : (job : ℕ) (r : Request) (m : Memory) (c : Change) → is_end_job r ≡ false → SparesIn m c → Leaves job r m c
leaves-spared job r m c goes_on spares = record {
  runs = λ other. spares.runs other ∙ sym (runs-on job r m.jobs other goes_on);
}

-- ENDJOB ends its own
end_job-leaves : (m : Memory) (job timestamp : ℕ) (args : EndJob) → IsTrue (is_running (job_at job m.jobs)) → Leaves job (request.EndJob args) m (end_change m job timestamp)
end_job-leaves m job timestamp args running =
    let jobs = taken_back-jobs (changes_of (job_of job m).cycle) m in
    record { runs = λ other. ap (λ (js : List JobState). is_running (job_at other (job_changed (job - 1) ended_job js))) jobs ∙ runs-ended job other m.jobs running }

-- what every change leaves
module _ (sources : List NamedSource) (entries : List Entry) (m : Memory) (job timestamp : ℕ) (running : IsTrue (is_running (job_at job m.jobs))) where
  spared : (r : Request) (wanted : Result Change Reply) → is_end_job r ≡ false → Holds wanted (SparesIn m) → Holds wanted (Leaves job r m)
  spared r wanted goes_on spares = wider-holds wanted (SparesIn m) (Leaves job r m) (λ c kept. leaves-spared job r m c goes_on kept) spares

  pub change-leaves : (r : Request) → IsTrue (is_built r) → Holds (change sources entries m job timestamp r) (Leaves job r m)
  unfolding change
  change-leaves (request.CreatePhysicalFile args) built = spared (request.CreatePhysicalFile args) _ refl (create_physical_file-spares sources m job timestamp args)
  change-leaves (request.CreateLogicalFile args) built = spared (request.CreateLogicalFile args) _ refl (create_logical_file-spares sources m job timestamp args)
  change-leaves (request.DeleteFile args) built = spared (request.DeleteFile args) _ refl (delete_file-spares m job timestamp args)
  change-leaves (request.AddMember args) built = spared (request.AddMember args) _ refl (add_member-spares m job timestamp args)
  change-leaves (request.ClearMember args) built = spared (request.ClearMember args) _ refl (clear_member-spares m job timestamp args)
  change-leaves (request.ReorganizeMember args) built = spared (request.ReorganizeMember args) _ refl (reorganize_member-spares m job timestamp args)
  change-leaves (request.StartJournaling args) built = spared (request.StartJournaling args) _ refl (start_journaling-spares m job timestamp args)
  change-leaves (request.EndJournaling args) built = spared (request.EndJournaling args) _ refl (end_journaling-spares m job timestamp args)
  change-leaves request.ChangeJournal built = spared request.ChangeJournal _ refl (change_journal-spares m job timestamp)
  change-leaves (request.DeleteReceiver args) built = spared (request.DeleteReceiver args) _ refl (delete_receiver-spares entries m args)
  change-leaves request.Checkpoint built = absurd cc
  change-leaves (request.DisplayJournal args) built = spared (request.DisplayJournal args) _ refl (display_journal-spares entries m args)
  change-leaves (request.ApplyChanges args) built = spared (request.ApplyChanges args) _ refl (apply_changes-spares entries m job timestamp args)
  change-leaves (request.RemoveChanges args) built = spared (request.RemoveChanges args) _ refl (remove_changes-spares entries m job timestamp args)
  change-leaves (request.StartCommitment args) built = spared (request.StartCommitment args) _ refl (start_commitment-spares m job timestamp args)
  change-leaves request.EndCommitment built = spared request.EndCommitment _ refl (end_commitment-spares m job timestamp)
  change-leaves request.Commit built = spared request.Commit _ refl (commit-spares m job timestamp)
  change-leaves request.Rollback built = spared request.Rollback _ refl (rollback-spares m job timestamp)
  change-leaves (request.OpenFile args) built = spared (request.OpenFile args) _ refl (open_file-spares m job args)
  change-leaves (request.CloseFile args) built = spared (request.CloseFile args) _ refl (close_file-spares m job args)
  change-leaves (request.SetLowerLimit args) built = spared (request.SetLowerLimit args) _ refl (set_lower_limit-spares m job args)
  change-leaves (request.SetGreaterThan args) built = spared (request.SetGreaterThan args) _ refl (set_greater_than-spares m job args)
  change-leaves (request.Read args) built = spared (request.Read args) _ refl (read-spares m job args)
  change-leaves (request.ReadPrior args) built = spared (request.ReadPrior args) _ refl (read_prior-spares m job args)
  change-leaves (request.ReadEqual args) built = spared (request.ReadEqual args) _ refl (read_equal-spares m job args)
  change-leaves (request.ReadPriorEqual args) built = spared (request.ReadPriorEqual args) _ refl (read_prior_equal-spares m job args)
  change-leaves (request.Chain args) built = spared (request.Chain args) _ refl (chain-spares m job args)
  change-leaves (request.Write args) built = spared (request.Write args) _ refl (write_record-spares m job timestamp args)
  change-leaves (request.Update args) built = spared (request.Update args) _ refl (update_record-spares m job timestamp args)
  change-leaves (request.Delete args) built = spared (request.Delete args) _ refl (delete_record-spares m job timestamp args)
  change-leaves (request.Unlock args) built = spared (request.Unlock args) _ refl (unlock-spares m job args)
  change-leaves (request.EndJob args) built = record { holds = end_job-leaves m job timestamp args running }

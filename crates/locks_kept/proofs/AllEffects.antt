-- Each request that is done is of one of these kinds.
use Rattle.std.proofs.Common.{◌≡◌, ℕ, ◌+◌, ◌-◌, List, [], ◌∷◌, None, false, refl, ap}
use Rattle.std.specs.List.{AllByRecursion}
use Rattle.std.proofs.lemmas.Result.{IfOk-at_ok}
use Rattle.entry_codec.specs.declared.entries.Entry.{Entry}
use Rattle.journal_model.specs.Replay.{before_of}
use Rattle.journal_model.specs.Rollback.{MemberChange}
use Rattle.library_model.specs.declared.replies.Reply.TheVariants as replies
use Rattle.library_model.specs.declared.requests.Request.{Request}
use Rattle.library_model.specs.declared.requests.Request.TheVariants as request
use Rattle.library_model.specs.declared.requests.StartCommitment.{StartCommitment}
use Rattle.library_model.specs.declared.sources.NamedSource.{NamedSource}
use Rattle.library_steps.specs.State.{Memory, JobState, job_of, job_changed, memory_of, with_opens, State}
use Rattle.library_steps.specs.Change.{Change}
use Rattle.library_steps.specs.Step.{change}
use Rattle.library_steps.specs.Refusals.{found, refuse_if, refuse_with}
use Rattle.library_steps.specs.SlotChange.{with_slot}
use Rattle.library_steps.specs.Commitment.{start_plan, start_commitment, end_plan, end_commitment, commit, rollback, has_committed_open, taken_back, changes_of, rolled_back_open, without_cycle}
use Rattle.library_steps.specs.EndJob.{ended_job, end_job}
use Rattle.joint_state.specs.Lawful.{AreBased, OpensHold}
use Rattle.joint_state.specs.Sound.{Does}
use Rattle.locks_kept.proofs.AroundEffects.{Leaves, AreBelow, create_logical_file-effect, start_journaling-effect, end_journaling-effect, change_journal-effect, delete_receiver-effect, save-effect, display_journal-effect, clear_member-effect, reorganize_member-effect, apply_changes-effect, remove_changes-effect, delete_file-effect, create_physical_file-effect, add_member-effect}
use Rattle.locks_kept.proofs.ChangeEffects.{write_record-effect, update_record-effect, delete_record-effect}
use Rattle.locks_kept.proofs.Effects.{Effect, Start, End, Committing, RollingBack, EndingJob}
use Rattle.locks_kept.proofs.OpenEffects.{open_file-effect, close_file-effect, set_lower_limit-effect, set_greater_than-effect, unlock-effect, read-does, read_prior-does, read_equal-does, read_prior_equal-does, chain-does}
use Rattle.locks_kept.proofs.RefusalLemmas.{Holds, each-holds, refuse_if-holds, refuse_with-holds, then-holds, bind-holds, does-holds, wider-holds}

-- ---- boundaries

start_commitment-effect : (m : Memory) (job timestamp : ℕ) (args : StartCommitment) → Holds (start_commitment m job timestamp args) (Leaves m job)
start_commitment-effect m job timestamp args =
    does-holds _ (start_plan m job) (Leaves m job) (each-holds (start_plan m job) _ (λ started. Start (record { level = args.level; jobs = refl; locks = refl; members = refl })))

pub record MayEnd (job : JobState) : Type 0 where
  pub cycle : job.cycle ≡ None
  pub opens : has_committed_open job ≡ false

end_plan-known : (m : Memory) (job : ℕ) → Holds (end_plan m job) (λ ended. MayEnd (job_of job m))
unfolding end_plan
end_plan-known m job =
    then-holds (found (job_of job m).level replies.NoDefinition) _ _ (λ level.
    bind-holds (refuse_with (λ cycle. replies.PendingChanges cycle.sequence) (job_of job m).cycle) (λ passed. (job_of job m).cycle ≡ None) _ _ (refuse_with-holds _ (job_of job m).cycle)
    (λ passed cycle.
    wider-holds (refuse_if (has_committed_open (job_of job m)) (replies.InUse job)) _ _ (λ passed none. record { cycle = cycle; opens = none })
    (refuse_if-holds (has_committed_open (job_of job m)) (replies.InUse job))))

end_commitment-effect : (m : Memory) (job timestamp : ℕ) → Holds (end_commitment m job timestamp) (Leaves m job)
end_commitment-effect m job timestamp =
    does-holds _ (end_plan m job) (Leaves m job) (wider-holds (end_plan m job) (λ ended. MayEnd (job_of job m)) _ (λ ended may.
    End (record { jobs = refl; locks = refl; members = refl; cycle = may.cycle; opens = may.opens })) (end_plan-known m job))

commit-effect : (m : Memory) (job timestamp : ℕ) → Holds (commit m job timestamp) (Leaves m job)
commit-effect m job timestamp =
    does-holds _ _ (Leaves m job) (each-holds _ _ (λ level. Committing (record { jobs = refl; locks = refl; members = refl })))

-- what is taken back is in members alone
pub taken_back-jobs : (undos : List MemberChange) (m : Memory) → (taken_back undos m).jobs ≡ m.jobs
taken_back-jobs [] m = refl
taken_back-jobs (undo ∷ undos) m = taken_back-jobs undos (with_slot undo.member (undo.change.place + 1) (before_of undo.change) m)

rollback-effect : (m : Memory) (job timestamp : ℕ) → Holds (rollback m job timestamp) (Leaves m job)
rollback-effect m job timestamp =
    does-holds _ _ (Leaves m job) (each-holds _ _ (λ level. RollingBack (record {
      jobs = ap (job_changed (job - 1) (λ j. with_opens rolled_back_open (without_cycle j))) (taken_back-jobs (changes_of (job_of job m).cycle) m);
      locks = refl;
      members = refl;
    })))

end_job-effect : (m : Memory) (job timestamp : ℕ) → Holds (end_job m job timestamp) (Leaves m job)
end_job-effect m job timestamp = record {
  holds = EndingJob (record {
    jobs = ap (job_changed (job - 1) ended_job) (taken_back-jobs (changes_of (job_of job m).cycle) m);
    locks = refl;
    members = refl;
  });
}

-- ---- all requests

-- what the effects need of a library
pub record IsLawful (m : Memory) : Type 0 where
  pub below : AreBelow m
  pub based : AreBased m.files
  pub opens : AllByRecursion (OpensHold m.files) m.jobs

change-effect : (sources : List NamedSource) (entries : List Entry) (m : Memory) (job timestamp : ℕ) (r : Request) → IsLawful m → Holds (change sources entries m job timestamp r) (Leaves m job)
unfolding change
change-effect sources entries m job timestamp (request.CreatePhysicalFile args) lawful = create_physical_file-effect sources m job timestamp args lawful.below
change-effect sources entries m job timestamp (request.CreateLogicalFile args) lawful = create_logical_file-effect sources m job timestamp args
change-effect sources entries m job timestamp (request.DeleteFile args) lawful = delete_file-effect m job timestamp args lawful.based
change-effect sources entries m job timestamp (request.AddMember args) lawful = add_member-effect m job timestamp args lawful.below
change-effect sources entries m job timestamp (request.ClearMember args) lawful = clear_member-effect m job timestamp args
change-effect sources entries m job timestamp (request.ReorganizeMember args) lawful = reorganize_member-effect m job timestamp args
change-effect sources entries m job timestamp (request.StartJournaling args) lawful = start_journaling-effect m job timestamp args
change-effect sources entries m job timestamp (request.EndJournaling args) lawful = end_journaling-effect m job timestamp args
change-effect sources entries m job timestamp request.ChangeJournal lawful = change_journal-effect m job timestamp
change-effect sources entries m job timestamp (request.DeleteReceiver args) lawful = delete_receiver-effect entries m job args
change-effect sources entries m job timestamp request.Checkpoint lawful = save-effect m job
change-effect sources entries m job timestamp (request.DisplayJournal args) lawful = display_journal-effect entries m job args
change-effect sources entries m job timestamp (request.ApplyChanges args) lawful = apply_changes-effect entries m job timestamp args
change-effect sources entries m job timestamp (request.RemoveChanges args) lawful = remove_changes-effect entries m job timestamp args
change-effect sources entries m job timestamp (request.StartCommitment args) lawful = start_commitment-effect m job timestamp args
change-effect sources entries m job timestamp request.EndCommitment lawful = end_commitment-effect m job timestamp
change-effect sources entries m job timestamp request.Commit lawful = commit-effect m job timestamp
change-effect sources entries m job timestamp request.Rollback lawful = rollback-effect m job timestamp
change-effect sources entries m job timestamp (request.OpenFile args) lawful = open_file-effect m job args
change-effect sources entries m job timestamp (request.CloseFile args) lawful = close_file-effect m job args
change-effect sources entries m job timestamp (request.SetLowerLimit args) lawful = set_lower_limit-effect m job args
change-effect sources entries m job timestamp (request.SetGreaterThan args) lawful = set_greater_than-effect m job args
change-effect sources entries m job timestamp (request.Read args) lawful = read-does m job args lawful.opens
change-effect sources entries m job timestamp (request.ReadPrior args) lawful = read_prior-does m job args lawful.opens
change-effect sources entries m job timestamp (request.ReadEqual args) lawful = read_equal-does m job args lawful.opens
change-effect sources entries m job timestamp (request.ReadPriorEqual args) lawful = read_prior_equal-does m job args lawful.opens
change-effect sources entries m job timestamp (request.Chain args) lawful = chain-does m job args lawful.opens
change-effect sources entries m job timestamp (request.Write args) lawful = write_record-effect m job timestamp args
change-effect sources entries m job timestamp (request.Update args) lawful = update_record-effect m job timestamp args
change-effect sources entries m job timestamp (request.Delete args) lawful = delete_record-effect m job timestamp args
change-effect sources entries m job timestamp (request.Unlock args) lawful = unlock-effect m job args
change-effect sources entries m job timestamp (request.EndJob args) lawful = end_job-effect m job timestamp

pub effect-of : (s : State) (done : Change) (does : Does s done) → Effect (memory_of s) does.job done.memory
effect-of s done does =
    IfOk-at_ok (Leaves (memory_of s) does.job) does.does (change-effect does.sources s.entries (memory_of s) does.job does.timestamp does.request lawful).holds
  where
    lawful : IsLawful (memory_of s)
    lawful = record { below = does.sound.library.numbers; based = does.sound.library.bases; opens = does.sound.library.opens }

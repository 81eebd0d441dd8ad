-- What the requests through an open and those of commitment control leave of the keys.
use Rattle.std.proofs.Common.{◌≡◌, inl, inr, ◌∙◌, ℕ, ◌-◌, List, [], Some, None, refl, subst, ap}
use Rattle.file_model.specs.Positions.{next_from, prior_from, next_equal, prior_equal}
use Rattle.logical_model.specs.Readings.{join_in}
use Rattle.journal_model.specs.Rollback.{MemberChange}
use Rattle.member_slots.specs.Members.{NumberedMembers}
use Rattle.library_model.specs.Named.{Named}
use Rattle.library_model.specs.declared.replies.Reply.TheVariants.{EndOfFile, BeginOfFile}
use Rattle.library_model.specs.declared.requests.ChainRecord.{ChainRecord}
use Rattle.library_model.specs.declared.requests.OpenFile.{OpenFile}
use Rattle.library_model.specs.declared.requests.OpenName.{OpenName}
use Rattle.library_model.specs.declared.requests.ReadEqual.{ReadEqual}
use Rattle.library_model.specs.declared.requests.ReadRecord.{ReadRecord}
use Rattle.library_model.specs.declared.requests.SetPosition.{SetPosition}
use Rattle.library_model.specs.declared.requests.StartCommitment.{StartCommitment}
use Rattle.library_steps.specs.State.{State, Memory, FileState, JobState, memory_of, job_changed, job_of, with_opens}
use Rattle.library_steps.specs.ChangeRecord.{unlock, unlock_change, unlock_plan, without_current}
use Rattle.library_steps.specs.Commitment.{changes_of, commit, committed_open, end_commitment, end_plan, rollback, rollback_change, rolled_back_open, start_commitment, taken_back, with_level, without_cycle}
use Rattle.library_steps.specs.EndJob.{end_change, end_job, ended_job}
use Rattle.library_steps.specs.Opens.{close_file, open_file, open_plan, with_open, without_open}
use Rattle.library_steps.specs.Reads.{FoundEntry, NewPosition, chain, chain_plan, has_read, open_changed, position_change, positioned, read, read_change, read_equal, read_equal_plan, read_plan, read_prior, read_prior_equal, set_greater_than, set_lower_limit}
use Rattle.library_steps.specs.Uses.{changes_in}
use Rattle.joint_state.specs.Sound.{IsSound}
use Rattle.key_state.specs.Keys.{changes_by}
use Rattle.key_state.proofs.FormatLemmas.{IsOver}
use Rattle.cycles_kept.proofs.BoundarySteps.{changes-alike, taken_back-files, taken_back-jobs}
use Rattle.cycles_kept.proofs.HoldLemmas.{Holds, effect-holds}
use Rattle.cycles_kept.proofs.JobLemmas.{IsAsking}
use Rattle.keys_kept.proofs.EffectLemmas.{back-stands}
use Rattle.keys_kept.proofs.JobLemmas.{changes-others, changes-own}
use Rattle.keys_kept.proofs.QuietLemmas.{KeysStay, KeysStayIn, job-stays}
use Rattle.keys_kept.proofs.StateLemmas.{changed-apart, slot-taken, slot_in, taken_back-from}

module _ (s : State) (job : ℕ) (asks : IsAsking s job) where
  -- ---- opens

  pub open_file-keys : (args : OpenFile) → Holds (open_file (memory_of s) job args) (KeysStay s)
  open_file-keys args = effect-holds _ (open_plan (memory_of s) job args) (KeysStay s) (λ members. job-stays s _ job (with_open args members) asks refl (inl refl) refl refl)

  pub close_file-keys : (args : OpenName) → Holds (close_file (memory_of s) job args) (KeysStay s)
  close_file-keys args = effect-holds _ _ (KeysStay s) (λ opened. job-stays s _ job (without_open args.open_id) asks refl (inl refl) refl refl)

  pub unlock-keys : (args : OpenName) → Holds (unlock (memory_of s) job args) (KeysStay s)
  unlock-keys args =
      effect-holds (unlock_change (memory_of s) job) (unlock_plan (memory_of s) job args) (KeysStay s)
      (λ it. job-stays s _ job (open_changed it.opened.number without_current) asks refl (inl refl) refl refl)

  -- ---- positions and reads

  position-keys : (new : NewPosition) → KeysStay s (position_change (memory_of s) job new)
  position-keys new = job-stays s _ job (open_changed new.its.opened.number (positioned (join_in new.its.file.spec) new.position)) asks refl (inl refl) refl refl

  pub set_lower_limit-keys : (args : SetPosition) → Holds (set_lower_limit (memory_of s) job args) (KeysStay s)
  set_lower_limit-keys args = effect-holds (position_change (memory_of s) job) _ (KeysStay s) position-keys

  pub set_greater_than-keys : (args : SetPosition) → Holds (set_greater_than (memory_of s) job args) (KeysStay s)
  set_greater_than-keys args = effect-holds (position_change (memory_of s) job) _ (KeysStay s) position-keys

  found-keys : (it : FoundEntry) → KeysStay s (read_change (memory_of s) job it)
  found-keys it = job-stays s _ job (open_changed it.opened.number (has_read it.call it.found)) asks refl (inl refl) refl refl

  pub read-keys : (args : ReadRecord) → Holds (read (memory_of s) job args) (KeysStay s)
  read-keys args = effect-holds (read_change (memory_of s) job) (read_plan next_from next_from EndOfFile (memory_of s) job args) (KeysStay s) found-keys

  pub read_prior-keys : (args : ReadRecord) → Holds (read_prior (memory_of s) job args) (KeysStay s)
  read_prior-keys args = effect-holds (read_change (memory_of s) job) (read_plan prior_from prior_from BeginOfFile (memory_of s) job args) (KeysStay s) found-keys

  pub read_equal-keys : (args : ReadEqual) → Holds (read_equal (memory_of s) job args) (KeysStay s)
  read_equal-keys args = effect-holds (read_change (memory_of s) job) (read_equal_plan next_equal next_equal EndOfFile (memory_of s) job args) (KeysStay s) found-keys

  pub read_prior_equal-keys : (args : ReadEqual) → Holds (read_prior_equal (memory_of s) job args) (KeysStay s)
  read_prior_equal-keys args = effect-holds (read_change (memory_of s) job) (read_equal_plan prior_equal prior_equal BeginOfFile (memory_of s) job args) (KeysStay s) found-keys

  pub chain-keys : (args : ChainRecord) → Holds (chain (memory_of s) job args) (KeysStay s)
  chain-keys args = effect-holds (read_change (memory_of s) job) (chain_plan (memory_of s) job args) (KeysStay s) found-keys

  -- ---- commitment control

  pub start_commitment-keys : (timestamp : ℕ) (args : StartCommitment) → Holds (start_commitment (memory_of s) job timestamp args) (KeysStay s)
  start_commitment-keys timestamp args = effect-holds _ _ (KeysStay s) (λ started. job-stays s _ job (with_level (Some args.level)) asks refl (inl refl) refl refl)

  pub end_commitment-keys : (timestamp : ℕ) → Holds (end_commitment (memory_of s) job timestamp) (KeysStay s)
  end_commitment-keys timestamp = effect-holds _ (end_plan (memory_of s) job) (KeysStay s) (λ ended. job-stays s _ job (with_level None) asks refl (inl refl) refl refl)

  -- nothing of the commit cycle is taken back any more
  pub commit-keys : (timestamp : ℕ) → Holds (commit (memory_of s) job timestamp) (KeysStay s)
  commit-keys timestamp =
      effect-holds _ _ (KeysStay s)
      (λ level. job-stays s _ job (λ j. with_opens committed_open (without_cycle j)) asks refl (inr refl) refl refl)

  -- ---- the commit cycle taken back

  taking-stays : (sound : IsSound s) (new : Memory) (change : JobState → JobState) → new.jobs ≡ job_changed (job - 1) change s.jobs → changes_in (change (job_of job (memory_of s))).cycle ≡ []
      → new.files ≡ s.files → new.members ≡ (taken_back (changes_of (job_of job (memory_of s)).cycle) (memory_of s)).members → KeysStayIn s new
  taking-stays sound new change jobs ended files members has places stand =
      back-stands (memory_of s) new job has places stand (record {
        files = λ format over. subst (λ (fs : Named FileState). IsOver fs format) files over;
        slots = λ member place.
            ap (λ (ms : NumberedMembers). slot_in ms member place)
            (members ∙ ap (λ (us : List MemberChange). (taken_back us (memory_of s)).members) (changes-alike (job_of job (memory_of s)).cycle)
            ∙ taken_back-from (changes_by job (memory_of s)) (memory_of s) (has.places job))
            ∙ slot-taken (changes_by job (memory_of s)) s.members member place (has.places job);
        own = changes-own s new job change asks jobs ∙ ended;
        others = changes-others (memory_of s) new job change asks.first jobs;
        apart = λ other member place differ. changed-apart s sound.joint job other member place differ;
      })

  pub rollback-keys : (sound : IsSound s) (timestamp : ℕ) → Holds (rollback (memory_of s) job timestamp) (KeysStay s)
  rollback-keys sound timestamp =
      effect-holds _ _ (KeysStay s)
      (λ level. taking-stays sound (rollback_change (memory_of s) job timestamp).memory (λ j. with_opens rolled_back_open (without_cycle j))
      (ap (job_changed (job - 1) (λ j. with_opens rolled_back_open (without_cycle j))) (taken_back-jobs (changes_of (job_of job (memory_of s)).cycle) (memory_of s))) refl
      (taken_back-files (changes_of (job_of job (memory_of s)).cycle) (memory_of s)) refl)

  pub end_job-keys : (sound : IsSound s) (timestamp : ℕ) → Holds (end_job (memory_of s) job timestamp) (KeysStay s)
  end_job-keys sound timestamp = record {
    holds = taking-stays sound (end_change (memory_of s) job timestamp).memory ended_job
        (ap (job_changed (job - 1) ended_job) (taken_back-jobs (changes_of (job_of job (memory_of s)).cycle) (memory_of s))) refl
        (taken_back-files (changes_of (job_of job (memory_of s)).cycle) (memory_of s)) refl;
  }

-- What the requests of the journal and of commitment control leave.
use Rattle.std.proofs.Common.{◌≡◌, ℕ, ◌+◌, ◌-◌, None, Some, List, [], ◌∷◌, refl}
use Rattle.entry_codec.specs.declared.entries.Entry.{Entry}
use Rattle.journal_model.specs.Rollback.{MemberChange}
use Rattle.journal_model.specs.Replay.{before_of}
use Rattle.library_model.specs.declared.requests.DeleteReceiver.{DeleteReceiver}
use Rattle.library_model.specs.declared.requests.DisplayJournal.{DisplayJournal}
use Rattle.library_model.specs.declared.requests.JournaledChanges.{JournaledChanges}
use Rattle.library_model.specs.declared.requests.StartCommitment.{StartCommitment}
use Rattle.library_steps.specs.State.{Memory, job_changed, job_of, with_opens}
use Rattle.library_steps.specs.Receivers.{attach_plan, attach_change, change_journal, delete_receiver}
use Rattle.library_steps.specs.JournalReads.{display_journal}
use Rattle.library_steps.specs.Ranges.{range_change, apply_plan, remove_plan, apply_changes, remove_changes}
use Rattle.library_steps.specs.SlotChange.{with_slot}
use Rattle.library_steps.specs.Commitment.{start_commitment, with_level, end_commitment, commit, committed_open, without_cycle, rollback, rolled_back_open, changes_of, taken_back}
use Rattle.library_core.proofs.ResultLemmas.{Holds, each-holds, does-holds}
use Rattle.library_core.proofs.SpareLemmas.{Spares, SparesIn, spares-all, spares-job}

pub change_journal-spares : (m : Memory) (job timestamp : ℕ) → Holds (change_journal m job timestamp) (SparesIn m)
change_journal-spares m job timestamp = does-holds (attach_change m job timestamp) (attach_plan m) (SparesIn m) (each-holds (attach_plan m) _ (λ number. spares-all m.jobs))

pub delete_receiver-spares : (entries : List Entry) (m : Memory) (args : DeleteReceiver) → Holds (delete_receiver entries m args) (SparesIn m)
delete_receiver-spares entries m args = does-holds _ _ (SparesIn m) (each-holds _ _ (λ last. spares-all m.jobs))

pub display_journal-spares : (entries : List Entry) (m : Memory) (args : DisplayJournal) → Holds (display_journal entries m args) (SparesIn m)
display_journal-spares entries m args = does-holds _ _ (SparesIn m) (each-holds _ _ (λ shown. spares-all m.jobs))

pub apply_changes-spares : (entries : List Entry) (m : Memory) (job timestamp : ℕ) (args : JournaledChanges) → Holds (apply_changes entries m job timestamp args) (SparesIn m)
apply_changes-spares entries m job timestamp args =
    does-holds (range_change m) (apply_plan entries m job timestamp args) (SparesIn m) (each-holds (apply_plan entries m job timestamp args) _ (λ work. spares-all m.jobs))

pub remove_changes-spares : (entries : List Entry) (m : Memory) (job timestamp : ℕ) (args : JournaledChanges) → Holds (remove_changes entries m job timestamp args) (SparesIn m)
remove_changes-spares entries m job timestamp args =
    does-holds (range_change m) (remove_plan entries m job timestamp args) (SparesIn m) (each-holds (remove_plan entries m job timestamp args) _ (λ work. spares-all m.jobs))

-- ---- boundaries

-- what is taken back is in members alone
pub taken_back-jobs : (undos : List MemberChange) (m : Memory) → (taken_back undos m).jobs ≡ m.jobs
taken_back-jobs [] m = refl
taken_back-jobs (undo ∷ undos) m = taken_back-jobs undos (with_slot undo.member (undo.change.place + 1) (before_of undo.change) m)

pub start_commitment-spares : (m : Memory) (job timestamp : ℕ) (args : StartCommitment) → Holds (start_commitment m job timestamp args) (SparesIn m)
start_commitment-spares m job timestamp args = does-holds _ _ (SparesIn m) (each-holds _ _ (λ started. spares-job job (with_level (Some args.level)) m.jobs (λ j. refl)))

pub end_commitment-spares : (m : Memory) (job timestamp : ℕ) → Holds (end_commitment m job timestamp) (SparesIn m)
end_commitment-spares m job timestamp = does-holds _ _ (SparesIn m) (each-holds _ _ (λ ended. spares-job job (with_level None) m.jobs (λ j. refl)))

pub commit-spares : (m : Memory) (job timestamp : ℕ) → Holds (commit m job timestamp) (SparesIn m)
commit-spares m job timestamp =
    does-holds _ _ (SparesIn m) (each-holds _ _ (λ level. spares-job job (λ j. with_opens committed_open (without_cycle j)) m.jobs (λ j. refl)))

pub rollback-spares : (m : Memory) (job timestamp : ℕ) → Holds (rollback m job timestamp) (SparesIn m)
rollback-spares m job timestamp = does-holds _ _ (SparesIn m) (each-holds _ _ (λ level. back))
  where
    back : Spares m.jobs (job_changed (job - 1) (λ j. with_opens rolled_back_open (without_cycle j)) (taken_back (changes_of (job_of job m).cycle) m).jobs)
    back = rw (taken_back-jobs (changes_of (job_of job m).cycle) m)
        (spares-job job (λ j. with_opens rolled_back_open (without_cycle j)) m.jobs (λ j. refl))

-- What the requests of commitment control leave of the open commit cycles: that of their job ends, and those of others stand.
use Rattle.std.proofs.Common.{◌≡◌, ◌≢◌, ◌∙◌, ℕ, ◌+◌, ◌-◌, List, [], ◌∷◌, Option, Some, None, subst, refl, sym, ap}
use Rattle.std.specs.List.{AllByRecursion}
use Rattle.lock_table.specs.declared.lock.RecordId.{RecordId}
use Rattle.lock_table.specs.declared.levels.Call.{Call}
use Rattle.lock_table.specs.declared.levels.Call.TheVariants.{Commit, Rollback, EndCommitment, EndJob}
use Rattle.lock_table.specs.Table.{HoldsChange}
use Rattle.lock_table.proofs.LawLemmas.{HoldsChange-others}
use Rattle.journal_model.specs.Replay.{before_of}
use Rattle.journal_model.specs.Rollback.{MemberChange}
use Rattle.joint_state.proofs.NameLemmas.{some-equal}
use Rattle.library_model.specs.declared.replies.Reply.TheVariants.{NoDefinition, PendingChanges, InUse}
use Rattle.library_model.specs.declared.requests.StartCommitment.{StartCommitment}
use Rattle.library_steps.specs.State.{State, Memory, CycleState, JobState, memory_of, job_changed, job_of, with_opens}
use Rattle.library_steps.specs.Commitment.{boundary_locks, changes_of, commit, commit_change, committed_open, end_commitment, end_plan, has_committed_open, rollback, rollback_change, rolled_back_open, start_commitment, taken_back, with_level, without_cycle}
use Rattle.library_steps.specs.EndJob.{end_change, end_job, ended_job}
use Rattle.library_steps.specs.Locking.{is_committed}
use Rattle.library_steps.specs.Refusals.{found, refuse_if, refuse_with}
use Rattle.library_steps.specs.SlotChange.{with_slot}
use Rattle.library_steps.specs.Uses.{changes_in}
use Rattle.joint_state.specs.Sound.{IsSound}
use Rattle.cycles_kept.proofs.CycleLemmas.{changed_record, id_of, HaveCycles, besides, ends}
use Rattle.cycles_kept.proofs.HoldLemmas.{Holds, bind-holds, does-holds, each-holds, effect-holds, then-holds, wider-holds, with-none}
use Rattle.cycles_kept.proofs.JobLemmas.{IsAsking}
use Rattle.cycles_kept.proofs.LockLemmas.{two_holders}
use Rattle.cycles_kept.proofs.PlaceLemmas.{record_at, record-put_other}
use Rattle.cycles_kept.proofs.StandLemmas.{Alike, alike-same}

-- ---- changes taken back

pub taken_back-jobs : (undos : List MemberChange) (m : Memory) → (taken_back undos m).jobs ≡ m.jobs
taken_back-jobs [] m = refl
taken_back-jobs (undo ∷ undos) m = taken_back-jobs undos (with_slot undo.member (undo.change.place + 1) (before_of undo.change) m)

pub taken_back-files : (undos : List MemberChange) (m : Memory) → (taken_back undos m).files ≡ m.files
taken_back-files [] m = refl
taken_back-files (undo ∷ undos) m = taken_back-files undos (with_slot undo.member (undo.change.place + 1) (before_of undo.change) m)

pub taken_back-gone : (undos : List MemberChange) (m : Memory) → (taken_back undos m).gone ≡ m.gone
taken_back-gone [] m = refl
taken_back-gone (undo ∷ undos) m = taken_back-gone undos (with_slot undo.member (undo.change.place + 1) (before_of undo.change) m)

pub taken_back-last : (undos : List MemberChange) (m : Memory) → (taken_back undos m).last_entry ≡ m.last_entry
taken_back-last [] m = refl
taken_back-last (undo ∷ undos) m = taken_back-last undos (with_slot undo.member (undo.change.place + 1) (before_of undo.change) m)

-- the change isn't of the record of that one
abbrev IsApart : MemberChange → MemberChange → Type 0
IsApart other undo = other.member ≡ undo.member → other.change.place + 1 ≡ undo.change.place + 1 → ⊥

taken_back-record : (undos : List MemberChange) (m : Memory) (other : MemberChange) → AllByRecursion (IsApart other) undos
    → record_at other.member other.change.place (taken_back undos m).members ≡ record_at other.member other.change.place m.members
taken_back-record [] m other all = refl
taken_back-record (undo ∷ undos) m other all =
    taken_back-record undos (with_slot undo.member (undo.change.place + 1) (before_of undo.change) m) other all.1
    ∙ record-put_other other.member undo.member other.change.place (undo.change.place + 1) (before_of undo.change) m.members all.0

pub changes-alike : (o : Option CycleState) → changes_of o ≡ changes_in o
changes-alike None = refl
changes-alike (Some cycle) = refl

module _ (s : State) (job : ℕ) (sound : IsSound s) (asks : IsAsking s job) where
  abbrev mine : JobState
  mine = job_of job (memory_of s)

  -- what another job has changed isn't taken back
  apart : (number : ℕ) (other : MemberChange) (undos : List MemberChange) → number ≢ job → HoldsChange number (changed_record other) s.locks
      → AllByRecursion (λ undo. HoldsChange job (changed_record undo) s.locks) undos → AllByRecursion (IsApart other) undos
  apart number other [] differ holds all = tt
  apart number other (undo ∷ undos) differ holds all = (
    λ member place. two_holders s.locks job number (changed_record undo) sound.joint.compatible differ all.0
        (subst (λ (at : RecordId). HoldsChange number at s.locks) (λ i. id_of (member i) (place i)) holds),
    apart number other undos differ holds all.1,
  )

  all-back : (number : ℕ) (undos : List MemberChange) → number ≢ job → AllByRecursion (λ undo. HoldsChange number (changed_record undo) s.locks) undos
      → AllByRecursion (Alike s.members (taken_back (changes_of mine.cycle) (memory_of s)).members) undos
  all-back number [] differ all = tt
  all-back number (undo ∷ undos) differ all = (
    taken_back-record (changes_of mine.cycle) (memory_of s) undo
        (subst (λ (us : List MemberChange). AllByRecursion (IsApart undo) us) (sym (changes-alike mine.cycle)) (apart number undo (changes_in mine.cycle) differ all.0 asks.stands.locked)),
    all-back number undos differ all.1,
  )

  -- a boundary spares the change locks of other jobs
  others-keep : (call : Call) (number : ℕ) (at : RecordId) → number ≢ job → HoldsChange number at s.locks → HoldsChange number at (boundary_locks call job (memory_of s))
  others-keep call number at differ holds =
      HoldsChange-others (record { job = job; opened = 0 }) (record { member = 0; rrn = 0 }) (is_committed mine) number at call mine.level s.locks differ holds

  -- ---- the requests

  pub start_commitment-cycles : (timestamp : ℕ) (args : StartCommitment) → Holds (start_commitment (memory_of s) job timestamp args) (HaveCycles s)
  start_commitment-cycles timestamp args =
      effect-holds _ _ (HaveCycles s) (λ started. besides s _ (job - 1) (with_level (Some args.level)) refl (λ j. refl) refl (λ number at holds. holds))

  -- nothing is pending
  end-free : Holds (end_plan (memory_of s) job) (λ ended. mine.cycle ≡ None)
  unfolding end_plan
  end-free =
      then-holds (found mine.level NoDefinition) _ _ (λ level.
      bind-holds (refuse_with (λ cycle. PendingChanges cycle.sequence) mine.cycle) (λ none. mine.cycle ≡ None) _ _ (with-none (λ cycle. PendingChanges cycle.sequence) mine.cycle) (λ none is.
      each-holds (refuse_if (has_committed_open mine) (InUse job)) _ (λ ended. is)))

  pub end_commitment-cycles : (timestamp : ℕ) → Holds (end_commitment (memory_of s) job timestamp) (HaveCycles s)
  end_commitment-cycles timestamp =
      does-holds _ (end_plan (memory_of s) job) (HaveCycles s)
      (wider-holds (end_plan (memory_of s) job) (λ ended. mine.cycle ≡ None) _
      (λ ended none. ends s _ job (with_level None) asks.first refl
      (λ j there. ap (λ (k : JobState). k.cycle) (some-equal (sym there ∙ asks.there)) ∙ none) (λ number differ at holds. others-keep EndCommitment number at differ holds)
      (λ place old there differ. alike-same (changes_in old.cycle) s.members s.members refl)) end-free)

  pub commit-cycles : (timestamp : ℕ) → Holds (commit (memory_of s) job timestamp) (HaveCycles s)
  commit-cycles timestamp =
      effect-holds _ _ (HaveCycles s)
      (λ level. ends s (commit_change (memory_of s) job timestamp) job (λ j. with_opens committed_open (without_cycle j)) asks.first refl (λ j there. refl)
      (λ number differ at holds. others-keep Commit number at differ holds) (λ place old there differ. alike-same (changes_in old.cycle) s.members s.members refl))

  pub rollback-cycles : (timestamp : ℕ) → Holds (rollback (memory_of s) job timestamp) (HaveCycles s)
  rollback-cycles timestamp =
      effect-holds _ _ (HaveCycles s)
      (λ level. ends s (rollback_change (memory_of s) job timestamp) job (λ j. with_opens rolled_back_open (without_cycle j)) asks.first
      (ap (job_changed (job - 1) (λ j. with_opens rolled_back_open (without_cycle j))) (taken_back-jobs (changes_of mine.cycle) (memory_of s))) (λ j there. refl)
      (λ number differ at holds. others-keep Rollback number at differ holds)
      (λ place old there differ. all-back (place + 1) (changes_in old.cycle) differ (sound.joint.jobs place old there).locked))

  pub end_job-cycles : (timestamp : ℕ) → Holds (end_job (memory_of s) job timestamp) (HaveCycles s)
  end_job-cycles timestamp = record {
    holds = ends s (end_change (memory_of s) job timestamp) job ended_job asks.first
        (ap (job_changed (job - 1) ended_job) (taken_back-jobs (changes_of mine.cycle) (memory_of s))) (λ j there. refl)
        (λ number differ at holds. others-keep EndJob number at differ holds)
        (λ place old there differ. all-back (place + 1) (changes_in old.cycle) differ (sound.joint.jobs place old there).locked);
  }

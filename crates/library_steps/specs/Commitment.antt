-- STRCMTCTL, ENDCMTCTL, COMMIT and ROLLBACK. (Commitment Control. That ENDCMTCTL is refused while changes are pending, and what ROLLBACK does to
-- opens that aren't under commitment, are our own.)
use Rattle.std.specs.Prelude.{ℕ, ◌+◌, Bool, false, Option, Some, None, Result, List, [], ◌∷◌, if◌then◌else◌}
use Rattle.std.specs.List.{list_any}
use Rattle.std.specs.Option.{is_some}
use Rattle.commit_level.specs.declared.Level.{Level}
use Rattle.journal_model.below.entry_codec.specs.declared.entries.Draft.{Draft}
use Rattle.journal_model.below.entry_codec.specs.declared.kinds.EntryKind.TheVariants.{CommitmentStarted, CommitmentEnded, CommitCycleCommitted}
use Rattle.lock_table.specs.declared.lock.Lock.{Lock}
use Rattle.lock_table.specs.declared.levels.Call.{Call}
use Rattle.lock_table.specs.declared.levels.Call.TheVariants.{Commit, Rollback, EndCommitment}
use Rattle.lock_table.specs.Levels.{locks_after}
use Rattle.journal_model.specs.Replay.{before_of}
use Rattle.journal_model.specs.Rollback.{MemberChange, rollback_drafts}
use Rattle.library_model.specs.declared.requests.StartCommitment.{StartCommitment}
use Rattle.library_model.specs.declared.replies.Reply.{Reply}
use Rattle.library_model.specs.declared.replies.Reply.TheVariants.{AlreadyStarted, NoDefinition, PendingChanges, InUse, Done}
use Rattle.library_steps.specs.State.{Memory, OpenState, CycleState, JobState, job_of, with_job, with_opens}
use Rattle.library_steps.specs.Change.{Change, journaled, does}
use Rattle.library_steps.specs.Refusals.{◌>>=◌, found, refuse_if, refuse_with, sequences_left}
use Rattle.library_steps.specs.Drafts.{Author, author_of, library_draft, cycle_draft}
use Rattle.library_steps.specs.Locking.{is_committed, with_locks}
use Rattle.library_steps.specs.SlotChange.{with_slot}

-- ---- STRCMTCTL

unfoldable pub start_plan : Memory → ℕ → Result Bool Reply
start_plan m job = do
  _ ← sequences_left m
  refuse_if (is_some (job_of job m).level) AlreadyStarted

abbrev pub with_level : Option Level → JobState → JobState
with_level level job = record job { level = level }

abbrev pub start_commitment : Memory → ℕ → (timestamp : ℕ) → StartCommitment → Result Change Reply
start_commitment m job timestamp args =
    does (λ started. journaled (library_draft (author_of m job timestamp) (CommitmentStarted args.level) ∷ []) false Done (with_job job (with_level (Some args.level)) m))
    (start_plan m job)

-- ---- the locks that a boundary frees: the job's, whatever open they are of

abbrev pub boundary_locks : Call → ℕ → Memory → List Lock
boundary_locks call job m =
    locks_after call (job_of job m).level (record { job = job; opened = 0 }) (record { member = 0; rrn = 0 }) (is_committed (job_of job m)) m.locks

-- ---- ENDCMTCTL

abbrev pub has_committed_open : JobState → Bool
has_committed_open job = list_any (λ entry. entry.1.commit) job.opens

unfoldable pub end_plan : Memory → ℕ → Result Bool Reply
end_plan m job = do
  _ ← found (job_of job m).level NoDefinition
  _ ← refuse_with (λ cycle. PendingChanges cycle.sequence) (job_of job m).cycle
  refuse_if (has_committed_open (job_of job m)) (InUse job)

abbrev pub commitment_ended : ℕ → Memory → Memory
commitment_ended job m = with_job job (with_level None) (with_locks (boundary_locks EndCommitment job m) m)

abbrev pub end_commitment : Memory → ℕ → (timestamp : ℕ) → Result Change Reply
end_commitment m job timestamp =
    does (λ ended. journaled (library_draft (author_of m job timestamp) CommitmentEnded ∷ []) false Done (commitment_ended job m)) (end_plan m job)

-- ---- COMMIT

abbrev pub without_cycle : JobState → JobState
without_cycle job = record job { cycle = None }

-- an open that has read nothing since the boundary, which is where it stands
abbrev pub at_boundary : OpenState → OpenState
at_boundary opened = record opened { current = None; last_read = None; boundary = opened.position }

abbrev pub committed_open : OpenState → OpenState
committed_open opened = if opened.commit then at_boundary opened else opened

abbrev pub end_drafts : Author → Option CycleState → List Draft
end_drafts author None = []
end_drafts author (Some cycle) = cycle_draft author cycle.sequence CommitCycleCommitted ∷ []

abbrev pub committed : ℕ → Memory → Memory
committed job m = with_job job (λ j. with_opens committed_open (without_cycle j)) (with_locks (boundary_locks Commit job m) m)

-- a commit cycle that has changes is on the disk before the reply is given
abbrev pub commit_change : Memory → ℕ → (timestamp : ℕ) → Change
commit_change m job timestamp =
    journaled (end_drafts (author_of m job timestamp) (job_of job m).cycle) (is_some (job_of job m).cycle) Done (committed job m)

abbrev pub commit : Memory → ℕ → (timestamp : ℕ) → Result Change Reply
commit m job timestamp = does (λ level. commit_change m job timestamp) (found (job_of job m).level NoDefinition)

-- ---- ROLLBACK

-- the memory with each change taken back, the last one first; the place of an added record stays
abbrev pub taken_back : List MemberChange → Memory → Memory
taken_back [] m = m
taken_back (undo ∷ undos) m = taken_back undos (with_slot undo.member (undo.change.place + 1) (before_of undo.change) m)

abbrev pub changes_of : Option CycleState → List MemberChange
changes_of None = []
changes_of (Some cycle) = cycle.undos

abbrev pub undo_entries : Author → Option CycleState → List Draft
undo_entries author None = []
undo_entries author (Some cycle) = rollback_drafts (Some author.job) author.moment cycle.sequence cycle.undos

-- an open under commitment is where it stood at the last boundary; no open has read anything
abbrev pub rolled_back_open : OpenState → OpenState
rolled_back_open opened = if opened.commit then record opened { position = opened.boundary; current = None; last_read = None } else record opened { current = None; last_read = None }

abbrev pub rolled_back : ℕ → Memory → Memory
rolled_back job m =
    with_job job (λ j. with_opens rolled_back_open (without_cycle j))
    (with_locks (boundary_locks Rollback job m) (taken_back (changes_of (job_of job m).cycle) m))

abbrev pub rollback_change : Memory → ℕ → (timestamp : ℕ) → Change
rollback_change m job timestamp = journaled (undo_entries (author_of m job timestamp) (job_of job m).cycle) false Done (rolled_back job m)

abbrev pub rollback : Memory → ℕ → (timestamp : ℕ) → Result Change Reply
rollback m job timestamp = does (λ level. rollback_change m job timestamp) (found (job_of job m).level NoDefinition)

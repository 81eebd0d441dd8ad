-- ENDJOB: an open commit cycle is rolled back, commitment control ends, the job's opens are closed, and it has ended. (Work Management, ending a job.)
use Rattle.std.specs.Prelude.{ℕ, true, Option, Some, None, Result, Ok, List, [], ◌∷◌, ◌++◌}
use Rattle.commit_level.specs.declared.Level.{Level}
use Rattle.journal_model.below.entry_codec.specs.declared.entries.Draft.{Draft}
use Rattle.journal_model.below.entry_codec.specs.declared.kinds.EntryKind.TheVariants.{CommitmentEnded}
use Rattle.lock_table.specs.declared.levels.Call.TheVariants.{EndJob}
use Rattle.library_model.specs.declared.replies.Reply.{Reply}
use Rattle.library_model.specs.declared.replies.Reply.TheVariants.{Done}
use Rattle.library_steps.specs.State.{Memory, JobState, job_of, with_job}
use Rattle.library_steps.specs.Change.{Change, journaled}
use Rattle.library_steps.specs.Drafts.{Author, author_of, library_draft}
use Rattle.library_steps.specs.Locking.{with_locks}
use Rattle.library_steps.specs.Commitment.{boundary_locks, changes_of, undo_entries, taken_back}

abbrev pub ended_job : JobState → JobState
ended_job job = record job { ended = true; level = None; cycle = None; opens = [] }

-- the end of commitment control, where it was started
abbrev pub definition_entries : Author → Option Level → List Draft
definition_entries author None = []
definition_entries author (Some level) = library_draft author CommitmentEnded ∷ []

abbrev pub end_drafts : Author → JobState → List Draft
end_drafts author job = undo_entries author job.cycle ++ definition_entries author job.level

abbrev pub job_ended : ℕ → Memory → Memory
job_ended job m = with_job job ended_job (with_locks (boundary_locks EndJob job m) (taken_back (changes_of (job_of job m).cycle) m))

abbrev pub end_change : Memory → ℕ → (timestamp : ℕ) → Change
end_change m job timestamp = journaled (end_drafts (author_of m job timestamp) (job_of job m)) true Done (job_ended job m)

abbrev pub end_job : Memory → ℕ → (timestamp : ℕ) → Result Change Reply
end_job m job timestamp = Ok (end_change m job timestamp)

-- What a call asks of the record locks, and what it leaves of them. (Db2 for i, record locks; Commitment Control, lock levels.)
use Rattle.std.specs.Prelude.{ℕ, ◌==◌, ◌&&◌, nat_lt, Bool, if◌then◌else◌, Option, None, Result, List, length}
use Rattle.std.specs.List.{list_any}
use Rattle.std.specs.Option.{option_and_then}
use Rattle.commit_level.specs.declared.Level.{Level}
use Rattle.lock_table.specs.declared.lock.Lock.{Lock}
use Rattle.lock_table.specs.declared.lock.Holder.{Holder}
use Rattle.lock_table.specs.declared.lock.RecordId.{RecordId}
use Rattle.lock_table.specs.declared.levels.Call.{Call}
use Rattle.lock_table.specs.declared.table.TheConstants.{MOST_LOCKS}
use Rattle.lock_table.specs.Levels.{asked, locks_after}
use Rattle.lock_table.specs.Table.{blocker}
use Rattle.library_model.specs.declared.replies.Reply.{Reply}
use Rattle.library_model.specs.declared.replies.Reply.TheVariants.{RecordInUse, LimitReached}
use Rattle.library_model.specs.declared.replies.LimitKind.TheVariants.{Locks}
use Rattle.library_steps.specs.State.{Memory, OpenState, JobState, job_of}
use Rattle.library_steps.specs.Refusals.{refuse_if, refuse_with}

-- the lock level of an open; None where it isn't under commitment control
abbrev pub level_of : JobState → OpenState → Option Level
level_of job opened = if opened.commit then job.level else None

abbrev pub holder_of : (job : ℕ) → OpenState → Holder
holder_of job opened = record { job = job; opened = opened.number }

abbrev pub record_of : OpenState → (rrn : ℕ) → RecordId
record_of opened rrn = record { member = opened.member; rrn = rrn }

-- the job has an open of this number under commitment control
abbrev pub is_committed : JobState → ℕ → Bool
is_committed job number = list_any (λ entry. (entry.1.number == number) && entry.1.commit) job.opens

-- the locks once a call through an open is OK, on a record of its member
abbrev pub locks_left : Call → ℕ → OpenState → (rrn : ℕ) → Memory → List Lock
locks_left call job opened rrn m =
    locks_after call (level_of (job_of job m) opened) (holder_of job opened) (record_of opened rrn) (is_committed (job_of job m)) m.locks

abbrev pub with_locks : List Lock → Memory → Memory
with_locks locks m = record m { locks = locks }

-- the least job whose lock clashes with the one that is asked for
abbrev pub clashing : Call → ℕ → OpenState → (rrn : ℕ) → Memory → Option ℕ
clashing call job opened rrn m =
    option_and_then (λ wanted. blocker job (record_of opened rrn) wanted.kind m.locks) (asked call (level_of (job_of job m) opened))

abbrev pub not_locked : Call → ℕ → OpenState → (rrn : ℕ) → Memory → Result Bool Reply
not_locked call job opened rrn m = refuse_with (λ other. RecordInUse other opened.member rrn) (clashing call job opened rrn m)

-- the locks that the call leaves are not too many
abbrev pub few_locks : Call → ℕ → OpenState → (rrn : ℕ) → Memory → Result Bool Reply
few_locks call job opened rrn m = refuse_if (nat_lt MOST_LOCKS (length (locks_left call job opened rrn m))) (LimitReached Locks MOST_LOCKS)

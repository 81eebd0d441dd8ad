-- The record that a job's open may change stands in the member, and no other job has a lock on it. (Database Programming, record locks.)
use Rattle.std.specs.Prelude.{◌≡◌, ℕ, ◌&&◌, ◌||◌, ◌==◌, Bool, Some, IsSome, IsTrue}
use Rattle.std.specs.List.{AllByRecursion, list_any}
use Rattle.lock_table.specs.declared.lock.Lock.{Lock}
use Rattle.lock_table.specs.declared.lock.Holder.{Holder}
use Rattle.lock_table.specs.declared.lock.RecordId.{RecordId}
use Rattle.lock_table.specs.Lock.{is_by, is_on, is_open, is_update}
use Rattle.lawful_states.specs.State.{Memory, OpenState, JobState}
use Rattle.lawful_states.specs.Locking.{holder_of, record_of}
use Rattle.lawful_states.specs.Records.{live_record}

-- an update lock through this open; outside commitment one that ends at the open's next read
abbrev pub keeps_record : (commit : Bool) → Holder → RecordId → Lock → Bool
keeps_record commit holder at lock =
    is_on at lock && is_by holder.job lock && (lock.opened == holder.opened) && is_update lock.kind && (commit || is_open lock.reach)

pub record CurrentStands (m : Memory) (job : ℕ) (opened : OpenState) (rrn : ℕ) : Type 0 where
  pub live : IsSome (live_record opened.member rrn m)
  pub locked : IsTrue (list_any (keeps_record opened.commit (holder_of job opened) (record_of opened rrn)) m.locks)

-- so do those of all opens of the job with this number
abbrev pub AllCurrentStand : Memory → ℕ → JobState → Type 0
AllCurrentStand m number job = AllByRecursion (λ entry. (rrn : ℕ) → entry.1.current ≡ Some rrn → CurrentStands m number entry.1 rrn) job.opens

-- A library stays one where only its journal, its locks, a job or the status of a member is another.
use Rattle.std.proofs.Common.{◌≡◌, ℕ, ◌-◌, ◌==◌, ◌++◌, if◌then◌else◌, IsTrue, true, false, List, [], ◌∷◌, length, drop, slice_get, Some, unwrap_or, refl, arith}
use Rattle.member_slots.specs.Member.{MemberState, empty_member}
use Rattle.member_slots.specs.Members.{NumberedMembers, item_at, member_of, with_member}
use Rattle.lawful_states.specs.Statuses.{after as status_after}
use Rattle.lawful_states.specs.declared.changes.StatusChange.{StatusChange}
use Rattle.lock_table.specs.declared.lock.Lock.{Lock}
use Rattle.lock_table.specs.declared.levels.Call.{Call}
use Rattle.lawful_states.specs.Jobs.{AreOfJobs}
use Rattle.library_steps.specs.Change.{Change}
use Rattle.library_steps.specs.Commitment.{boundary_locks}
use Rattle.library_steps.specs.History.{is_running}
use Rattle.library_steps.specs.Locking.{holder_of, record_of, level_of, is_committed, locks_left, with_locks}
use Rattle.library_steps.specs.Ranges.{library_bytes}
use Rattle.library_steps.specs.Reads.{with_opened}
use Rattle.library_steps.specs.State.{State, Memory, Receivers, OpenState, JobState, memory_of, with_entries, job_at, job_of, with_job, with_status}
use Rattle.lawful_states.specs.Lawful.{OpenHolds, OpensHold, CycleGoesBack, IsLibrary, AreOne}
use Rattle.lawful_states.proofs.LawfulLemmas.{KeepsOpens, AreOne-journal, AreOne-job_changed, AreOne-locks, AreOne-open_at, AreOne-open_changed, AreOne-status}
use Rattle.lawful_states.proofs.LockLemmas.{running-HasBegun, All-locks_after}
use Rattle.joint_state.specs.Limits.{IsWithin, AreWithin}
use Rattle.joint_state.specs.Sound.{IsSound, after}

-- the library of a memory, without entries
abbrev pub bare : Memory → State
bare m = with_entries m.gone [] m

-- the memory is that of a library, and its members are within their limits
pub record Stands (m : Memory) : Type 0 where
  pub library : IsLibrary (bare m)
  pub within : AreWithin m.members

pub one-of : (s : State) → IsLibrary s → AreOne s (library_bytes s.members)
one-of s lawful = record { lawful = lawful; counted = refl }

-- ---- the journal is nothing to it

pub Stands-memory_of : (s : State) → IsSound s → Stands (memory_of s)
Stands-memory_of s sound = record {
  library = (AreOne-journal s (library_bytes s.members) s.gone (drop (s.gone - s.gone) []) s.receivers s.checkpoint (one-of s sound.library)).lawful;
  within = sound.within;
}

pub library-after : (s : State) (done : Change) → Stands done.memory → IsLibrary (after s done)
library-after s done stands =
    let m = done.memory in
    (AreOne-journal (bare m) (library_bytes m.members) m.gone (drop (m.gone - s.gone) (s.entries ++ done.entries)) m.receivers m.checkpoint (one-of (bare m) stands.library)).lawful

pub Stands-journal : (m : Memory) (last gone : ℕ) (receivers : Receivers) (checkpoint : ℕ) → Stands m
    → Stands (record m { last_entry = last; gone = gone; receivers = receivers; checkpoint = checkpoint })
Stands-journal m last gone receivers checkpoint stands = record {
  library = (AreOne-journal (bare m) (library_bytes m.members) gone (drop (gone - gone) []) receivers checkpoint (one-of (bare m) stands.library)).lawful;
  within = stands.within;
}

pub Stands-last : (m : Memory) (last : ℕ) → Stands m → Stands (record m { last_entry = last })
Stands-last m last stands = record { library = stands.library; within = stands.within }

-- ---- locks, and a job

pub Stands-locks : (m : Memory) (locks : List Lock) → Stands m → AreOfJobs m.jobs locks → Stands (with_locks locks m)
Stands-locks m locks stands begun = record {
  library = (AreOne-locks (bare m) (library_bytes m.members) locks (one-of (bare m) stands.library) begun).lawful;
  within = stands.within;
}

pub Stands-job : (m : Memory) (job : ℕ) (change : JobState → JobState) → Stands m → ((j : JobState) → OpensHold m.files j → OpensHold m.files (change j))
    → ((j : JobState) → CycleGoesBack m.files m.members j.cycle → CycleGoesBack m.files m.members (change j).cycle)
    → Stands (with_job job change m)
Stands-job m job change stands each back = record {
  library = (AreOne-job_changed (bare m) (library_bytes m.members) (job - 1) change (one-of (bare m) stands.library) each back).lawful;
  within = stands.within;
}

pub Stands-status : (m : Memory) (number : ℕ) (change : StatusChange) → Stands m → Stands (with_status number (status_after change) m)
Stands-status m number change stands = record {
  library = (AreOne-status (bare m) (library_bytes m.members) number change (one-of (bare m) stands.library)).lawful;
  within = stands.within;
}

-- one open changed, but for its file and member
pub Stands-open : (m : Memory) (job : ℕ) (opened : OpenState) (change : OpenState → OpenState) → Stands m → ((o : OpenState) → OpenHolds m.files o → OpenHolds m.files (change o))
    → Stands (with_opened job opened change m)
Stands-open m job opened change stands each = record {
  library = (AreOne-open_changed (bare m) (library_bytes m.members) (job - 1) opened.number change (one-of (bare m) stands.library) each).lawful;
  within = stands.within;
}

-- the same, where each open of its number that the job has stays over its members
pub Stands-open_at : (m : Memory) (job : ℕ) (opened : OpenState) (change : OpenState → OpenState) → Stands m
    → ((j : JobState) → slice_get m.jobs (job - 1) ≡ Some j → KeepsOpens m.files opened.number change j.opens) → Stands (with_opened job opened change m)
Stands-open_at m job opened change stands each = record {
  library = (AreOne-open_at (bare m) (library_bytes m.members) (job - 1) opened.number change (one-of (bare m) stands.library) each).lawful;
  within = stands.within;
}

module _ (m : Memory) (job : ℕ) (running : IsTrue (is_running (job_at job m.jobs))) where
  -- the locks that a call leaves are of jobs that have begun
  pub begun-left : (call : Call) (opened : OpenState) (rrn : ℕ) → AreOfJobs m.jobs m.locks → AreOfJobs m.jobs (locks_left call job opened rrn m)
  begun-left call opened rrn all =
      All-locks_after (length m.jobs) (holder_of job opened) (record_of opened rrn) (is_committed (job_of job m)) (running-HasBegun m.jobs job running) call
      (level_of (job_of job m) opened) m.locks all

  pub begun-boundary : (call : Call) → AreOfJobs m.jobs m.locks → AreOfJobs m.jobs (boundary_locks call job m)
  begun-boundary call all =
      All-locks_after (length m.jobs) (record { job = job; opened = 0 }) (record { member = 0; rrn = 0 }) (is_committed (job_of job m)) (running-HasBegun m.jobs job running) call
      (job_of job m).level m.locks all

  -- a call through an open, which changes no more than it and the locks
  pub Stands-opened : (call : Call) (opened : OpenState) (rrn : ℕ) (change : OpenState → OpenState) → Stands m → ((o : OpenState) → OpenHolds m.files o → OpenHolds m.files (change o))
      → Stands (with_opened job opened change (with_locks (locks_left call job opened rrn m) m))
  Stands-opened call opened rrn change stands each =
      Stands-open (with_locks (locks_left call job opened rrn m) m) job opened change
      (Stands-locks m (locks_left call job opened rrn m) stands (begun-left call opened rrn stands.library.keepers)) each

-- ---- the limits of the members

pub within-with : (members : NumberedMembers) (number : ℕ) (member : MemberState) → IsWithin member → AreWithin members → AreWithin (with_member number member members)
within-with [] number member is all = tt
within-with (entry ∷ members) number member is all =
    elim (entry.number == number) as (λ b. AreWithin (if b then record { number = number; item = member } ∷ members else entry ∷ with_member number member members)) [
      | true ↦ (is, all.1)
      | false ↦ (all.0, within-with members number member is all.1)
    ]

pub within-of : (number : ℕ) (members : NumberedMembers) → AreWithin members → IsWithin (member_of number members)
within-of number [] all = record { few = omega arith; small = omega arith }
within-of number (entry ∷ members) all =
    elim (entry.number == number) as (λ b. IsWithin (unwrap_or (if b then Some entry.item else item_at number members) (empty_member 0))) [
      | true ↦ all.0
      | false ↦ within-of number members all.1
    ]

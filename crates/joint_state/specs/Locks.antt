-- Where the record locks of a library stand: on places of members, through opens, or kept by jobs under commitment control.
-- (Database Programming, record locks; Commitment Control, lock levels.)
use Rattle.std.specs.Prelude.{◌≡◌, ℕ, ◌≤◌, ◌==◌, ◌&&◌, Bool, true, false, IsSome, IsTrue, length}
use Rattle.std.specs.List.{list_any}
use Rattle.member_slots.specs.Members.{member_of}
use Rattle.lock_table.specs.declared.lock.Lock.{Lock}
use Rattle.lock_table.specs.Lock.{is_open}
use Rattle.lawful_states.specs.State.{Memory, OpenState, JobState, job_of}

-- the lock is held through this open
abbrev pub is_through : Lock → OpenState → Bool
is_through lock opened = (opened.number == lock.opened) && (opened.member == lock.at.member)

-- one of the job's opens holds it
abbrev pub HasOpenOf : JobState → Lock → Type 0
HasOpenOf job lock = IsTrue (list_any (λ entry. is_through lock entry.1) job.opens)

-- on a place of its member; through an open of its job, or kept to the boundary by a job that is under commitment control
pub record LockStands (m : Memory) (lock : Lock) : Type 0 where
  pub counted : 1 ≤ lock.at.rrn
  pub there : lock.at.rrn ≤ length (member_of lock.at.member m.members).slots
  pub opened : is_open lock.reach ≡ true → HasOpenOf (job_of lock.job m) lock
  pub started : is_open lock.reach ≡ false → IsSome (job_of lock.job m).level

-- Which jobs use a member: by an open over it, by a change of an open commit cycle, or by a lock that is kept to the boundary.
-- (Database Programming, allocation of members; Commitment Control. That the least such job is named is our own.)
use Rattle.std.specs.Prelude.{ℕ, ◌+◌, ◌==◌, ◌&&◌, ◌||◌, Bool, if◌then◌else◌, Option, Some, None, Result, List, [], ◌∷◌}
use Rattle.std.specs.List.{list_any}
use Rattle.lock_table.specs.declared.lock.Lock.{Lock}
use Rattle.lock_table.specs.Lock.{is_boundary_in}
use Rattle.journal_model.specs.Rollback.{MemberChange}
use Rattle.library_model.specs.declared.replies.Reply.{Reply}
use Rattle.library_model.specs.declared.replies.Reply.TheVariants.{InUse}
use Rattle.library_model.specs.Named.{Named, same_name}
use Rattle.library_steps.specs.State.{Memory, MemberStatus, CycleState, JobState}
use Rattle.library_steps.specs.Refusals.{refuse_with}

-- the number of the first of these jobs of which the test holds, where the first of all has this number
abbrev pub first_job : (ℕ → JobState → Bool) → ℕ → List JobState → Option ℕ
first_job test number [] = None
first_job test number (job ∷ jobs) = if test number job then Some number else first_job test (number + 1) jobs

-- the least job of which the test holds
abbrev pub least_job : (ℕ → JobState → Bool) → Memory → Option ℕ
least_job test m = first_job test 1 m.jobs

abbrev pub changes_in : Option CycleState → List MemberChange
changes_in None = []
changes_in (Some cycle) = cycle.undos

abbrev pub has_open_over : ℕ → JobState → Bool
has_open_over member job = list_any (λ entry. list_any (λ base. base == member) entry.1.members) job.opens

-- the job's open commit cycle has a change of the member
abbrev pub has_changed : ℕ → JobState → Bool
has_changed member job = list_any (λ undo. undo.member == member) (changes_in job.cycle)

abbrev pub has_boundary_lock : ℕ → (number : ℕ) → List Lock → Bool
has_boundary_lock member number locks = list_any (λ lock. (lock.job == number) && is_boundary_in member lock) locks

abbrev pub uses : ℕ → List Lock → ℕ → JobState → Bool
uses member locks number job = has_open_over member job || has_changed member job || has_boundary_lock member number locks

-- the least job that uses the member
abbrev pub user_of : ℕ → Memory → Option ℕ
user_of member m = least_job (uses member m.locks) m

-- the least job that uses one of the members
abbrev pub user_of_any : Named MemberStatus → Memory → Option ℕ
user_of_any members m = least_job (λ number job. list_any (λ entry. uses entry.1.number m.locks number job) members) m

-- the least job whose open commit cycle has a change of one of the members
abbrev pub changer_of_any : List ℕ → Memory → Option ℕ
changer_of_any members m = least_job (λ number job. list_any (λ member. has_changed member job) members) m

abbrev pub has_open_of : (file : List ℕ) → JobState → Bool
has_open_of file job = list_any (λ entry. same_name file entry.1.file) job.opens

-- the least job that has an open of a logical file, or has changed a record of its base members in an open commit cycle
abbrev pub user_of_logical : (file : List ℕ) → List ℕ → Memory → Option ℕ
user_of_logical file members m = least_job (λ number job. has_open_of file job || list_any (λ member. has_changed member job) members) m

abbrev pub unused : Option ℕ → Result Bool Reply
unused user = refuse_with InUse user

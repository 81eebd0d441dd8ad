-- Which job is the first that uses a member, where the jobs tell their opens and changes and the lock table its boundary locks. (Our own.)
use Rattle.std.specs.Prelude.{ℕ, ◌||◌, Bool, Option, None, List, [], ◌∷◌}
use Rattle.std.specs.List.{filter_map}
use Rattle.std.specs.Option.{option_map}
use Rattle.library_model.specs.Named.{Named}
use Rattle.lawful_states.specs.State.{MemberStatus, JobState}
use Rattle.lawful_states.specs.Checkpoint.{lesser}
use Rattle.lawful_states.specs.Uses.{first_job, has_open_of, has_open_over, has_changed}

-- by its opens or by its open commit cycle
abbrev pub has_in_use : ℕ → (number : ℕ) → JobState → Bool
has_in_use member number job = has_open_over member job || has_changed member job

-- the least job that uses the member, but for locks
abbrev pub first_user : ℕ → List JobState → Option ℕ
first_user member jobs = first_job (has_in_use member) 1 jobs

-- the least job that has changed the member in its open commit cycle
abbrev pub first_changer : ℕ → List JobState → Option ℕ
first_changer member jobs = first_job (λ number job. has_changed member job) 1 jobs

-- the least job that has an open of the file
abbrev pub first_opener : (file : List ℕ) → List JobState → Option ℕ
first_opener file jobs = first_job (λ number job. has_open_of file job) 1 jobs

-- the least of those who use the members, of which each is asked for its own
abbrev pub least_of_members : (ℕ → Option ℕ) → Named MemberStatus → Option ℕ
least_of_members user [] = None
least_of_members user (entry ∷ members) = lesser (user entry.1.number) (least_of_members user members)

-- where the open commit cycles began
abbrev pub cycle_starts : List JobState → List ℕ
cycle_starts jobs = filter_map (λ job. option_map (λ cycle. cycle.sequence) job.cycle) jobs

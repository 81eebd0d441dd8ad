-- How the opens of a job are told apart: by their names, and by their numbers, which rise. (Database Programming, "Opening a database file".)
use Rattle.std.specs.Prelude.{◌≡◌, ℕ, ◌<◌, ◌≤◌, false, List, [], ◌∷◌}
use Rattle.std.specs.List.{AllByRecursion}
use Rattle.library_model.specs.Named.{Named, same_name}
use Rattle.lawful_states.specs.State.{OpenState, JobState}

-- two opens of a job, by the order in which they were made
pub record IsBefore (former later : List ℕ × OpenState) : Type 0 where
  pub names : same_name former.0 later.0 ≡ false
  pub numbers : former.1.number < later.1.number

-- each open of a list has another name, and a lesser number, than those after it
abbrev pub AreToldApart : Named OpenState → Type 0
AreToldApart [] = Unit {0}
AreToldApart (former ∷ others) = AllByRecursion (IsBefore former) others × AreToldApart others

-- the opens of a job; none has a number that the job hasn't given yet
pub record HasOpens (job : JobState) : Type 0 where
  pub apart : AreToldApart job.opens
  pub counted : AllByRecursion (λ entry. entry.1.number ≤ job.opened) job.opens

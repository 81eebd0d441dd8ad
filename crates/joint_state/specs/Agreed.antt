-- What the journal's entries tell of the records of a library is so: those of a record follow one from the other, and the last of them leaves it as
-- it stands. Of a member that isn't journaled they tell nothing that still holds, and none is changed under commitment control.
-- (Journal Management, "Before-images and after-images"; Commitment Control.)
use Rattle.std.specs.Prelude.{◌≡◌, ℕ, true, Bool, None, is_some, List}
use Rattle.std.specs.List.{AllByRecursion}
use Rattle.std.specs.Option.{option_and_then}
use Rattle.member_slots.specs.Members.{member_at, member_of}
use Rattle.journaled_entries.specs.Acts.{acts}
use Rattle.journaled_entries.specs.Places.{slot_of}
use Rattle.journaled_entries.specs.AtSequence.{IsChained, IsSo, known_after}
use Rattle.library_model.specs.Named.{Named}
use Rattle.lawful_states.specs.State.{State, FileState, JobState, memory_of}
use Rattle.lawful_states.specs.SlotChange.{images_of, status_among}
use Rattle.lawful_states.specs.Uses.{changes_in}

-- of the record at a place, counted from 0, of a member that is there
pub record IsAsTold (s : State) (member place : ℕ) : Type 0 where
  pub so : IsSo (known_after place None (acts member None s.entries)) (slot_of (member_of member s.members).slots place)
  pub silent : images_of member (memory_of s) ≡ None → known_after place None (acts member None s.entries) ≡ None

-- the journal keeps images of the member with this number
abbrev pub is_journaled : ℕ → Named FileState → Bool
is_journaled number files = is_some (option_and_then (λ status. status.images) (status_among number files))

-- so it is of all these members
abbrev pub AreAllJournaled : Named FileState → List ℕ → Type 0
AreAllJournaled files members = AllByRecursion (λ member. is_journaled member files ≡ true) members

-- so it is of each member that a job has open under commitment control or that its open commit cycle changed
pub record StaysJournaled (files : Named FileState) (job : JobState) : Type 0 where
  pub opens : AllByRecursion (λ entry. entry.1.commit ≡ true → AreAllJournaled files entry.1.members) job.opens
  pub changes : AllByRecursion (λ undo. is_journaled undo.member files ≡ true) (changes_in job.cycle)

pub record Agrees (s : State) : Type 0 where
  pub chained : (member place : ℕ) → IsChained place None (acts member None s.entries)
  pub told : (member place : ℕ) → is_some (member_at member s.members) ≡ true → IsAsTold s member place
  pub committed : AllByRecursion (StaysJournaled s.files) s.jobs

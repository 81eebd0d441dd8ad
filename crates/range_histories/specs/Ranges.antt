-- What RMVJRNCHG and APYJRNCHG make of a member, as their user sees it: its records as they were at a sequence of the journal.
-- (Journal Management, "Removing journaled changes" and "Applying journaled changes".)
use Rattle.std.specs.Prelude.{◌≡◌, ◌≢◌, ℕ, ◌+◌, ◌-◌, Bool, Option, Some, None, IsTrue, IsFalse, Ok, List, take, drop}
use Rattle.std.specs.Option.{option_map, option_and_then}
use Rattle.member_slots.specs.declared.slot.Slot.{Slot}
use Rattle.member_slots.specs.Members.{member_at, member_of}
use Rattle.journal_model.specs.Acts.{Act, acts, changes}
use Rattle.journal_model.specs.Places.{slot_of}
use Rattle.journal_model.specs.AtSequence.{slot_at, touches}
use Rattle.library_model.specs.Named.{named}
use Rattle.library_model.specs.declared.requests.Request.{Request}
use Rattle.library_model.specs.declared.requests.Request.TheVariants.{ApplyChanges, RemoveChanges}
use Rattle.library_model.specs.declared.requests.JournaledChanges.{JournaledChanges}
use Rattle.library_model.specs.declared.requests.RangeEnd.TheVariants.{Sequence}
use Rattle.library_model.specs.declared.replies.Reply.TheVariants as replies
use Rattle.library_model.specs.declared.sources.NamedSource.{NamedSource}
use Rattle.library_steps.specs.State.{State, memory_of}
use Rattle.library_steps.specs.Change.{Change}
use Rattle.library_steps.specs.Step.{change}
use Rattle.joint_state.specs.Sound.{IsSound, after}

-- ---- what the entries that are kept tell

-- the slot of a member's record, at a place counted from 0, once the entry with this sequence was made; None where the journal doesn't tell
abbrev pub slot_at_sequence : State → (member place n : ℕ) → Option Slot
slot_at_sequence s member place n = slot_at place (take (n - s.gone) (acts member None s.entries)) (drop (n - s.gone) (acts member None s.entries))

-- what the entries from lo to hi do to the member
abbrev pub acts_in : State → (member lo hi : ℕ) → List Act
acts_in s member lo hi = take (hi + 1 - lo) (drop (lo - (s.gone + 1)) (acts member None s.entries))

-- one of the entries from lo to hi changes the record
abbrev pub is_changed : State → (member place lo hi : ℕ) → Bool
is_changed s member place lo hi = touches place (changes (acts_in s member lo hi))

abbrev pub slot_now : State → (member place : ℕ) → Slot
slot_now s member place = slot_of (member_of member s.members).slots place

-- ---- one request

-- a job's request is done
pub record IsDone (s : State) (request : Request) (done : Change) : Type 0 where
  pub sources : List NamedSource
  pub job : ℕ
  pub timestamp : ℕ
  pub does : change sources s.entries (memory_of s) job timestamp request ≡ Ok done

-- the member that the request names
abbrev pub member_named : JournaledChanges → State → Option ℕ
member_named args s = option_map (λ status. status.number) (option_and_then (λ file. named args.member file.members) (named args.file s.files))

-- from s to t each record that the entries from lo to hi change becomes what it was at a sequence, and all others stay
pub record IsMoved (s t : State) (member lo hi n : ℕ) : Type 0 where
  pub touched : (place : ℕ) → IsTrue (is_changed s member place lo hi) → slot_at_sequence s member place n ≡ Some (slot_now t member place)
  pub others : (place : ℕ) → IsFalse (is_changed s member place lo hi) → slot_now t member place ≡ slot_now s member place
  pub apart : (number : ℕ) → number ≢ member → member_at number t.members ≡ member_at number s.members

-- the request is answered with the range from first to last of the member that it names, which goes back to before it or on to its end
pub record Moves (s : State) (args : JournaledChanges) (done : Change) (goes_to : (first last : ℕ) → ℕ) : Type 0 where
  pub member : ℕ
  pub first : ℕ
  pub last : ℕ
  pub count : ℕ
  pub member_is : member_named args s ≡ Some member
  pub reply_is : done.reply ≡ replies.Range first last count
  pub moved : IsMoved s (after s done) member first last (goes_to first last)

abbrev pub to_before : (first last : ℕ) → ℕ
to_before first last = first - 1

abbrev pub to_end : (first last : ℕ) → ℕ
to_end first last = last

-- RMVJRNCHG leaves each record of its range as it was at the sequence before the range
abbrev pub GoesBack : (s : State) → JournaledChanges → Change → Type 0
GoesBack s args done = IsSound s → IsDone s (RemoveChanges args) done → Moves s args done to_before

-- APYJRNCHG leaves each record of its range as it was at the last sequence of the range
abbrev pub GoesForward : (s : State) → JournaledChanges → Change → Type 0
GoesForward s args done = IsSound s → IsDone s (ApplyChanges args) done → Moves s args done to_end

-- ---- one request directly after the other

-- the request for the changes from lo to hi of the same member
abbrev pub again : JournaledChanges → (lo hi : ℕ) → JournaledChanges
again args lo hi = record args { from = Sequence lo; to = Sequence hi }

-- what a removal answered with is applied directly after it, from the state that the removal left: it answers alike, and all members are as before
pub record IsAgain (s : State) (removal application : Change) : Type 0 where
  pub reply_is : application.reply ≡ removal.reply
  pub members : application.memory.members ≡ s.members

abbrev pub AppliesAgain : (s : State) → JournaledChanges → (removal application : Change) → (lo hi count : ℕ) → Type 0
AppliesAgain s args removal application lo hi count =
    IsSound s → IsDone s (RemoveChanges args) removal → removal.reply ≡ replies.Range lo hi count
    → IsDone (after s removal) (ApplyChanges (again args lo hi)) application → IsAgain s removal application

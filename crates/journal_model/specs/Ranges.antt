-- What do APYJRNCHG and RMVJRNCHG do with a range of the journal, or why do they refuse it?
-- (Journal Management, "Applying journaled changes" and "Removing journaled changes". That a range with a break of
-- the member is refused by both, and what *FIRST and *LAST mean, are this project's own. Paths with unique keys are
-- judged elsewhere.)
use Rattle.std.specs.Prelude.{ℕ, ◌≡◌, ◌+◌, ◌-◌, Bool, true, false, List, [], ◌∷◌, length, reverse, Option, Some, None, Result, Ok, Err, is_none, unwrap_or}
use Rattle.std.specs.List.{find}
use Rattle.std.specs.Option.{option_map}
use Rattle.member_slots.specs.declared.slot.Slot.{Slot}
use Rattle.journal_model.specs.Acts.{Act, Changed, Began, Committed, RolledBack, Journaled, Stood, Cleared, Reorganized, Ended, Nothing}
use Rattle.journal_model.specs.Places.{HasSameRecords}
use Rattle.journal_model.specs.Parts.{applied_part, removed_part, removed_from}
use Rattle.journal_model.specs.Walks.{RangeFault, Straddled, Gap, NotRemovable, NeedsBoth, Numbered, numbered, apply, remove}

-- a break of the member at which journaling of it begins or ends
abbrev pub is_gap : Act → Bool
is_gap (Journaled images slots) = true
is_gap (Stood place image) = true
is_gap Ended = true
is_gap Cleared = false
is_gap Reorganized = false
is_gap (Changed c) = false
is_gap (Began n) = false
is_gap (Committed n) = false
is_gap (RolledBack n) = false
is_gap Nothing = false

-- a break of the member at which its records lose their numbers
abbrev pub is_renumbering : Act → Bool
is_renumbering Cleared = true
is_renumbering Reorganized = true
is_renumbering (Journaled images slots) = false
is_renumbering (Stood place image) = false
is_renumbering Ended = false
is_renumbering (Changed c) = false
is_renumbering (Began n) = false
is_renumbering (Committed n) = false
is_renumbering (RolledBack n) = false
is_renumbering Nothing = false

abbrev pub is_break : Act → Bool
is_break (Journaled images slots) = true
is_break (Stood place image) = true
is_break Ended = true
is_break Cleared = true
is_break Reorganized = true
is_break (Changed c) = false
is_break (Began n) = false
is_break (Committed n) = false
is_break (RolledBack n) = false
is_break Nothing = false

abbrev pub lacks_before : Numbered → Bool
lacks_before n = is_none n.change.before

-- ---- refusals, by the changes and acts in the order in which they are gone through

-- an act and its sequence
pub record Placed : Type 0 where
  pub sequence : ℕ
  pub act : Act

abbrev pub placed : ℕ → List Act → List Placed
placed sequence [] = []
placed sequence (a ∷ rest) = record { sequence = sequence; act = a } ∷ placed (sequence + 1) rest

-- there are changes and none of them is in the part: the commit cycle of the first
abbrev pub straddled : (range part : List Numbered) → Option RangeFault
straddled [] part = None
straddled (n ∷ range) [] = Some (Straddled (unwrap_or n.change.cycle 0))
straddled (n ∷ range) (m ∷ part) = None

abbrev pub first_gap : List Placed → Option RangeFault
first_gap walk = option_map (λ (p : Placed). Gap p.sequence) (find (λ (p : Placed). is_gap p.act) walk)

abbrev pub first_renumbering : List Placed → Option RangeFault
first_renumbering walk = option_map (λ (p : Placed). NotRemovable p.sequence) (find (λ (p : Placed). is_renumbering p.act) walk)

abbrev pub first_lacking : List Numbered → Option RangeFault
first_lacking walk = option_map (λ (n : Numbered). NeedsBoth n.sequence) (find lacks_before walk)

-- the first fault that is there, else what follows
abbrev pub first_fault : {A : Type 0} → List (Option RangeFault) → Result A RangeFault → Result A RangeFault
first_fault [] answer = answer
first_fault (Some fault ∷ faults) answer = Err fault
first_fault (None ∷ faults) answer = first_fault faults answer

-- ---- the two commands

-- what was done: the closed part from its first sequence to its last, its slot changes, and the slots after
pub record RangeDone : Type 0 where
  pub first : ℕ
  pub last : ℕ
  pub changes : List Numbered
  pub slots : List Slot

abbrev pub done : (first last : ℕ) → List Numbered → Result (List Slot) RangeFault → Result RangeDone RangeFault
done first last changes (Ok slots) = Ok (record { first = first; last = last; changes = changes; slots = slots })
done first last changes (Err fault) = Err fault

-- the range is applied from its first sequence on, as far as it is closed
abbrev pub apply_range : (first : ℕ) → List Act → List Slot → Result RangeDone RangeFault
apply_range first range slots =
    let part = applied_part range in
    let fits = numbered first part in
    first_fault
    (straddled (numbered first range) fits ∷ first_gap (placed first part) ∷ first_renumbering (placed first part) ∷ [])
    (done first (first + length part - 1) fits (apply fits slots))

-- the range from a first sequence on is removed from its end back, as far as it is closed
abbrev pub remove_range : (first : ℕ) → List Act → List Slot → Result RangeDone RangeFault
remove_range first range slots =
    let begins = removed_from first range in
    let part = removed_part range in
    let fits = numbered begins part in
    first_fault
    (straddled (reverse (numbered first range)) fits
    ∷ first_gap (reverse (placed begins part)) ∷ first_renumbering (reverse (placed begins part)) ∷ first_lacking (reverse fits) ∷ [])
    (done begins (first + length range - 1) fits (remove fits slots))

-- the whole range was removed, which gave back the records of these slots
pub record RemovesWhole (first : ℕ) (range : List Act) (slots : List Slot) (removed : RangeDone) : Type 0 where
  pub from : removed.first ≡ first
  pub changes : removed.changes ≡ numbered first range
  pub records : HasSameRecords removed.slots slots

-- ---- the ends of a range by name

-- *FIRST: one past the member's last break, or the first sequence kept where that is later
abbrev pub first_of : (kept : ℕ) → List Act → ℕ
first_of kept acts = unwrap_or (option_map (λ (p : Placed). p.sequence + 1) (find (λ (p : Placed). is_break p.act) (reverse (placed kept acts)))) kept

-- *LAST: the last sequence
abbrev pub last_of : (kept : ℕ) → List Act → ℕ
last_of kept acts = kept + length acts - 1

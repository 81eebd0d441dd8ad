-- Which slot changes does a closed range make when it is applied or removed, or why is it refused?
-- (Journal Management, "Applying journaled changes" and "Removing journaled changes".) The answers are those of the two
-- commands on the part that they go through.
use Rattle.std.specs.Prelude.{ℕ, ◌≡◌, ◌+◌, ◌-◌, List, [], ◌∷◌, length, reverse, Option, Some, None, is_none, if◌then◌else◌, Result, Err}
use Rattle.member_slots.specs.declared.slot.Slot.{Slot}
use Rattle.journal_model.specs.Acts.{Act}
use Rattle.journal_model.specs.Walks as walks
use Rattle.journal_model.specs.Walks.{Numbered, numbered, apply, remove}
use Rattle.journal_model.specs.Ranges.{Placed, placed, first_gap, first_renumbering, first_lacking, first_fault, RangeDone, done}
use Rattle.range_images.specs.declared.fault.RangeFault.{RangeFault}
use Rattle.range_images.specs.declared.change.SlotChange.{SlotChange}
use Rattle.range_images.specs.Faults.{range_fault}

-- the acts of a range are applied, the first of which has this sequence
abbrev pub applied_answer : (first : ℕ) → List Act → List Slot → Result RangeDone walks.RangeFault
applied_answer first part slots =
    first_fault
    (first_gap (placed first part) ∷ first_renumbering (placed first part) ∷ [])
    (done first (first + length part - 1) (numbered first part) (apply (numbered first part) slots))

-- they are removed, from the last back
abbrev pub removed_answer : (first : ℕ) → List Act → List Slot → Result RangeDone walks.RangeFault
removed_answer first part slots =
    first_fault
    (first_gap (reverse (placed first part)) ∷ first_renumbering (reverse (placed first part)) ∷ first_lacking (reverse (numbered first part)) ∷ [])
    (done first (first + length part - 1) (numbered first part) (remove (numbered first part) slots))

-- what was done where neither is refused
abbrev pub range_done : (first : ℕ) → List Act → List Slot → RangeDone
range_done first part slots = record { first = first; last = first + length part - 1; changes = numbered first part; slots = slots }

-- ---- on the way

-- the fault is that of the first break on the way, a gap before all others
abbrev pub IsFirstBreak : Option RangeFault → List Placed → Type 0
IsFirstBreak None walk = (first_gap walk ≡ None) × (first_renumbering walk ≡ None)
IsFirstBreak (Some fault) walk =
    (faults : List (Option walks.RangeFault)) (answer : Result RangeDone walks.RangeFault) → first_fault (first_gap walk ∷ first_renumbering walk ∷ faults) answer ≡ Err (range_fault fault)

-- the sequence of the first change whose side before lacks
abbrev pub lacking_in : List SlotChange → Option ℕ
lacking_in [] = None
lacking_in (c ∷ changes) = if is_none c.sides.before then Some c.sequence else lacking_in changes

-- What a row compares: what a range of a journal does to a member, and what replaying leaves.
use Rattle.std.specs.Prelude.{ℕ, ◌+◌, ◌-◌, List, [], length, take, drop, Result, Ok, Err}
use Rattle.entry_codec.specs.declared.entries.Entry.{Entry}
use Rattle.member_slots.specs.declared.slot.Slot.{Slot}
use Rattle.journal_model.specs.Acts.{Act}
use Rattle.journal_model.specs.Walks.{RangeFault}
use Rattle.journal_model.specs.Ranges.{RangeDone, apply_range, remove_range}
use Rattle.journal_model.specs.Replay.{all_moved, state_at, replay, State}
use Rattle.journal_rows.specs.Journals.{of_one}

-- the closed part's ends, the number of its slot changes, and the slots after
pub record Outcome : Type 0 where
  pub first : ℕ
  pub last : ℕ
  pub changes : ℕ
  pub slots : List Slot

abbrev pub outcome : (first last changes : ℕ) → List Slot → Result Outcome RangeFault
outcome first last changes slots = Ok (record { first = first; last = last; changes = changes; slots = slots })

abbrev pub shown : Result RangeDone RangeFault → Result Outcome RangeFault
shown (Ok done) = Ok (record { first = done.first; last = done.last; changes = length done.changes; slots = done.slots })
shown (Err fault) = Err fault

-- the acts from one sequence to another
abbrev pub cut : (first last : ℕ) → List Act → List Act
cut first last acts = take (last + 1 - first) (drop (first - 1) acts)

abbrev pub removed : (first last : ℕ) → List Entry → List Slot → Result Outcome RangeFault
removed first last journal slots = shown (remove_range first (cut first last (of_one journal)) slots)

abbrev pub applied : (first last : ℕ) → List Entry → List Slot → Result Outcome RangeFault
applied first last journal slots = shown (apply_range first (cut first last (of_one journal)) slots)

abbrev pub slots_after : List Entry → List Slot
slots_after journal = all_moved [] (of_one journal)

abbrev pub replayed : List Entry → State
replayed journal = replay (state_at 1 []) (of_one journal)

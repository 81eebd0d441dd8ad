-- Does a member fit the slot changes of a range, and what does it become when they are applied or removed?
-- (Journal Management, "Applying journaled changes" and "Removing journaled changes".)
use Rattle.std.specs.Prelude.{ℕ, ◌+◌, Bool, ◌&&◌, nat_le, nat_lt, if◌then◌else◌, List, [], ◌∷◌, length, Option, Some, None, Result, Ok, Err}
use Rattle.member_slots.specs.declared.slot.Slot.{Slot}
use Rattle.member_slots.specs.Member.{is_live}
use Rattle.journal_model.specs.Acts.{Change, Act, change_of}
use Rattle.journal_model.specs.Places.{slot_of, put_slot, is_same_slot}

-- why the changes of a range aren't applied or removed, with the sequence of the entry that shows it
pub data RangeFault : Type 0 where
  -- the range has slot changes, and no closed part of it has one: this commit cycle is cut
  Straddled : ℕ → RangeFault
  -- journaling began or ended within the range, or a record of its beginning stands there
  Gap : ℕ → RangeFault
  -- the member was cleared or reorganized within the range
  NotRemovable : ℕ → RangeFault
  -- the slot before the change isn't in the journal
  NeedsBoth : ℕ → RangeFault
  -- the record of this relative number isn't as the entry has it
  DoesNotFit : ℕ → ℕ → RangeFault

-- a slot change and the sequence of its entry
pub record Numbered : Type 0 where
  pub sequence : ℕ
  pub change : Change

abbrev pub number_change : ℕ → Option Change → List Numbered → List Numbered
number_change sequence None rest = rest
number_change sequence (Some c) rest = record { sequence = sequence; change = c } ∷ rest

-- the slot changes among acts, the first of which has this sequence
abbrev pub numbered : ℕ → List Act → List Numbered
numbered sequence [] = []
numbered sequence (a ∷ rest) = number_change sequence (change_of a) (numbered (sequence + 1) rest)

-- a side that the journal lacks is met by any live slot
abbrev pub is_met : Option Slot → Slot → Bool
is_met None slot = is_live slot
is_met (Some side) slot = is_same_slot side slot

abbrev pub misfit : Numbered → RangeFault
misfit n = DoesNotFit n.sequence (n.change.place + 1)

-- forwards: the slot is as before the change, or not there yet, one past the last, and then is as after it
abbrev pub redo : Numbered → List Slot → Result (List Slot) RangeFault
redo n slots = if nat_le n.change.place (length slots) && is_met n.change.before (slot_of slots n.change.place) then Ok (put_slot slots n.change.place n.change.after) else Err (misfit n)

abbrev pub undo_to : Option Slot → Numbered → List Slot → Result (List Slot) RangeFault
undo_to None n slots = Err (NeedsBoth n.sequence)
undo_to (Some side) n slots = if nat_lt n.change.place (length slots) && is_same_slot n.change.after (slot_of slots n.change.place) then Ok (put_slot slots n.change.place side) else Err (misfit n)

-- backwards: the slot is as after the change, and then is as before it
abbrev pub undo : Numbered → List Slot → Result (List Slot) RangeFault
undo n slots = undo_to n.change.before n slots

infixl 10 ◌then◌
abbrev pub ◌then◌ : Result (List Slot) RangeFault → (List Slot → Result (List Slot) RangeFault) → Result (List Slot) RangeFault
(Ok slots) then next = next slots
(Err fault) then next = Err fault

-- from the first change to the last; refused at the first that doesn't fit
abbrev pub apply : List Numbered → List Slot → Result (List Slot) RangeFault
apply [] slots = Ok slots
apply (n ∷ rest) slots = redo n slots then apply rest

-- from the last change to the first
abbrev pub remove : List Numbered → List Slot → Result (List Slot) RangeFault
remove [] slots = Ok slots
remove (n ∷ rest) slots = remove rest slots then undo n

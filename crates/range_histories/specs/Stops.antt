-- At which change a walk over a range ends that a member doesn't fit: the first that doesn't, in the order of the walk.
-- (Journal Management, "Applying journaled changes" and "Removing journaled changes".)
use Rattle.std.specs.Prelude.{◌≡◌, Ok, Err, List, ◌∷◌, ◌++◌}
use Rattle.member_slots.specs.declared.slot.Slot.{Slot}
use Rattle.journal_model.specs.Walks.{Numbered, RangeFault, apply, redo, remove, undo}

-- those after it were removed, and it can't be
pub record StopsGoingBack (changes : List Numbered) (slots : List Slot) (fault : RangeFault) : Type 0 where
  pub front : List Numbered
  pub at : Numbered
  pub behind : List Numbered
  pub given : List Slot
  pub is : changes ≡ front ++ at ∷ behind
  pub walked : remove behind slots ≡ Ok given
  pub stops : undo at given ≡ Err fault

-- those before it were applied, and it can't be
pub record StopsGoingForward (changes : List Numbered) (slots : List Slot) (fault : RangeFault) : Type 0 where
  pub front : List Numbered
  pub at : Numbered
  pub behind : List Numbered
  pub given : List Slot
  pub is : changes ≡ front ++ at ∷ behind
  pub walked : apply front slots ≡ Ok given
  pub stops : redo at given ≡ Err fault

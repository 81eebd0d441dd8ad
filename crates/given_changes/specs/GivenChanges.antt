-- What does each slot that is given to a member change, one after the other? (Journal Management, "Applying journaled changes"; Database
-- Programming, "Describing access paths for database files".)
use Rattle.std.specs.Prelude.{ℕ, List, [], ◌∷◌}
use Rattle.member_slots.specs.declared.slot.Slot.{Slot}
use Rattle.journal_model.specs.Places.{slot_of, put_slot}
use Rattle.path_set.specs.RecordChanges.{RecordChange}
use Rattle.path_set.specs.MemberSteps.{slot_replaced}
use Rattle.range_images.specs.declared.slot_given.SlotGiven.{SlotGiven}
use Rattle.range_images.specs.Given.{place_given}

-- each in the place of the slot that the ones before have left there; none stands behind the last
abbrev pub changes_given : (member : ℕ) → List SlotGiven → List Slot → List RecordChange
changes_given member [] slots = []
changes_given member (g ∷ given) slots =
    slot_replaced member g.rrn (slot_of slots (place_given g)) g.slot ∷ changes_given member given (put_slot slots (place_given g) g.slot)

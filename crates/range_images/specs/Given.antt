-- Which slots does a walk over slot changes give to a member, and what do they make of it?
-- (Journal Management, "Applying journaled changes" and "Removing journaled changes".)
use Rattle.std.specs.Prelude.{ℕ, ◌≡◌, ◌≤◌, ⊤, ◌+◌, ◌-◌, suc, ◌==◌, max, if◌then◌else◌, List, [], ◌∷◌, ◌++◌, length, map, reverse, Option, Some, None, unwrap_or, Result, Ok}
use Rattle.member_slots.specs.declared.slot.Slot.{Slot}
use Rattle.member_slots.specs.declared.slot.Slot.TheVariants.{Deleted}
use Rattle.journal_model.specs.Places.{put_slot}
use Rattle.journal_model.specs.Walks.{RangeFault, Numbered}
use Rattle.range_images.specs.declared.slot_given.SlotGiven.{SlotGiven}

-- relative record numbers count from 1, places from 0
abbrev pub place_given : SlotGiven → ℕ
place_given g = g.rrn - 1

-- the slots of a member once each of these was given, one after the other
abbrev pub given_slots : List SlotGiven → List Slot → List Slot
given_slots [] slots = slots
given_slots (g ∷ given) slots = given_slots given (put_slot slots (place_given g) g.slot)

-- applying gives each slot its content after the change, from the first change on
abbrev pub given_after : Numbered → SlotGiven
given_after n = record { rrn = n.change.place + 1; slot = n.change.after }

abbrev pub given_forward : List Numbered → List SlotGiven
given_forward changes = map given_after changes

-- removing gives each its content before the change, from the last change back
abbrev pub given_before : Numbered → SlotGiven
given_before n = record { rrn = n.change.place + 1; slot = unwrap_or n.change.before Deleted }

abbrev pub given_back : List Numbered → List SlotGiven
given_back changes = map given_before (reverse changes)

-- each is given to a place that the member has by then, or to one of so many behind its last
abbrev pub AreInPlace : (behind : ℕ) → List SlotGiven → List Slot → Type 0
AreInPlace behind [] slots = ⊤
AreInPlace behind (g ∷ given) slots = (1 ≤ g.rrn) × (g.rrn ≤ length slots + behind) × AreInPlace behind given (put_slot slots (place_given g) g.slot)

-- ---- on the way

-- what was given so far, and how many slots the member has by that
pub record GivenState : Type 0 where
  pub given : List SlotGiven
  pub count : ℕ

abbrev pub given_more : SlotGiven → GivenState → GivenState
given_more g s = record { given = s.given ++ g ∷ []; count = max s.count g.rrn }

abbrev pub later_index : Option ℕ → ℕ → SlotGiven → Option ℕ
later_index (Some i) place g = Some (suc i)
later_index None place g = if place_given g == place then Some 0 else None

-- which of them is the last for a place
abbrev pub last_index : ℕ → List SlotGiven → Option ℕ
last_index place [] = None
last_index place (g ∷ given) = later_index (last_index place given) place g

abbrev pub later_slot : Option Slot → ℕ → SlotGiven → Option Slot
later_slot (Some slot) place g = Some slot
later_slot None place g = if place_given g == place then Some g.slot else None

-- the slot that was given last to a place
abbrev pub latest_slot : ℕ → List SlotGiven → Option Slot
latest_slot place [] = None
latest_slot place (g ∷ given) = later_slot (latest_slot place given) place g

-- a step went on: with this answer, and gave this slot
pub record GoesOn (answer : Result (List Slot) RangeFault) (slots : List Slot) (g : SlotGiven) (old new : GivenState) : Type 0 where
  pub gave : answer ≡ Ok (given_slots new.given slots)
  pub given : new.given ≡ old.given ++ g ∷ []
  pub held : new.count ≡ length (given_slots new.given slots)

-- a walk went to its end: with this answer, and gave these slots
pub record Gave (answer : Result (List Slot) RangeFault) (slots : List Slot) (all : List SlotGiven) (now : GivenState) : Type 0 where
  pub gave : answer ≡ Ok (given_slots now.given slots)
  pub given : now.given ≡ all

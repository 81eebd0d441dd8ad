-- What is open of a journal that is read?
-- (Commitment Control, "Journal management with commitment control".)
use Rattle.std.specs.Prelude.{ℕ, List, [], Option, Some}
use Rattle.member_slots.specs.declared.slot.Slot.{Slot}
use Rattle.journal_model.specs.Rollback.{MemberChange}

-- the commit cycles that are open, in the order of their beginnings, and their changes, the last one first
pub record Open : Type 0 where
  pub cycles : List ℕ
  pub undos : List MemberChange

-- no commit cycle is open
abbrev pub none_open : Open
none_open = record { cycles = []; undos = [] }

-- a change that a commit cycle made
abbrev pub open_change : (member place cycle : ℕ) → Option Slot → Slot → MemberChange
open_change member place cycle before after = record { member = member; change = record { place = place; cycle = Some cycle; before = before; after = after } }

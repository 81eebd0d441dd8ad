-- What do the members of a library become by the entries of the journal?
-- (Journal Management, "Recovery operations using journaling".) Each entry moves the member that it names.
use Rattle.std.specs.Prelude.{ℕ, ◌==◌, if◌then◌else◌, List, [], ◌∷◌, Option, Some, None}
use Rattle.entry_codec.specs.declared.entries.Entry.{Entry}
use Rattle.member_slots.specs.declared.slot.Slot.{Slot}
use Rattle.journal_model.specs.Acts.{act}
use Rattle.journal_model.specs.Replay.{moved}

-- a member's number and its slots
pub record NumberedSlots : Type 0 where
  pub number : ℕ
  pub slots : List Slot

-- a member that isn't there has no slots
abbrev pub slots_in : ℕ → List NumberedSlots → List Slot
slots_in number [] = []
slots_in number (m ∷ members) = if m.number == number then m.slots else slots_in number members

abbrev pub with_slots : ℕ → List Slot → List NumberedSlots → List NumberedSlots
with_slots number slots [] = record { number = number; slots = slots } ∷ []
with_slots number slots (m ∷ members) = if m.number == number then record { number = number; slots = slots } ∷ members else m ∷ with_slots number slots members

abbrev pub member_moved : Option ℕ → Option Entry → Entry → List NumberedSlots → List NumberedSlots
member_moved None prior e members = members
member_moved (Some number) prior e members = with_slots number (moved (slots_in number members) (act number prior e)) members

abbrev pub members_after : List NumberedSlots → Option Entry → List Entry → List NumberedSlots
members_after members prior [] = members
members_after members prior (e ∷ entries) = members_after (member_moved e.member prior e members) (Some e) entries

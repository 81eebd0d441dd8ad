-- How does a path come from nothing? (Our own.)
use Rattle.std.specs.Prelude.{ℕ, ◌+◌, ◌<◌, ◌≤◌, Bool, List, [], ◌∷◌, map, All}
use Rattle.key_order.below.key_pages.specs.declared.entries.Entry.{Entry}
use Rattle.key_order.specs.EntryList.{with_entry}
use Rattle.member_slots.specs.declared.slot.Slot.{Slot}
use Rattle.member_slots.specs.declared.slot.Slot.TheVariants.{Live, Deleted}
use Rattle.member_slots.specs.Members.{NumberedMembers, member_of}

-- the slots of the members with these numbers
abbrev pub member_slots : List ℕ → NumberedMembers → List (List Slot)
member_slots numbers members = map (λ number. (member_of number members).slots) numbers

-- a record that stands there can be asked about
abbrev pub TakesSlot : (List ℕ → Type 0) → Slot → Type 0
TakesSlot takes (Live image) = takes image
TakesSlot takes Deleted = Unit {0}

-- so can those of each format, the first of which has this number
abbrev pub TakesAll : ((format : ℕ) → (image : List ℕ) → Type 0) → (format : ℕ) → List (List Slot) → Type 0
TakesAll takes format [] = Unit {0}
TakesAll takes format (slots ∷ others) = All (TakesSlot (takes format)) slots × TakesAll takes (format + 1) others

-- with these entries too, one put in after another
abbrev pub added : (falling : Bool) → List Entry → List Entry → List Entry
added falling [] entries = entries
added falling (entry ∷ more) entries = added falling more (with_entry falling entry entries)

-- the entry is of an earlier format, or of an earlier record
pub record IsBefore (format rrn : ℕ) (entry : Entry) : Type 0 where
  pub formats : entry.format ≤ format
  pub records : format ≤ entry.format → entry.rrn < rrn

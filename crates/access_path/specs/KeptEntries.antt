-- Which entries does a kept access path have? (Database Programming, "Describing access paths for database files".)
use Rattle.std.specs.Prelude.{ℕ, ◌+◌, Bool, Option, Some, None, List, [], ◌∷◌, ◌++◌}
use Rattle.key_order.below.key_pages.specs.declared.entries.Entry.{Entry}
use Rattle.key_order.specs.Order.{entry_cmp}
use Rattle.member_slots.specs.declared.slot.Slot.{Slot}
use Rattle.member_slots.specs.declared.slot.Slot.TheVariants.{Live, Deleted}
use Rattle.key_order.specs.Sorting.{in_order}

-- the bytes of the key that a format has of an image; none where it doesn't select it
abbrev pub KeyOf : Type 0
KeyOf = (format : ℕ) → (image : List ℕ) → Option (List ℕ)

-- the key that a format has of what stands in a slot
abbrev pub slot_key : (List ℕ → Option (List ℕ)) → Slot → Option (List ℕ)
slot_key key (Live image) = key image
slot_key key Deleted = None

-- the key that a format has of an image, where there is one
abbrev pub image_key : (List ℕ → Option (List ℕ)) → Option (List ℕ) → Option (List ℕ)
image_key key None = None
image_key key (Some image) = key image

abbrev pub entry_with : (format rrn : ℕ) → (key : List ℕ) → Entry
entry_with format rrn key = record { key = key; format = format; rrn = rrn }

-- the entry at a place of a format, where there is one
abbrev pub entries_at : (format rrn : ℕ) → Option (List ℕ) → List Entry
entries_at format rrn None = []
entries_at format rrn (Some key) = entry_with format rrn key ∷ []

-- the entries of a format over these slots, the first of which has this number, in arrival order
abbrev pub entries_in : KeyOf → (format rrn : ℕ) → List Slot → List Entry
entries_in keys format rrn [] = []
entries_in keys format rrn (slot ∷ slots) = entries_at format rrn (slot_key (keys format) slot) ++ entries_in keys format (rrn + 1) slots

-- those of the formats from this number on, each over its slots
abbrev pub entries_from : KeyOf → (format : ℕ) → List (List Slot) → List Entry
entries_from keys format [] = []
entries_from keys format (slots ∷ others) = entries_in keys format 1 slots ++ entries_from keys (format + 1) others

-- the entries in order, each format over its slots
abbrev pub kept : KeyOf → (falling : Bool) → List (List Slot) → List Entry
kept keys falling slots = in_order (entry_cmp falling) (entries_from keys 0 slots)

-- What a slot change reads as that is borrowed from its entries. Our own.
use Rattle.std.specs.Prelude.{ℕ, ◌-◌, List, [], ◌∷◌, Option}
use Rattle.std.specs.Option.{option_map}
use Rattle.entry_codec.specs.declared.entries.Entry.{Entry}
use Rattle.member_slots.specs.declared.slot.Slot.{Slot}
use Rattle.member_slots.specs.declared.slot.Slot.TheVariants.{Live, Deleted}
use Rattle.journal_model.specs.Acts.{Change, act, change_of, place_of}
use Rattle.journal_model.specs.Walks.{Numbered}
use Rattle.range_images.specs.declared.change.Side.{Side}
use Rattle.range_images.specs.declared.change.Side.TheVariants as sides
use Rattle.range_images.specs.declared.change.Sides.{Sides}
use Rattle.range_images.specs.declared.change.SlotChange.{SlotChange}

abbrev pub slot_shown : Side → Slot
slot_shown (sides.Live bytes) = Live bytes.now
slot_shown sides.Deleted = Deleted

abbrev pub numbered_of : SlotChange → Numbered
numbered_of c = record {
  sequence = c.sequence;
  change = record { place = c.rrn - 1; cycle = c.group; before = option_map slot_shown c.sides.before; after = slot_shown c.sides.after };
}

-- the slot change of an entry behind the entry prior
abbrev pub change_in : ℕ → Option Entry → Entry → Option Numbered
change_in number prior e = option_map (λ (c : Change). record { sequence = e.sequence; change = c }) (change_of (act number prior e))

-- the change that these sides are of
abbrev pub change_from : Entry → Sides → Change
change_from e s = record { place = place_of e.rrn; cycle = e.group; before = option_map slot_shown s.before; after = slot_shown s.after }

-- the sequence of the first entry
abbrev pub first_sequence : List Entry → ℕ
first_sequence [] = 0
first_sequence (e ∷ entries) = e.sequence

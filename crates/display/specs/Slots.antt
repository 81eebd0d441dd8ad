-- What one slot adds to the display of its member. (Our own.)
use Rattle.std.specs.Prelude.{ℕ, List, []}
use Rattle.member_slots.specs.declared.slot.Slot.{Slot}
use Rattle.member_slots.specs.declared.slot.Slot.TheVariants.{Live, Deleted}
use Rattle.display.specs.Display.{record_line}

-- to its live records
abbrev pub live_in : Slot → ℕ
live_in (Live image) = 1
live_in Deleted = 0

-- to its lines, at this relative record number
abbrev pub slot_text : ℕ → Slot → List ℕ
slot_text rrn (Live image) = record_line (rrn, image)
slot_text rrn Deleted = []

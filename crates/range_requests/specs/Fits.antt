-- When does a slot that is given fit a member with records of these fields?
use Rattle.std.specs.Prelude.{◌≡◌, ℕ, ◌*◌, ◌≤◌, true, is_some, List, length}
use Rattle.member_slots.specs.declared.member.TheConstants.{MOST_SLOTS, MOST_BYTES}
use Rattle.member_slots.specs.declared.slot.Slot.{Slot}
use Rattle.member_slots.specs.declared.slot.Slot.TheVariants.{Live, Deleted}
use Rattle.record_fmt.specs.declared.formats.Field.{Field}
use Rattle.record_fmt.specs.Layout.{record_length}
use Rattle.record_fmt.specs.Records.{record_held}
use Rattle.range_images.specs.declared.slot_given.SlotGiven.{SlotGiven}

-- a record of these fields: as long as they are together, with a value in each
pub record IsRecordOf (fields : List Field) (image : List ℕ) : Type 0 where
  pub long : length image ≡ record_length fields
  pub values : is_some (record_held fields image) ≡ true

-- a member with records of these fields may have one at this number
pub record MayHavePlace (fields : List Field) (rrn : ℕ) : Type 0 where
  pub counted : 1 ≤ rrn
  pub few : rrn ≤ MOST_SLOTS
  pub small : rrn * record_length fields ≤ MOST_BYTES

-- the slot has a record of these fields, or none
abbrev pub FitsFields : List Field → Slot → Type 0
FitsFields fields (Live image) = IsRecordOf fields image
FitsFields fields Deleted = Unit {0}

pub record IsFit (fields : List Field) (g : SlotGiven) : Type 0 where
  pub slot : FitsFields fields g.slot
  pub place : MayHavePlace fields g.rrn

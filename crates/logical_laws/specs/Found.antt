-- What an entry of a path tells of: a record of the member of its format. (Database Programming, "Describing access paths for database files".)
use Rattle.std.specs.Prelude.{◌≡◌, ℕ, true, Some, is_some, List, length, slice_get}
use Rattle.member_slots.specs.declared.slot.Slot.TheVariants.{Live}
use Rattle.member_slots.specs.Member.{slot_at}
use Rattle.member_slots.specs.Members.{NumberedMembers, member_of}
use Rattle.file_model.below.record_fmt.specs.declared.formats.Field.{Field}
use Rattle.file_model.specs.Layout.{record_length}
use Rattle.file_model.specs.Records.{record_held}
use Rattle.file_model.specs.Paths.{PathEntry}

-- these are the members of the formats, in their order
pub record StandsIn (base : List ℕ) (members : NumberedMembers) (entry : PathEntry) : Type 0 where
  pub member : ℕ
  pub image : List ℕ
  pub is : slice_get base entry.format ≡ Some member
  pub live : slot_at (member_of member members) entry.rrn ≡ Some (Live image)

-- a record of these fields: as long as they are together, with a value in each
pub record HoldsRecord (fields : List Field) (image : List ℕ) : Type 0 where
  pub long : length image ≡ record_length fields
  pub values : is_some (record_held fields image) ≡ true

-- Which physical files can have an access path, and which of their records can stand in it? (DDS for Physical and Logical Files, key field level;
-- that fields lie one behind another is our own.)
use Rattle.std.specs.Prelude.{◌≡◌, ℕ, ◌≤◌, true, List, length, All, Any, is_some}
use Rattle.member_slots.specs.declared.slot.Slot.{Slot}
use Rattle.member_slots.specs.declared.slot.Slot.TheVariants.{Live, Deleted}
use Rattle.member_slots.specs.Members.{NumberedMembers, member_of}
use Rattle.record_fmt.specs.declared.formats.Field.{Field}
use Rattle.record_fmt.specs.Layout.{IsLaidOut, record_length}
use Rattle.record_fmt.specs.Records.{record_held}
use Rattle.dds_physical.specs.declared.physical_files.PhysicalSpec.{PhysicalSpec}
use Rattle.key_spec.specs.declared.KeyPart.{KeyPart}
use Rattle.key_spec.specs.declared.KeyPart.TheVariants.{Field as KeyField, Absent}
use Rattle.access_path.below.key_order.specs.declared.widths.TheConstants.{MOST_POSITIONS}
use Rattle.access_path.specs.KeyFields.{AreBytes}

-- the position is one of these fields
abbrev pub IsFieldPart : List Field → KeyPart → Type 0
IsFieldPart fields (KeyField t offset descend absval) = Any (λ f. (f.ty ≡ t) × (f.offset ≡ offset)) fields
IsFieldPart fields Absent = ⊥

-- its fields lie one behind another, the positions of its key are some of them, and it has a key where no two records may have one key
pub record IsKeyed (spec : PhysicalSpec) : Type 0 where
  pub laid : IsLaidOut spec.format.fields
  pub parts : All (IsFieldPart spec.format.fields) spec.keys.parts
  pub few : length spec.keys.parts ≤ MOST_POSITIONS
  pub some : spec.keys.unique ≡ true → 1 ≤ length spec.keys.parts

-- the image is one of a record with these fields: it has a value in each
pub record IsRecord (fields : List Field) (image : List ℕ) : Type 0 where
  pub long : length image ≡ record_length fields
  pub held : is_some (record_held fields image) ≡ true
  pub bytes : AreBytes image

abbrev pub IsRecordSlot : List Field → Slot → Type 0
IsRecordSlot fields (Live image) = IsRecord fields image
IsRecordSlot fields Deleted = Unit {0}

-- so it is of all records of the member
abbrev pub HasRecordsOf : List Field → (member : ℕ) → NumberedMembers → Type 0
HasRecordsOf fields member members = All (IsRecordSlot fields) (member_of member members).slots

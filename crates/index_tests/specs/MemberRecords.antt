-- Which images are records of the member that is changed at random, and which paths have them? (Our own.)
use Rattle.std.specs.Prelude.{◌≡◌, ℕ, List, [], ◌∷◌, length, All, Some, IsSome}
use Rattle.field_types.specs.declared.kinds.Kind.TheVariants.{Char, Packed, Binary}
use Rattle.field_types.specs.declared.kinds.FieldType.{FieldType}
use Rattle.key_order.specs.KeyFields.{HasField}
use Rattle.member_slots.specs.declared.slot.Slot.{Slot}
use Rattle.member_slots.specs.declared.slot.Slot.TheVariants.{Live, Deleted}
use Rattle.member_slots.specs.Member.{slot_at}
use Rattle.member_slots.specs.Members.{NumberedMembers, RoomyMembers, member_at, member_of}
use Rattle.key_spec.specs.declared.KeyPart.{KeyPart}
use Rattle.file_model.specs.declared.views.ViewField.{ViewField}
use Rattle.file_model.specs.declared.paths.PathFormat.{PathFormat}
use Rattle.file_model.specs.FilePaths.{every_record}
use Rattle.path_entrants.specs.Formats.{IsAskable}
use Rattle.path_set.specs.declared.moves.PathMove.{PathMove}
use Rattle.path_set.specs.KeptPaths.{KeptPaths, NumberedPaths, AreOver}
use Rattle.path_set.specs.RecordChanges.{moves_in}
use Rattle.path_set.specs.MemberSteps.{slot_replaced}

-- ---- records

-- two characters
abbrev pub name : FieldType
name = record { kind = Char; length = 2; decimals = 0 }

-- three digits
abbrev pub amount : FieldType
amount = record { kind = Packed; length = 3; decimals = 0 }

-- two bytes
abbrev pub number : FieldType
number = record { kind = Binary; length = 4; decimals = 0 }

-- a value stands in each of these fields, one behind the other
pub record IsRecord (image : List ℕ) : Type 0 where
  pub long : length image ≡ 6
  pub has_name : HasField name 0 image
  pub has_amount : HasField amount 2 image
  pub has_number : HasField number 4 image

abbrev pub IsRecordSlot : Slot → Type 0
IsRecordSlot (Live image) = IsRecord image
IsRecordSlot Deleted = Unit {0}

-- ---- paths

-- the format is over member 1, and can be asked about each of its records
pub record HasRecords (format : PathFormat) : Type 0 where
  pub member : format.member ≡ 1
  pub asked : (image : List ℕ) → IsRecord image → IsAskable format image

-- and it is the only one
abbrev pub HaveRecords : List PathFormat → Type 0
HaveRecords [] = ⊥
HaveRecords (format ∷ []) = HasRecords format
HaveRecords (format ∷ other ∷ more) = ⊥

-- the format that shows these fields of all records, with this key
abbrev pub format_by : List ViewField → List KeyPart → PathFormat
format_by fields key = record { member = 1; rules = every_record; fields = fields; key = key }

-- ---- the member with its paths

-- the member has such records alone, and each path has what the member gives it
pub record IsFollowed (members : NumberedMembers) (paths : NumberedPaths) : Type 0 where
  pub there : IsSome (member_at 1 members)
  pub long : (member_of 1 members).record_length ≡ 6
  pub records : All IsRecordSlot (member_of 1 members).slots
  pub over : AreOver members paths
  pub asked : All (λ path. HaveRecords path.item.spec.formats) paths

-- the moves by which the paths follow where another slot is put in the place of one
pub record AreMovesOf (members : NumberedMembers) (paths : NumberedPaths) (rrn : ℕ) (slot : Slot) (moves : List PathMove) : Type 0 where
  pub was : Slot
  pub there : slot_at (member_of 1 members) rrn ≡ Some was
  pub same : moves ≡ moves_in (slot_replaced 1 rrn was slot) paths

pub record MemberPaths : Type 0 where
  pub members : RoomyMembers
  pub paths : KeptPaths

-- What an open reads: the records of its member, by the file's key or in arrival order; and the positions that requests set.
-- (Database Programming, "Reading database records" and "Setting a position in the file".)
use Rattle.std.specs.Prelude.{ℕ, ◌+◌, ◌&&◌, ◌||◌, nat_lt, Bool, true, false, not, Option, Some, None, Result, Ok, Err, List, [], ◌∷◌, length, unwrap_or, if◌then◌else◌}
use Rattle.field_types.specs.declared.values.Value.{Value}
use Rattle.field_types.specs.declared.faults.ValueFault.{ValueFault}
use Rattle.field_types.specs.declared.faults.ValueFault.TheVariants.{WrongKind}
use Rattle.field_types.specs.declared.faults.RecordFault.{RecordFault}
use Rattle.field_types.specs.declared.faults.RecordFault.TheVariants.{Count, BadField}
use Rattle.record_fmt.specs.FieldBytes.{fault_of}
use Rattle.key_spec.specs.declared.KeyPart.{KeyPart}
use Rattle.key_spec.specs.declared.KeyPart.TheVariants as parts
use Rattle.logical_model.below.member_slots.specs.declared.slot.Slot.{Slot}
use Rattle.logical_model.below.member_slots.specs.declared.slot.Slot.TheVariants.{Live, Deleted}
use Rattle.logical_model.specs.Member.{slot_at}
use Rattle.logical_model.specs.Members.{member_of}
use Rattle.file_model.specs.KeyOrder.{KeyValue, given_key}
use Rattle.file_model.specs.Paths.{PathEntry}
use Rattle.file_model.specs.Positions.{Reading}
use Rattle.logical_model.specs.Formats.{parts_in, has_key}
use Rattle.logical_model.specs.Readings.{reading_in, has_numbers}
use Rattle.library_model.specs.declared.requests.AccessPath.{AccessPath}
use Rattle.library_model.specs.declared.requests.AccessPath.TheVariants.{File, Arrival}
use Rattle.library_model.specs.declared.replies.Reply.{Reply}
use Rattle.library_model.specs.declared.replies.Reply.TheVariants.{WrongOpen, BadValue}
use Rattle.library_steps.specs.State.{Memory, FileState, OpenState}
use Rattle.library_steps.specs.LogicalFiles.{bases_of}

-- the record that stands in a slot
abbrev pub record_in : Option Slot → Option (List ℕ)
record_in None = None
record_in (Some Deleted) = None
record_in (Some (Live image)) = Some image

abbrev pub live_record : (member rrn : ℕ) → Memory → Option (List ℕ)
live_record member rrn m = record_in (slot_at (member_of member m.members) rrn)

-- the slot of this number; a place past the last is as a deleted one
abbrev pub slot_there : (member rrn : ℕ) → Memory → Slot
slot_there member rrn m = unwrap_or (slot_at (member_of member m.members) rrn) Deleted

abbrev pub is_file_path : AccessPath → Bool
is_file_path File = true
is_file_path Arrival = false

-- the open reads by the file's key
abbrev pub is_keyed : FileState → OpenState → Bool
is_keyed file opened = is_file_path opened.access_path && has_key file.spec

-- what the open reads, in its order
abbrev pub reading_of : FileState → OpenState → Memory → Reading PathEntry
reading_of file opened m = reading_in (bases_of m) file.spec (is_keyed file opened) opened.member m.members

-- ---- the key that a request gives

abbrev pub part_fault : KeyPart → Value → Option ValueFault
part_fault (parts.Field t offset descend absval) v = fault_of t v
part_fault parts.Absent v = Some WrongKind

abbrev pub fault_before : ℕ → Option ValueFault → Option RecordFault → Option RecordFault
fault_before number (Some cause) rest = Some (BadField number cause)
fault_before number None rest = rest

-- the first value that doesn't fit its position, the first of which has this number
abbrev pub value_fault : ℕ → List KeyPart → List Value → Option RecordFault
value_fault number parts [] = None
value_fault number [] (v ∷ values) = None
value_fault number (p ∷ parts) (v ∷ values) = fault_before number (part_fault p v) (value_fault (number + 1) parts values)

-- more values than positions, or the first that doesn't fit
abbrev pub key_fault : List KeyPart → List Value → Option RecordFault
key_fault parts values = if nat_lt (length parts) (length values) then Some Count else value_fault 1 parts values

abbrev pub key_or_fault : List KeyPart → List Value → Option RecordFault → Result (List KeyValue) Reply
key_or_fault parts values (Some fault) = Err (BadValue fault)
key_or_fault parts values None = Ok (given_key parts values)

-- the key of a request through this open: WrongOpen where the open has none, BadValue where a value is none of it
abbrev pub key_asked : FileState → OpenState → List Value → Result (List KeyValue) Reply
key_asked file opened values =
    if is_keyed file opened then key_or_fault (parts_in file.spec) values (key_fault (parts_in file.spec) values) else Err WrongOpen

-- a relative record number is WrongOpen where the open reads by a key, or where it says nothing
abbrev pub number_asked : FileState → OpenState → ℕ → Result ℕ Reply
number_asked file opened rrn = if is_keyed file opened || not (has_numbers file.spec) then Err WrongOpen else Ok rrn

-- Which values can a request give for the first positions of a key? (ILE RPG Reference, "SETLL" and "CHAIN": a search
-- argument of the first key fields. That a value is judged as one that is written to its field is this project's own.)
use Rattle.std.specs.Prelude.{ℕ, ◌+◌, nat_lt, Option, Some, None, List, [], ◌∷◌, length, if◌then◌else◌}
use Rattle.field_types.specs.declared.values.Value.{Value}
use Rattle.field_types.specs.declared.values.Value.TheVariants.{Chars, Number}
use Rattle.field_types.specs.declared.faults.ValueFault.{ValueFault}
use Rattle.field_types.specs.declared.faults.ValueFault.TheVariants.{WrongKind}
use Rattle.field_types.specs.declared.faults.RecordFault.{RecordFault}
use Rattle.field_types.specs.declared.faults.RecordFault.TheVariants.{Count, BadField}
use Rattle.field_laws.specs.FieldBytes.{fault_of}
use Rattle.key_spec.specs.declared.KeyPart.{KeyPart}
use Rattle.key_spec.specs.declared.KeyPart.TheVariants as parts
use Rattle.key_order.specs.KeyFields.{AreBytes}

abbrev pub part_fault : KeyPart → Value → Option ValueFault
part_fault (parts.Field t offset descend absval) v = fault_of t v
part_fault parts.Absent v = Some WrongKind

abbrev pub fault_before : ℕ → Option ValueFault → Option RecordFault → Option RecordFault
fault_before number (Some cause) rest = Some (BadField number cause)
fault_before number None rest = rest

-- the first value that doesn't fit its position, the first of which has this number
abbrev pub value_fault : ℕ → List KeyPart → List Value → Option RecordFault
value_fault number parts [] = None
value_fault number [] (v ∷ values) = None
value_fault number (p ∷ parts) (v ∷ values) = fault_before number (part_fault p v) (value_fault (number + 1) parts values)

-- more values than positions, or the first that doesn't fit
abbrev pub key_fault : List KeyPart → List Value → Option RecordFault
key_fault parts values = if nat_lt (length parts) (length values) then Some Count else value_fault 1 parts values

abbrev pub IsOfBytes : Value → Type 0
IsOfBytes (Chars text) = AreBytes text
IsOfBytes (Number n) = Unit {0}

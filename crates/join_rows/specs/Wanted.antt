-- Which values must a record of a secondary file have to be joined to a row? (DDS for Physical and Logical Files,
-- "JFLD". That each value is looked for as the secondary's field would hold it is our own.)
use Rattle.std.specs.Prelude.{ℕ, Bool, false, ◌==◌, List, [], ◌∷◌, take, drop, map, Option, Some, None, if◌then◌else◌}
use Rattle.std.specs.List.{list_all}
use Rattle.std.specs.Ordering.{is_eq}
use Rattle.field_types.specs.declared.kinds.FieldType.{FieldType}
use Rattle.field_types.specs.declared.values.Value.{Value}
use Rattle.field_types.specs.declared.values.Value.TheVariants.{Chars, Number}
use Rattle.field_types.specs.declared.faults.ValueFault.{ValueFault}
use Rattle.field_values.specs.FieldTypes.{width}
use Rattle.field_values.specs.FieldBytes.{fault_of, as_held, filled}
use Rattle.file_model.specs.declared.joins.JoinPair.{JoinPair}
use Rattle.file_model.specs.KeyOrder.{KeyValue, Ascending, compare_values, begins_with}
use Rattle.file_model.specs.Views.{field_value}

abbrev pub is_blank : ℕ → Bool
is_blank byte = byte == 0x40

-- a text without what passes the width, where only blanks do
abbrev pub cut_to : (width : ℕ) → List ℕ → List ℕ
cut_to width text = if list_all is_blank (drop width text) then take width text else text

-- a value as it is looked for in a field of this type
abbrev pub as_sought : FieldType → Value → Value
as_sought t (Chars text) = Chars (filled (width t) (cut_to (width t) text))
as_sought t (Number n) = Number n

-- what the field then holds; none where it can't hold that
abbrev pub unless_fault : Option ValueFault → Value → Option Value
unless_fault None v = Some v
unless_fault (Some fault) v = None

abbrev pub held_in : FieldType → Value → Option Value
held_in t v = unless_fault (fault_of t v) (as_held t v)

abbrev pub sought_in : FieldType → Option Value → Option Value
sought_in t None = None
sought_in t (Some v) = held_in t (as_sought t v)

abbrev pub with_value : Option Value → Option (List Value) → Option (List Value)
with_value (Some v) (Some values) = Some (v ∷ values)
with_value (Some v) None = None
with_value None values = None

-- the values of the secondary's fields of JFLD, for a record that is joined from; none where no record can have them
abbrev pub wanted : List JoinPair → (from : List ℕ) → Option (List Value)
wanted [] from = Some []
wanted (pair ∷ pairs) from = with_value (sought_in pair.to.ty (field_value from pair.from)) (wanted pairs from)

-- the values as a key of the secondary's path has them
abbrev pub as_key : List Value → List KeyValue
as_key values = map Ascending values

-- a key begins with these values
abbrev pub has_wanted : Option (List Value) → List KeyValue → Bool
has_wanted None key = false
has_wanted (Some values) key = begins_with (as_key values) key

-- a value is the one that is wanted
abbrev pub is_wanted : Option Value → Value → Bool
is_wanted None v = false
is_wanted (Some other) v = is_eq (compare_values v other)

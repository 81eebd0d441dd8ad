-- Which values does a key in bytes stand for? The other way round than the bytes are written. (Our own.)
use Rattle.std.specs.Prelude.{◌≡◌, ℕ, zero, suc, ◌-◌, nat_le, ℤ, pos, negsuc, Bool, List, [], ◌∷◌, take, drop, if◌then◌else◌}
use Rattle.field_types.specs.declared.kinds.FieldType.{FieldType}
use Rattle.field_types.specs.declared.values.Value.{Value}
use Rattle.field_types.specs.declared.values.Value.TheVariants.{Chars}
use Rattle.field_values.specs.FieldTypes.{is_numeric}
use Rattle.field_values.specs.FieldBytes.{decimal}
use Rattle.field_values.specs.Digits.{number_in}
use Rattle.key_spec.specs.declared.KeyPart.{KeyPart}
use Rattle.key_spec.specs.declared.KeyPart.TheVariants.{Field, Absent}
use Rattle.key_order.specs.KeyOrder.{KeyValue, Missing, Ascending, Descending}
use Rattle.key_order.specs.KeyBytes.{middle, turned}
use Rattle.key_order.specs.KeyFields.{value_width}

-- ---- a value

-- so far from the middle
abbrev pub units_from : (middle number : ℕ) → ℤ
units_from middle number = if nat_le middle number then pos (number - middle) else negsuc (middle - number - 1)

-- a text by its own bytes, a number with its field's decimals
abbrev pub value_in : FieldType → List ℕ → Value
value_in t bytes = if is_numeric t.kind then decimal t.decimals (units_from (middle t.length) (number_in 256 bytes)) else Chars bytes

-- by its direction
abbrev pub directed : (descend : Bool) → Value → KeyValue
directed descend v = if descend then Descending v else Ascending v

-- ---- a position

-- what begins with this byte, of which these are the next: 0 stands where the position is missing
abbrev pub position_in : KeyPart → (first : ℕ) → (bytes : List ℕ) → KeyValue
position_in (Field t offset descend absval) zero bytes = Missing
position_in (Field t offset descend absval) (suc n) bytes = directed descend (value_in t (turned descend (take (value_width t) bytes)))
position_in Absent first bytes = Missing

-- how many bytes stand behind the first one
abbrev pub bytes_behind : KeyPart → (first : ℕ) → ℕ
bytes_behind (Field t offset descend absval) zero = 0
bytes_behind (Field t offset descend absval) (suc n) = value_width t
bytes_behind Absent first = 0

-- ---- a key

-- the values of the first positions, as far as the bytes go
abbrev pub values_in : List KeyPart → List ℕ → List KeyValue
values_in [] bytes = []
values_in (p ∷ parts) [] = []
values_in (p ∷ parts) (b ∷ bytes) = position_in p b bytes ∷ values_in parts (drop (bytes_behind p b) bytes)

-- ---- the positions of one of a file's formats

-- what the format has at a position, the file has there in the same type and direction
abbrev pub IsAmong : KeyPart → KeyPart → Type 0
IsAmong (Field t offset descend absval) (Field u place falls counted) = (t ≡ u) × (descend ≡ falls)
IsAmong (Field t offset descend absval) Absent = ⊥
IsAmong Absent other = Unit {0}

-- each of the format's positions is one of the file's, which may have more
abbrev pub AreAmong : (own file : List KeyPart) → Type 0
AreAmong [] file = Unit {0}
AreAmong (p ∷ own) [] = ⊥
AreAmong (p ∷ own) (other ∷ file) = IsAmong p other × AreAmong own file

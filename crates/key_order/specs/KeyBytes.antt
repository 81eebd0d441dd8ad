-- Which bytes does a key have, so that keys stand in the order of their bytes? (Our own.)
use Rattle.std.specs.Prelude.{ℕ, suc, ◌+◌, ◌-◌, ◌*◌, ◌/◌, ◌^◌, ℤ, pos, negsuc, List, [], ◌∷◌, ◌++◌, map, Bool, if◌then◌else◌}
use Rattle.field_types.specs.declared.values.Value.{Value}
use Rattle.field_types.specs.declared.values.Value.TheVariants.{Chars, Number}
use Rattle.field_laws.specs.FieldTypes.{packed_width}
use Rattle.field_laws.specs.Digits.{digits_in}
use Rattle.key_spec.specs.declared.KeyPart.{KeyPart}
use Rattle.key_spec.specs.declared.KeyPart.TheVariants.{Field, Absent}
use Rattle.file_model.specs.KeyOrder.{KeyValue, Missing, Ascending, Descending, key_of, given_key}

-- ---- a value

-- half of what the bytes of a number of so many digits can count
abbrev pub middle : ℕ → ℕ
middle digits = 128 * 256 ^ (digits / 2)

-- so far from the middle
abbrev pub from_middle : ℕ → ℤ → ℕ
from_middle m (pos n) = m + n
from_middle m (negsuc n) = m - suc n

-- a number has as many bytes as a packed field of its digits, and 0 stands in their middle
unfoldable pub number_bytes : (digits : ℕ) → ℤ → List ℕ
number_bytes digits units = digits_in 256 (packed_width digits) (from_middle (middle digits) units)

-- a text has its own
abbrev pub value_bytes : (digits : ℕ) → Value → List ℕ
value_bytes digits (Chars text) = text
value_bytes digits (Number n) = number_bytes digits n.units

-- ---- a position

-- each byte turned round
abbrev pub complement : List ℕ → List ℕ
complement bytes = map (λ b. 255 - b) bytes

-- the bytes of a value, by its direction
abbrev pub turned : (descend : Bool) → List ℕ → List ℕ
turned descend bytes = if descend then complement bytes else bytes

-- 0 where the position is missing, and 1 before a value
abbrev pub position_bytes : (digits : ℕ) → KeyValue → List ℕ
position_bytes digits Missing = 0 ∷ []
position_bytes digits (Ascending v) = 1 ∷ value_bytes digits v
position_bytes digits (Descending v) = 1 ∷ complement (value_bytes digits v)

-- the digits of a position's field
abbrev pub digits_of : KeyPart → ℕ
digits_of (Field t offset descend absval) = t.length
digits_of Absent = 0

-- ---- a key

-- one position behind the other
abbrev pub key_bytes : List KeyPart → List KeyValue → List ℕ
key_bytes [] values = []
key_bytes (p ∷ parts) [] = []
key_bytes (p ∷ parts) (v ∷ values) = position_bytes (digits_of p) v ++ key_bytes parts values

-- the bytes of the key of an image
abbrev pub encoded : List KeyPart → List ℕ → List ℕ
encoded parts image = key_bytes parts (key_of parts image)

-- the bytes of the values that a request gives for the first positions
abbrev pub encoded_values : List KeyPart → List Value → List ℕ
encoded_values parts values = key_bytes parts (given_key parts values)

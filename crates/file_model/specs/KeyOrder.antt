-- Which of two keys comes first? (DDS for Physical and Logical Files, key field level: "DESCEND", "ABSVAL"; that a
-- position which a format lacks comes before every value, and how the bytes of dates and times order, are this
-- project's own.)
use Rattle.std.specs.Prelude.{ℕ, Bool, List, [], ◌∷◌, length, take, map, Option, Some, None, pos, unsigned_abs, if◌then◌else◌}
use Rattle.std.specs.declared.cmp.Ordering.{Ordering}
use Rattle.std.specs.declared.cmp.Ordering.TheVariants.{Less, Equal, Greater}
use Rattle.std.specs.Ordering.{nat_cmp, ordering_reverse, is_eq}
use Rattle.std.specs.Cmp.Lexicographic.{slice_cmp}
use Rattle.decimal_order.below.field_types.specs.declared.values.Value.{Value}
use Rattle.decimal_order.below.field_types.specs.declared.values.Value.TheVariants.{Chars, Number}
use Rattle.record_fmt.specs.FieldTypes.{width}
use Rattle.record_fmt.specs.FieldBytes.{held, as_held}
use Rattle.record_fmt.specs.FirstBad.{part}
use Rattle.decimal_order.specs.DecimalOrder.{compare_numbers}
use Rattle.key_spec.specs.declared.KeyPart.{KeyPart}
use Rattle.key_spec.specs.declared.KeyPart.TheVariants.{Field, Absent}

-- what a record has at one position of the key
pub data KeyValue : Type 0 where
  -- the record's format lacks the position
  Missing : KeyValue
  Ascending : Value → KeyValue
  Descending : Value → KeyValue

-- ---- the order

-- texts by their bytes, numbers by value
abbrev pub compare_values : Value → Value → Ordering
compare_values (Chars a) (Chars b) = slice_cmp nat_cmp a b
compare_values (Number a) (Number b) = compare_numbers a b
compare_values (Chars a) (Number b) = Less
compare_values (Number a) (Chars b) = Greater

-- a position that is missing comes before every value, also where values descend
abbrev pub compare_key_values : KeyValue → KeyValue → Ordering
compare_key_values Missing Missing = Equal
compare_key_values Missing (Ascending b) = Less
compare_key_values Missing (Descending b) = Less
compare_key_values (Ascending a) Missing = Greater
compare_key_values (Ascending a) (Ascending b) = compare_values a b
compare_key_values (Ascending a) (Descending b) = Less
compare_key_values (Descending a) Missing = Greater
compare_key_values (Descending a) (Ascending b) = Greater
compare_key_values (Descending a) (Descending b) = ordering_reverse (compare_values a b)

-- the first position that differs decides
abbrev pub compare_keys : List KeyValue → List KeyValue → Ordering
compare_keys a b = slice_cmp compare_key_values a b

-- a key against the values of its first positions: they are equal where the key begins with them
abbrev pub compare_with : List KeyValue → List KeyValue → Ordering
compare_with values key = compare_keys (take (length values) key) values

abbrev pub begins_with : List KeyValue → List KeyValue → Bool
begins_with values key = is_eq (compare_with values key)

-- ---- the key of a record

-- without its sign
abbrev pub absolute : Value → Value
absolute (Chars text) = Chars text
absolute (Number n) = Number (record { units = pos (unsigned_abs n.units); scale = n.scale })

-- a value at a position of the key, by ABSVAL and DESCEND
abbrev pub ordered : (descend absval : Bool) → Value → KeyValue
ordered descend absval v =
    let counted = if absval then absolute v else v in
    if descend then Descending counted else Ascending counted

-- the value of a field there, which each image of a record has
abbrev pub at_position : (descend absval : Bool) → Option Value → KeyValue
at_position descend absval (Some v) = ordered descend absval v
at_position descend absval None = Missing

-- what an image has at a position
abbrev pub key_value : KeyPart → List ℕ → KeyValue
key_value (Field t offset descend absval) image = at_position descend absval (held t (part offset (width t) image))
key_value Absent image = Missing

-- the key of an image
abbrev pub key_of : List KeyPart → List ℕ → List KeyValue
key_of parts image = map (λ p. key_value p image) parts

-- ---- the key that a request gives

-- a value that a request gives for a position
abbrev pub given_value : KeyPart → Value → KeyValue
given_value (Field t offset descend absval) v = ordered descend absval (as_held t v)
given_value Absent v = Missing

-- the values that a request gives for the first positions
abbrev pub given_key : List KeyPart → List Value → List KeyValue
given_key [] values = []
given_key (p ∷ parts) [] = []
given_key (p ∷ parts) (v ∷ values) = given_value p v ∷ given_key parts values

-- of two formats' positions at one place, that which one of them has
abbrev pub either_part : KeyPart → KeyPart → KeyPart
either_part (Field t offset descend absval) other = Field t offset descend absval
either_part Absent other = other

-- the positions of two formats together
abbrev pub either_parts : List KeyPart → List KeyPart → List KeyPart
either_parts [] others = others
either_parts (p ∷ parts) [] = p ∷ parts
either_parts (p ∷ parts) (other ∷ others) = either_part p other ∷ either_parts parts others

-- the positions of a file: at each the first format that has it tells its type
abbrev pub merged_parts : List (List KeyPart) → List KeyPart
merged_parts [] = []
merged_parts (parts ∷ formats) = either_parts parts (merged_parts formats)

-- The bytes of a value: which image of a field stands for which value, which one is written, why none is,
-- and where an image stops being the beginning of one. (DDS for Physical and Logical Files, "Data type".)
use Rattle.std.specs.Prelude.{◌≡◌, ℕ, ◌-◌, ◌*◌, ◌/◌, ◌%◌, ◌^◌, ◌≤◌, Bool, not, ◌==◌, ◌&&◌, nat_lt, nat_le, ℤ, unsigned_abs, Option, Some, None, Result, Ok, Err, is_some, option_map, List, ◌++◌, length, replicate, if◌then◌else◌}
use Rattle.decimal_order.below.field_types.specs.declared.kinds.Kind.{Kind}
use Rattle.decimal_order.below.field_types.specs.declared.kinds.Kind.TheVariants.{Char, Zoned, Packed, Binary, Date, Time, Stamp}
use Rattle.decimal_order.below.field_types.specs.declared.kinds.FieldType.{FieldType}
use Rattle.decimal_order.below.field_types.specs.declared.values.Dec.{Dec}
use Rattle.decimal_order.below.field_types.specs.declared.values.Value.{Value}
use Rattle.decimal_order.below.field_types.specs.declared.values.Value.TheVariants.{Chars, Number}
use Rattle.decimal_order.below.field_types.specs.declared.faults.ValueFault.{ValueFault}
use Rattle.decimal_order.below.field_types.specs.declared.faults.ValueFault.TheVariants.{WrongKind, TooManyDecimals, TooWide, BadDate, ReadOnlyField}
use Rattle.field_values.specs.FieldTypes.{width, packed_width, binary_width, is_numeric, is_moment_kind}
use Rattle.field_values.specs.Digits.{digits_in, sign_of, signed, is_negative}
use Rattle.field_values.specs.Zoned.{zoned_number, zoned_bytes}
use Rattle.field_values.specs.Packed.{packed_number, packed_bytes}
use Rattle.field_values.specs.Binary.{binary_number, binary_bytes}
use Rattle.field_values.specs.Moments.{is_moment}
use Rattle.field_values.specs.FirstBad.{IsFirstBad}

-- a number of units with so many decimals
abbrev pub decimal : ℕ → ℤ → Value
decimal scale units = Number (record { units = units; scale = scale })

abbrev pub held_as : Kind → ℕ → ℕ → List ℕ → Option Value
held_as Char length decimals image = Some (Chars image)
held_as Zoned length decimals image = option_map (decimal decimals) (zoned_number image)
held_as Packed length decimals image = option_map (decimal decimals) (packed_number length image)
held_as Binary length decimals image = option_map (decimal decimals) (binary_number length image)
held_as Date length decimals image = if is_moment Date image then Some (Chars image) else None
held_as Time length decimals image = if is_moment Time image then Some (Chars image) else None
held_as Stamp length decimals image = if is_moment Stamp image then Some (Chars image) else None

-- the value that stands in a field: a text in the field's whole width, a number with its decimals
unfoldable pub held : FieldType → List ℕ → Option Value
held t image = if length image == width t then held_as t.kind t.length t.decimals image else None

-- the image stands for the value
abbrev pub stands : FieldType → Value → List ℕ → Type 0
stands t v image = held t image ≡ Some v

-- an image of a value of the type begins with the bytes before this one, and none with them and this one
abbrev pub IsBadAt : FieldType → List ℕ → ℕ → Type 0
IsBadAt t image at = IsFirstBad (λ bytes. is_some (held t bytes)) image at

-- the number in units of the field's last decimal position, without digits behind it
abbrev pub units_at : ℕ → Dec → ℤ
units_at decimals n = signed (is_negative n.units) (unsigned_abs n.units * 10 ^ decimals / 10 ^ n.scale)

-- a digit other than 0 stands behind the last decimal position
abbrev pub has_more_decimals : ℕ → Dec → Bool
has_more_decimals decimals n = not (unsigned_abs n.units * 10 ^ decimals % 10 ^ n.scale == 0)

-- what scaling a magnitude by digits behind the point gives: the exact one, or why there is none
abbrev pub Rescaled : ℕ → ℕ → ℕ → Result ℕ ValueFault → Type 0
Rescaled magnitude scale decimals (Ok n) = n * 10 ^ scale ≡ magnitude * 10 ^ decimals
Rescaled magnitude scale decimals (Err TooManyDecimals) = (magnitude * 10 ^ decimals % 10 ^ scale ≡ 0) → ⊥
Rescaled magnitude scale decimals (Err TooWide) = (magnitude * 10 ^ decimals % 10 ^ scale ≡ 0) × (10 ^ 31 ≤ magnitude * 10 ^ decimals / 10 ^ scale)
Rescaled magnitude scale decimals (Err WrongKind) = ⊥
Rescaled magnitude scale decimals (Err BadDate) = ⊥
Rescaled magnitude scale decimals (Err ReadOnlyField) = ⊥

-- the number has more digits than the field
abbrev pub is_too_wide : ℕ → ℤ → Bool
is_too_wide digits units = nat_le (10 ^ digits) (unsigned_abs units)

-- why a text can't stand in a field that has texts
abbrev pub text_fault : Kind → ℕ → List ℕ → Option ValueFault
text_fault kind width text =
    if nat_lt width (length text) then Some TooWide
    else (if is_moment_kind kind && not (is_moment kind text) then Some BadDate else None)

-- why a number can't stand in a field that has numbers
abbrev pub number_fault : ℕ → ℕ → Dec → Option ValueFault
number_fault digits decimals n =
    if has_more_decimals decimals n then Some TooManyDecimals
    else (if is_too_wide digits (units_at decimals n) then Some TooWide else None)

-- why a value can't stand in a field: the first reason, in the order that is kept
unfoldable pub fault_of : FieldType → Value → Option ValueFault
fault_of t (Chars text) = if is_numeric t.kind then Some WrongKind else text_fault t.kind (width t) text
fault_of t (Number n) = if is_numeric t.kind then number_fault t.length t.decimals n else Some WrongKind

-- a text, and blanks, X'40', to the field's width
abbrev pub filled : ℕ → List ℕ → List ℕ
filled width text = text ++ replicate (width - length text) 0x40

abbrev pub number_written : Kind → ℕ → ℤ → List ℕ
number_written Char length units = replicate length 0x40
number_written Zoned length units = zoned_bytes (digits_in 10 length (unsigned_abs units)) (sign_of (is_negative units))
number_written Packed length units = packed_bytes (digits_in 10 (2 * packed_width length - 1) (unsigned_abs units)) (sign_of (is_negative units))
number_written Binary length units = binary_bytes (binary_width length) units
number_written Date length units = replicate length 0x40
number_written Time length units = replicate length 0x40
number_written Stamp length units = replicate length 0x40

-- the one image that is written for a value that fits: with sign F or D, and without minus zero
unfoldable pub written : FieldType → Value → List ℕ
written t (Chars text) = filled (width t) text
written t (Number n) = number_written t.kind t.length (units_at t.decimals n)

-- the value as its field holds it: a text in the field's whole width, a number with the field's decimals
unfoldable pub as_held : FieldType → Value → Value
as_held t (Chars text) = Chars (filled (width t) text)
as_held t (Number n) = decimal t.decimals (units_at t.decimals n)

-- Field types: which lengths and decimals a data description may give, and how many bytes a field has.
-- (DDS for Physical and Logical Files, "Length", "Data type" and "Decimal positions".)
use Rattle.std.specs.Prelude.{ℕ, ◌+◌, ◌/◌, Bool, true, false, ◌&&◌, ◌==◌, nat_le, IsTrue, if◌then◌else◌}
use Rattle.decimal_order.below.field_types.specs.declared.kinds.Kind.{Kind}
use Rattle.decimal_order.below.field_types.specs.declared.kinds.Kind.TheVariants.{Char, Zoned, Packed, Binary, Date, Time, Stamp}
use Rattle.decimal_order.below.field_types.specs.declared.kinds.FieldType.{FieldType}

abbrev pub is_between : ℕ → ℕ → ℕ → Bool
is_between low high n = nat_le low n && nat_le n high

-- whether a field of the kind may have this length and these decimals
abbrev pub is_allowed : Kind → ℕ → ℕ → Bool
is_allowed Char length decimals = is_between 1 32766 length && (decimals == 0)
is_allowed Zoned length decimals = is_between 1 31 length && nat_le decimals length
is_allowed Packed length decimals = is_between 1 31 length && nat_le decimals length
is_allowed Binary length decimals = is_between 1 18 length && nat_le decimals length
is_allowed Date length decimals = (length == 10) && (decimals == 0)
is_allowed Time length decimals = (length == 8) && (decimals == 0)
is_allowed Stamp length decimals = (length == 26) && (decimals == 0)

-- the type is one that a data description can give
abbrev pub IsFieldType : FieldType → Type 0
IsFieldType t = IsTrue (is_allowed t.kind t.length t.decimals)

-- two bytes hold 4 digits, four bytes 9, eight bytes 18
abbrev pub binary_width : ℕ → ℕ
binary_width digits = if nat_le digits 4 then 2 else (if nat_le digits 9 then 4 else 8)

-- a byte for each two digits, and half a byte for the sign
abbrev pub packed_width : ℕ → ℕ
packed_width digits = digits / 2 + 1

abbrev pub width_of : Kind → ℕ → ℕ
width_of Char length = length
width_of Zoned length = length
width_of Packed length = packed_width length
width_of Binary length = binary_width length
width_of Date length = length
width_of Time length = length
width_of Stamp length = length

-- the bytes of a field
abbrev pub width : FieldType → ℕ
width t = width_of t.kind t.length

abbrev pub is_numeric : Kind → Bool
is_numeric Char = false
is_numeric Zoned = true
is_numeric Packed = true
is_numeric Binary = true
is_numeric Date = false
is_numeric Time = false
is_numeric Stamp = false

abbrev pub is_moment_kind : Kind → Bool
is_moment_kind Char = false
is_moment_kind Zoned = false
is_moment_kind Packed = false
is_moment_kind Binary = false
is_moment_kind Date = true
is_moment_kind Time = true
is_moment_kind Stamp = true

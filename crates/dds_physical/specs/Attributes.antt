-- The type of a field: what its line gives, and what it copies where it refers to another field.
-- (DDS for Physical and Logical Files, "Reference", "Length", "Data type" and "Decimal positions", positions 29 to 37.)
use Rattle.std.specs.Prelude.{ℕ, ◌+◌, ◌-◌, Bool, not, ◌&&◌, ◌||◌, ◌==◌, nat_lt, Option, Some, None, is_some, is_none, Result, Ok, Err, if◌then◌else◌}
use Rattle.field_types.specs.declared.kinds.Kind.{Kind}
use Rattle.field_types.specs.declared.kinds.Kind.TheVariants.{Char, Zoned, Packed, Binary, Date, Time, Stamp}
use Rattle.field_types.specs.declared.kinds.FieldType.{FieldType}
use Rattle.record_fmt.specs.FieldTypes.{is_allowed, is_numeric}
use Rattle.dds_source.specs.declared.faults.DdsFault.{DdsFault}
use Rattle.dds_source.specs.declared.faults.DdsCause.TheVariants.{BadLength, BadDecimals, BadType}
use Rattle.dds_source.specs.declared.specifications.LengthEntry.{LengthEntry}
use Rattle.dds_source.specs.declared.specifications.LengthEntry.TheVariants.{Exactly, Longer, Shorter}
use Rattle.dds_source.specs.declared.specifications.Specification.{Specification}
use Rattle.dds_physical.specs.Places.{fault_at}

-- The data type.

abbrev pub kind_by_letter : ℕ → Option Kind
kind_by_letter c =
    if c == 65 then Some Char
    else (if c == 83 then Some Zoned
    else (if c == 80 then Some Packed
    else (if c == 66 then Some Binary
    else (if c == 76 then Some Date
    else (if c == 84 then Some Time
    else (if c == 90 then Some Stamp
    else None))))))

-- by its letter, else the copied one, else packed where decimals are given and character where they aren't
abbrev pub kind_of : Option ℕ → Option ℕ → Option FieldType → Option Kind
kind_of (Some letter) decimals copied = kind_by_letter letter
kind_of None decimals (Some t) = Some t.kind
kind_of None decimals None = Some (if is_some decimals then Packed else Char)

-- The length.

-- what a date, a time and a timestamp have without a length
abbrev pub own_length : Kind → ℕ
own_length Char = 0
own_length Zoned = 0
own_length Packed = 0
own_length Binary = 0
own_length Date = 10
own_length Time = 8
own_length Stamp = 26

abbrev pub copied_length : Option FieldType → ℕ
copied_length None = 0
copied_length (Some t) = t.length

-- where no length is given: that of a date, time or timestamp whose type is given, else the copied one
abbrev pub blank_length : Option ℕ → Kind → Option FieldType → ℕ
blank_length data_type kind copied =
    if (nat_lt 0 (own_length kind) && is_some data_type) || is_none copied then own_length kind else copied_length copied

-- a given length counts, and one with a sign changes the copied one
abbrev pub length_of : Option LengthEntry → Option ℕ → Kind → Option FieldType → ℕ
length_of None data_type kind copied = blank_length data_type kind copied
length_of (Some (Exactly n)) data_type kind copied = n
length_of (Some (Longer n)) data_type kind copied = copied_length copied + n
length_of (Some (Shorter n)) data_type kind copied = copied_length copied - n

-- The decimal positions.

-- the copied ones, where the field is a number
abbrev pub copied_decimals : Kind → Option FieldType → ℕ
copied_decimals kind None = 0
copied_decimals kind (Some t) = if is_numeric kind then t.decimals else 0

-- given decimals count, else the copied ones, else 0
abbrev pub decimals_of : Option ℕ → Kind → Option FieldType → ℕ
decimals_of None kind copied = copied_decimals kind copied
decimals_of (Some n) kind copied = n

-- given for what is no number, or more than the length
abbrev pub are_decimals_wrong : Bool → Kind → ℕ → ℕ → Bool
are_decimals_wrong given kind length decimals = (given && not (is_numeric kind)) || not (is_allowed kind length decimals)

-- The type.

-- BadLength: missing, or outside its bounds. BadDecimals: as above.
abbrev pub sized : Specification → Kind → ℕ → ℕ → Result FieldType DdsFault
sized s kind length decimals =
    if not (is_allowed kind length 0) then Err (fault_at s 30 BadLength)
    else (if are_decimals_wrong (is_some s.columns.decimals) kind length decimals then Err (fault_at s 36 BadDecimals)
    else Ok (record { kind = kind; length = length; decimals = decimals }))

abbrev pub attributes_of_kind : Specification → Option FieldType → Option Kind → Result FieldType DdsFault
attributes_of_kind s copied None = Err (fault_at s 35 BadType)
attributes_of_kind s copied (Some kind) = sized s kind (length_of s.columns.length s.columns.data_type kind copied) (decimals_of s.columns.decimals kind copied)

-- the type of a field, or what is wrong with its entries: with BadType, nothing is known of the others
abbrev pub attributes : Specification → Option FieldType → Result FieldType DdsFault
attributes s copied = attributes_of_kind s copied (kind_of s.columns.data_type s.columns.decimals copied)

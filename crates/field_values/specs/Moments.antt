-- Dates, times and timestamps: which texts in code page 037 are one in *ISO form, of the years 0001 to 9999.
-- (DDS for Physical and Logical Files, "Data type", L, T and Z; DATFMT and TIMFMT, *ISO.)
use Rattle.std.specs.Prelude.{ℕ, ◌%◌, Bool, false, not, ◌&&◌, ◌||◌, ◌==◌, List, length, map, slice_index, if◌then◌else◌}
use Rattle.std.specs.List.{list_all}
use Rattle.decimal_order.below.field_types.specs.declared.kinds.Kind.{Kind}
use Rattle.decimal_order.below.field_types.specs.declared.kinds.Kind.TheVariants.{Char, Zoned, Packed, Binary, Date, Time, Stamp}
use Rattle.field_values.specs.FieldTypes.{is_between}
use Rattle.field_values.specs.Digits.{number_in, low_half}
use Rattle.field_values.specs.Zoned.{is_zone_digit}
use Rattle.field_values.specs.FirstBad.{part}

-- every fourth year, but of the centuries only every fourth
abbrev pub is_leap_year : ℕ → Bool
is_leap_year year = (year % 4 == 0) && (not (year % 100 == 0) || (year % 400 == 0))

abbrev pub days_in_month : ℕ → ℕ → ℕ
days_in_month year month =
    if month == 2 then (if is_leap_year year then 29 else 28)
    else (if (month == 4) || (month == 6) || (month == 9) || (month == 11) then 30 else 31)

-- the number of a text's digits
abbrev pub spelled : List ℕ → ℕ
spelled text = number_in 10 (map low_half text)

-- digits that spell a number from low to high
abbrev pub spells : ℕ → ℕ → List ℕ → Bool
spells low high text = list_all is_zone_digit text && is_between low high (spelled text)

abbrev pub spells_in : ℕ → ℕ → ℕ → List ℕ → Bool
spells_in low high n text = (length text == n) && spells low high text

-- the hyphen, X'60', stands there
abbrev pub has_hyphen : ℕ → List ℕ → Bool
has_hyphen i text = slice_index text i == 0x60

-- the period, X'4B', stands there
abbrev pub has_period : ℕ → List ℕ → Bool
has_period i text = slice_index text i == 0x4B

-- yyyy-mm-dd
abbrev pub is_date : List ℕ → Bool
is_date text =
    (length text == 10) && spells 1 9999 (part 0 4 text) && has_hyphen 4 text && spells 1 12 (part 5 2 text) && has_hyphen 7 text
    && spells 1 (days_in_month (spelled (part 0 4 text)) (spelled (part 5 2 text))) (part 8 2 text)

-- hh.mm.ss
abbrev pub is_time : List ℕ → Bool
is_time text =
    (length text == 8) && spells 0 23 (part 0 2 text) && has_period 2 text && spells 0 59 (part 3 2 text) && has_period 5 text
    && spells 0 59 (part 6 2 text)

-- yyyy-mm-dd-hh.mm.ss.mmmmmm
abbrev pub is_timestamp : List ℕ → Bool
is_timestamp text =
    (length text == 26) && is_date (part 0 10 text) && has_hyphen 10 text && is_time (part 11 8 text) && has_period 19 text
    && spells 0 999999 (part 20 6 text)

-- the text is a date, time or timestamp, as the field's kind asks
abbrev pub is_moment : Kind → List ℕ → Bool
is_moment Char text = false
is_moment Zoned text = false
is_moment Packed text = false
is_moment Binary text = false
is_moment Date text = is_date text
is_moment Time text = is_time text
is_moment Stamp text = is_timestamp text

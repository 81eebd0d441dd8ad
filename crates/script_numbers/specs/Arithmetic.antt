-- What a sum, a difference and a product of two numbers of a script are.
-- (CL, arithmetic expressions; the scales and the bound on digits are our own.)
use Rattle.std.specs.Prelude.{ℕ, zero, suc, ◌+◌, ◌-◌, ◌%◌, ◌^◌, ◌==◌, nat_lt, max, ℤ, pos, negsuc, ◌+ℤ◌, ◌-ℤ◌, ◌*ℤ◌, unsigned_abs, int_div, Bool, ◌&&◌, if◌then◌else◌, Option, Some, None, option_map}
use Rattle.field_types.specs.declared.values.Dec.{Dec}
use Rattle.script_numbers.specs.declared.units.TheConstants.{MOST_DIGITS}

-- a number in units of a scale that isn't less than its own
abbrev pub units_at : ℕ → Dec → ℤ
units_at scale number = number.units *ℤ pos (10 ^ (scale - number.scale))

-- printed with this scale, a digit before the point at the least, the number has no more than 31 digits
abbrev pub is_printed : ℕ → ℤ → Bool
is_printed scale units = nat_lt (unsigned_abs units) (10 ^ MOST_DIGITS) && nat_lt scale MOST_DIGITS

-- the number, where it isn't too long
abbrev pub number_of : ℕ → ℤ → Option Dec
number_of scale units = if is_printed scale units then Some (record { units = units; scale = scale }) else None

-- a sum and a difference have the larger scale
abbrev pub sum_of : Dec → Dec → Option Dec
sum_of left right =
    let scale = max left.scale right.scale in
    number_of scale (units_at scale left +ℤ units_at scale right)

abbrev pub difference_of : Dec → Dec → Option Dec
difference_of left right =
    let scale = max left.scale right.scale in
    number_of scale (units_at scale left -ℤ units_at scale right)

-- a number of this scale and these units, without the zeros that end its decimals
abbrev pub trimmed : ℕ → ℤ → Dec
trimmed zero units = record { units = units; scale = 0 }
trimmed (suc scale) units =
    if unsigned_abs units % 10 == 0 then trimmed scale (int_div units (pos 10)) else record { units = units; scale = suc scale }

abbrev pub without_zeros : Dec → Dec
without_zeros number = trimmed number.scale number.units

-- a product of two numbers without such zeros has the sum of their scales, and its own zeros are dropped last
abbrev pub product_of : Dec → Dec → Option Dec
product_of left right =
    let x = without_zeros left in
    let y = without_zeros right in
    option_map without_zeros (number_of (x.scale + y.scale) (x.units *ℤ y.units))

abbrev pub natural : ℤ → Option ℕ
natural (pos n) = Some n
natural (negsuc n) = None

-- the whole number from 0 on that a number is: all its decimals are zeros
abbrev pub whole_of : Dec → Option ℕ
whole_of number =
    let trimmed_number = without_zeros number in
    if trimmed_number.scale == 0 then natural trimmed_number.units else None

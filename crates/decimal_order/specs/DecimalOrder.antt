-- The order of decimal numbers by value, whatever their scales.
use Rattle.std.specs.Prelude.{◌≡◌, ℕ, ◌^◌, Bool, true, false, ℤ, pos, negsuc, ◌*ℤ◌}
use Rattle.std.specs.declared.cmp.Ordering.{Ordering}
use Rattle.std.specs.Ordering.{int_cmp}
use Rattle.field_types.specs.declared.values.Dec.{Dec}

-- the units of a number with so many digits more behind the point
abbrev pub units_with : ℕ → Dec → ℤ
units_with digits n = n.units *ℤ pos (10 ^ digits)

-- the order of two numbers is that of their units where both have the digits of both behind the point
unfoldable pub compare_numbers : Dec → Dec → Ordering
compare_numbers a b = int_cmp (units_with b.scale a) (units_with a.scale b)

-- two numbers of one value
abbrev pub HaveOneValue : Dec → Dec → Type 0
HaveOneValue a b = units_with b.scale a ≡ units_with a.scale b

abbrev pub is_below_zero : ℤ → Bool
is_below_zero (pos n) = false
is_below_zero (negsuc n) = true

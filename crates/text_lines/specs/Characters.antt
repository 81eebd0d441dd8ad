-- Single characters: a letter in upper case, and the values of hexadecimal digits.
-- (DDS for Physical and Logical Files, "Syntax rules for DDS keywords and parameter values"; CL reference, "Hexadecimal values".)
use Rattle.std.specs.Prelude.{ℕ, ◌+◌, ◌-◌, ◌*◌, Bool, ◌&&◌, nat_le, Option, Some, None, if◌then◌else◌}

abbrev pub is_small_letter : ℕ → Bool
is_small_letter c = nat_le 97 c && nat_le c 122

-- a letter in upper case, any other character as it is
abbrev pub folded : ℕ → ℕ
folded c = if is_small_letter c then c - 32 else c

-- the value of a hexadecimal digit in either case
abbrev pub hex_digit_value : ℕ → Option ℕ
hex_digit_value c =
    if nat_le 48 c && nat_le c 57 then Some (c - 48)
    else (if nat_le 65 c && nat_le c 70 then Some (c - 55)
    else (if nat_le 97 c && nat_le c 102 then Some (c - 87) else None))

-- the byte of the values of two digits
abbrev pub hex_byte : Option ℕ → Option ℕ → Option ℕ
hex_byte None low = None
hex_byte (Some high) None = None
hex_byte (Some high) (Some low) = Some (16 * high + low)

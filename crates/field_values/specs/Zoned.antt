-- Zoned decimal: one byte a digit, zone F, and in the last byte the sign in place of the zone.
-- (DDS for Physical and Logical Files, "Data type", S.)
use Rattle.std.specs.Prelude.{ℕ, ◌+◌, ◌*◌, Bool, ◌&&◌, ◌==◌, ℤ, Option, Some, None, List, [], ◌∷◌, map, if◌then◌else◌}
use Rattle.field_values.specs.Digits.{number_in, is_digit, high_half, low_half, is_minus, is_sign, signed, last_byte, ends_pass}

-- a digit in zone F
abbrev pub is_zone_digit : ℕ → Bool
is_zone_digit byte = is_digit (low_half byte) && (high_half byte == 15)

-- a digit under a sign
abbrev pub is_signed_digit : ℕ → Bool
is_signed_digit byte = is_digit (low_half byte) && is_sign (high_half byte)

-- the last byte has a sign, each other one zone F
abbrev pub is_zoned : List ℕ → Bool
is_zoned image = ends_pass is_zone_digit is_signed_digit image

-- the number that stands in a zoned field
abbrev pub zoned_number : List ℕ → Option ℤ
zoned_number image =
    if is_zoned image then Some (signed (is_minus (high_half (last_byte image))) (number_in 10 (map low_half image))) else None

-- digits under a sign
abbrev pub zoned_bytes : List ℕ → ℕ → List ℕ
zoned_bytes [] sign = []
zoned_bytes (d ∷ []) sign = (16 * sign + d) ∷ []
zoned_bytes (d ∷ e ∷ ds) sign = (240 + d) ∷ zoned_bytes (e ∷ ds) sign

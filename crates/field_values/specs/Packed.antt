-- Packed decimal: two digits a byte, and the sign in the last half byte. Where the digits are even in number,
-- the first half byte is spare and 0. (DDS for Physical and Logical Files, "Data type", P.)
use Rattle.std.specs.Prelude.{ℕ, ◌+◌, ◌*◌, ◌%◌, Bool, true, ◌&&◌, ◌||◌, ◌==◌, ℤ, Option, Some, None, List, [], ◌∷◌, if◌then◌else◌}
use Rattle.field_values.specs.Digits.{number_in, is_digit, high_half, low_half, is_minus, is_sign, signed, last_byte, ends_pass}

-- two digits
abbrev pub is_digit_pair : ℕ → Bool
is_digit_pair byte = is_digit (high_half byte) && is_digit (low_half byte)

-- a digit and a sign behind it
abbrev pub is_digit_sign : ℕ → Bool
is_digit_sign byte = is_digit (high_half byte) && is_sign (low_half byte)

-- the last byte has a digit and a sign, each other one two digits
abbrev pub is_packed : List ℕ → Bool
is_packed image = ends_pass is_digit_pair is_digit_sign image

-- no digit stands before the field's first one
abbrev pub is_spare_clear : ℕ → List ℕ → Bool
is_spare_clear digits [] = true
is_spare_clear digits (b ∷ bs) = (digits % 2 == 1) || (high_half b == 0)

-- the digits of a packed field, the spare one too
abbrev pub packed_digits : List ℕ → List ℕ
packed_digits [] = []
packed_digits (b ∷ []) = high_half b ∷ []
packed_digits (b ∷ c ∷ bs) = high_half b ∷ low_half b ∷ packed_digits (c ∷ bs)

-- the number that stands in a packed field of so many digits
abbrev pub packed_number : ℕ → List ℕ → Option ℤ
packed_number digits image =
    if is_packed image && is_spare_clear digits image
    then Some (signed (is_minus (low_half (last_byte image))) (number_in 10 (packed_digits image))) else None

-- digits, odd in number, and a sign behind them
abbrev pub packed_bytes : List ℕ → ℕ → List ℕ
packed_bytes [] sign = []
packed_bytes (d ∷ []) sign = (16 * d + sign) ∷ []
packed_bytes (d ∷ e ∷ ds) sign = (16 * d + e) ∷ packed_bytes ds sign

-- Binary: a two's complement number, the high byte first, that stays within its decimal digits.
-- (DDS for Physical and Logical Files, "Data type", B.)
use Rattle.std.specs.Prelude.{ℕ, ◌-◌, ◌*◌, ◌^◌, Bool, ◌&&◌, nat_lt, ℤ, pos, neg_ℤ, unsigned_abs, Option, Some, None, List, length, if◌then◌else◌}
use Rattle.std.specs.List.{list_all}
use Rattle.field_values.specs.Digits.{number_in, digits_in, is_negative}

abbrev pub is_byte : ℕ → Bool
is_byte b = nat_lt b 256

-- the number that n bytes are in two's complement
abbrev pub twos_complement : ℕ → ℕ → ℤ
twos_complement n number = if nat_lt (2 * number) (256 ^ n) then pos number else neg_ℤ (pos (256 ^ n - number))

-- the number that stands in a binary field of so many digits
abbrev pub binary_number : ℕ → List ℕ → Option ℤ
binary_number digits image =
    let number = twos_complement (length image) (number_in 256 image) in
    if list_all is_byte image && nat_lt (unsigned_abs number) (10 ^ digits) then Some number else None

-- the n bytes of a number in two's complement
abbrev pub binary_bytes : ℕ → ℤ → List ℕ
binary_bytes n number = digits_in 256 n (if is_negative number then 256 ^ n - unsigned_abs number else unsigned_abs number)

-- Digits of a number in a range.
use Rattle.std.specs.Prelude.{ℕ, ◌+◌, ◌-◌, ◌%◌, Bool, ◌&&◌, ◌==◌, nat_lt, List, length}
use Rattle.std.specs.List.{list_all}
use Rattle.field_values.specs.FieldTypes.{is_between}
use Rattle.field_values.specs.Digits.{number_in}

-- n digits that are a number from low to high
abbrev pub spells_between : ℕ → ℕ → ℕ → ℕ → List ℕ → Bool
spells_between base low high n digits =
    (length digits == n) && list_all (λ d. nat_lt d base) digits && is_between low high (number_in base digits)

-- how far a byte is above the digit 0, round the end of a byte
abbrev pub digit_from : ℕ → ℕ → ℕ
digit_from nought byte = (byte + (256 - nought)) % 256

-- Which images are in the form that is written: sign F, or D for a number below 0.
-- (DDS for Physical and Logical Files, "Data type", S and P.)
use Rattle.std.specs.Prelude.{ℕ, Bool, true, not, ◌||◌, ◌&&◌, ◌==◌, List, map}
use Rattle.field_types.specs.declared.kinds.Kind.{Kind}
use Rattle.field_types.specs.declared.kinds.Kind.TheVariants.{Char, Zoned, Packed, Binary, Date, Time, Stamp}
use Rattle.field_values.specs.Digits.{number_in, high_half, low_half, last_byte}
use Rattle.field_values.specs.Packed.{packed_digits}

-- F, or D where the number isn't 0
abbrev pub is_written_sign : ℕ → ℕ → Bool
is_written_sign sign magnitude = (sign == 15) || ((sign == 13) && not (magnitude == 0))

-- whether an image that stands for a value has the sign that is written; only decimal numbers have one
abbrev pub has_written_form : Kind → List ℕ → Bool
has_written_form Char image = true
has_written_form Zoned image = is_written_sign (high_half (last_byte image)) (number_in 10 (map low_half image))
has_written_form Packed image = is_written_sign (low_half (last_byte image)) (number_in 10 (packed_digits image))
has_written_form Binary image = true
has_written_form Date image = true
has_written_form Time image = true
has_written_form Stamp image = true

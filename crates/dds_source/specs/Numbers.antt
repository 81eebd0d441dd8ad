-- What stands in positions 30 to 34 and 36 to 37: numbers, pushed to the right, perhaps with a sign.
-- (DDS for Physical and Logical Files, "Length (positions 30 through 34)", "Decimal positions (positions 36 and 37)".)
use Rattle.std.specs.Prelude.{ℕ, ◌+◌, ◌-◌, ◌*◌, Bool, not, ◌&&◌, ◌==◌, List, [], ◌∷◌, length, Option, Some, None, if◌then◌else◌}
use Rattle.std.specs.List.{list_all}
use Rattle.std.specs.Option.{option_map}
use Rattle.dds_source.specs.declared.specifications.LengthEntry.{LengthEntry}
use Rattle.dds_source.specs.declared.specifications.LengthEntry.TheVariants.{Exactly, Longer, Shorter}
use Rattle.text_lines.specs.Lines.{is_blank}
use Rattle.text_lines.specs.Decimal.{is_digit}

-- the number that digits spell behind a number already read
abbrev pub decimal_after : ℕ → List ℕ → ℕ
decimal_after n [] = n
decimal_after n (d ∷ ds) = decimal_after (n * 10 + (d - 48)) ds

-- the number that digits spell
abbrev pub decimal : List ℕ → ℕ
decimal ds = decimal_after 0 ds

-- from the first character on that isn't blank
abbrev pub from_first : List ℕ → List ℕ
from_first [] = []
from_first (c ∷ cs) = if is_blank c then from_first cs else c ∷ cs

-- a digit at least, and nothing else
abbrev pub are_digits : List ℕ → Bool
are_digits cs = not (length cs == 0) && list_all is_digit cs

-- blanks, and digits to the last position
abbrev pub unsigned_entry : List ℕ → Option ℕ
unsigned_entry cs = let digits = from_first cs in if are_digits digits then Some (decimal digits) else None

-- the same behind a sign, where one is allowed
abbrev pub after_sign : Bool → List ℕ → Option LengthEntry
after_sign signs [] = None
after_sign signs (c ∷ cs) =
    if signs && (c == 43) then option_map Longer (unsigned_entry cs)
    else (if signs && (c == 45) then option_map Shorter (unsigned_entry cs)
    else option_map Exactly (unsigned_entry (c ∷ cs)))

-- blanks, at most one sign, blanks, and digits to the last position
abbrev pub signed_entry : Bool → List ℕ → Option LengthEntry
signed_entry signs cs = after_sign signs (from_first cs)

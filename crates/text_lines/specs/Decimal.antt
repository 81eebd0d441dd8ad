-- The number that decimal digits spell.
use Rattle.std.specs.Prelude.{ℕ, ◌+◌, ◌-◌, ◌*◌, Bool, if◌then◌else◌, nat_le, ◌&&◌, Option, Some, None, List, [], ◌∷◌}

-- 0 to 9
abbrev pub is_digit : ℕ → Bool
is_digit b = nat_le 48 b && nat_le b 57

-- the number of these digits behind those of another, where it passes no limit
abbrev pub digits_from : ℕ → ℕ → List ℕ → Option ℕ
digits_from limit n [] = if nat_le n limit then Some n else None
digits_from limit n (d ∷ ds) = if is_digit d then digits_from limit (10 * n + (d - 48)) ds else None

-- the number of a list of digits, where it passes no limit; 0 for none
abbrev pub decimal_up_to : ℕ → List ℕ → Option ℕ
decimal_up_to limit digits = digits_from limit 0 digits

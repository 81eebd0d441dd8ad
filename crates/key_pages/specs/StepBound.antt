-- How many comparisons may a search make?
use Rattle.std.specs.Prelude.{ℕ, ◌+◌, ◌*◌, ◌^◌, ◌<◌, ◌≤◌}

-- twice the binary digits of the count, and eight: the count has at most that many digits where it is below 2 ^ digits
abbrev pub IsFewSteps : ℕ → ℕ → ℕ → Type 0
IsFewSteps count before after = (digits : ℕ) → count < 2 ^ digits → after ≤ before + (2 * digits + 8)

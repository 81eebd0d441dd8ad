-- When a failure is the object's own: its count of faults rose. Our own count, no IBM manual has it.
use Rattle.std.specs.Prelude.{ℕ, ◌+◌, ◌-◌, ◌^◌, ◌≤◌, min}

-- the greatest u64, at which a count of faults stands still
abbrev pub last_count : ℕ
last_count = 2 ^ 64 - 1

-- the count is higher than it was, or it stands at its last value
abbrev pub Rose : ℕ → ℕ → Type 0
Rose old new = min (old + 1) last_count ≤ new

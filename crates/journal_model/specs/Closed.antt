-- Which part of a range holds whole commit cycles, as far as one member is concerned?
-- (Journal Management, "Applying journaled changes", on commitment boundaries.)
use Rattle.std.specs.Prelude.{ℕ, zero, suc, ◌-◌, Bool, true, false, ◌&&◌, ◌==◌, if◌then◌else◌, List, length, take, drop, Option, Some, None}
use Rattle.std.specs.List.{list_any, list_all}
use Rattle.journal_model.specs.Acts.{Act, Began, Committed, RolledBack, Change, changes}

abbrev pub begins : ℕ → Act → Bool
begins n (Began m) = m == n
begins n _ = false

abbrev pub commits : ℕ → Act → Bool
commits n (Committed m) = m == n
commits n _ = false

abbrev pub rolls_back : ℕ → Act → Bool
rolls_back n (RolledBack m) = m == n
rolls_back n _ = false

abbrev pub ends : ℕ → Act → Bool
ends n (Committed m) = m == n
ends n (RolledBack m) = m == n
ends n _ = false

-- the commit cycle begins in the range and ends there; a change outside commitment control is whole
abbrev pub is_whole : List Act → Option ℕ → Bool
is_whole range None = true
is_whole range (Some n) = list_any (begins n) range && list_any (ends n) range

-- each commit cycle that changes the member in the range has its beginning and its end in it
abbrev pub is_closed : List Act → Bool
is_closed range = list_all (λ (c : Change). is_whole range c.cycle) (changes range)

-- the greatest number up to this one that passes, 0 where none does
abbrev pub greatest : (ℕ → Bool) → ℕ → ℕ
greatest passes zero = zero
greatest passes (suc n) = if passes (suc n) then suc n else greatest passes n

-- the last acts, so many
abbrev pub last : {A : Type 0} → ℕ → List A → List A
last n all = drop (length all - n) all

-- how many acts the longest closed part at the range's beginning has, and at its end
abbrev pub closed_prefix : List Act → ℕ
closed_prefix range = greatest (λ n. is_closed (take n range)) (length range)

abbrev pub closed_suffix : List Act → ℕ
closed_suffix range = greatest (λ n. is_closed (last n range)) (length range)

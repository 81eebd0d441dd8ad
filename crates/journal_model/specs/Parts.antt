-- Which part of a range is gone through, and which acts of the range are not?
-- (Journal Management, "Applying journaled changes", on commitment boundaries.)
use Rattle.std.specs.Prelude.{ℕ, ◌+◌, ◌-◌, List, length, take, drop}
use Rattle.journal_model.specs.Acts.{Act}
use Rattle.journal_model.specs.Closed.{closed_prefix, closed_suffix, last}

-- what is applied of a range, and what stands behind it there
abbrev pub applied_part : List Act → List Act
applied_part range = take (closed_prefix range) range

abbrev pub not_applied : List Act → List Act
not_applied range = drop (closed_prefix range) range

-- what is removed of a range, and what stands in front of it there
abbrev pub removed_part : List Act → List Act
removed_part range = last (closed_suffix range) range

abbrev pub not_removed : List Act → List Act
not_removed range = take (length range - closed_suffix range) range

-- the sequence at which the part that is removed begins
abbrev pub removed_from : (first : ℕ) → List Act → ℕ
removed_from first range = first + length range - closed_suffix range

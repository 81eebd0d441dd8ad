-- Which part of a range of entries is closed, or which commit cycle cuts it?
-- (Journal Management, "Applying journaled changes", on commitment boundaries.) Each is told of the acts of one member.
use Rattle.std.specs.Prelude.{ℕ, ◌≡◌, ◌+◌, ◌-◌, ⊤, List, [], ◌∷◌, length, reverse, Option, Some, None, Result, Ok, Err}
use Rattle.entry_codec.specs.declared.entries.Entry.{Entry}
use Rattle.journal_model.specs.Acts.{Act}
use Rattle.journal_model.specs.Closed.{closed_prefix}
use Rattle.journal_model.specs.Parts.{applied_part, removed_part, removed_from}
use Rattle.journal_model.specs.Walks.{RangeFault, numbered}
use Rattle.journal_model.specs.Walks as walks
use Rattle.journal_model.specs.Ranges.{straddled}
use Rattle.group_bounds.specs.declared.Part.{Part}
use Rattle.group_bounds.specs.declared.BoundFault.{BoundFault}
use Rattle.group_bounds.specs.declared.BoundFault.TheVariants.{NoMemory, Straddled}

-- the sequence of the first entry
abbrev pub first_sequence : List Entry → ℕ
first_sequence [] = 0
first_sequence (e ∷ entries) = e.sequence

-- the closed part at the beginning of a range that has this first sequence, and the cycle that cuts the range so that it has no change
abbrev pub prefix_part : ℕ → List Act → Part
prefix_part first range = record { lo = first; hi = first + closed_prefix range - 1 }

abbrev pub prefix_cut : ℕ → List Act → Option RangeFault
prefix_cut first range = straddled (numbered first range) (numbered first (applied_part range))

-- the same at the end of the range, which is gone through backwards
abbrev pub suffix_part : ℕ → List Act → Part
suffix_part first range = record { lo = removed_from first range; hi = first + length range - 1 }

abbrev pub suffix_cut : ℕ → List Act → Option RangeFault
suffix_cut first range = straddled (reverse (numbered first range)) (numbered (removed_from first range) (removed_part range))

-- the range is told to be cut by a commit cycle exactly where it is, want of memory aside
abbrev pub TellsCut : {A : Type 0} → Result A BoundFault → Option RangeFault → Type 0
TellsCut (Ok part) cut = cut ≡ None
TellsCut (Err NoMemory) cut = ⊤
TellsCut (Err (Straddled group)) cut = cut ≡ Some (walks.Straddled group)

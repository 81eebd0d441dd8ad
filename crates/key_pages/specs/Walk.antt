-- What comes from a sorted list that is read from entry to entry?
use Rattle.std.specs.Prelude.{◌≡◌, Bool, None, Some, List, [], ◌∷◌}
use Rattle.key_pages.specs.declared.entries.Entry.{Entry}
use Rattle.key_pages.specs.declared.positions.Position.{Position}
use Rattle.key_pages.specs.Position.{next_entry, prior_entry, IsOn}

-- from the position on these entries come, each asked for from the one before it, and then none
abbrev pub ComesForward : Bool → List Entry → Position → List Entry → Type 0
ComesForward falling entries from [] = next_entry falling from entries ≡ None
ComesForward falling entries from (entry ∷ rest) =
    (next_entry falling from entries ≡ Some entry) × ((on : Position) → IsOn on entry → ComesForward falling entries on rest)

-- the same backwards
abbrev pub ComesBackward : Bool → List Entry → Position → List Entry → Type 0
ComesBackward falling entries from [] = prior_entry falling from entries ≡ None
ComesBackward falling entries from (entry ∷ rest) =
    (prior_entry falling from entries ≡ Some entry) × ((on : Position) → IsOn on entry → ComesBackward falling entries on rest)

-- What each area of a store in memory held when it was last synced, and which writes came since.
use Rattle.std.specs.Prelude.{◌≡◌, ◌⊎◌, ℕ, List, [], ◌∷◌, if◌then◌else◌, ◌==◌}
use Rattle.std.specs.List.{AllByRecursion}
use Rattle.store_model.specs.Disk.{Areas}
use Rattle.store_model.specs.Past.{blank, changed}
use Rattle.store_model.specs.declared.past.Change.{Change}
use Rattle.store_model.specs.declared.past.Change.TheVariants.{Wrote, Shortened, Synced}

-- the areas as last synced after a change, from what a read gave and from what they were
abbrev pub resynced : Change → Areas → Areas → Areas
resynced (Wrote area at bytes) seen synced = synced
resynced (Shortened area length) seen synced = synced
resynced (Synced area) seen synced = λ other. if other == area then seen area else synced other

-- the areas as last synced after changes, the first of them first
abbrev pub synced_after : Areas → Areas → List Change → Areas
synced_after seen synced [] = synced
synced_after seen synced (change ∷ changes) = synced_after (changed change seen) (resynced change seen synced) changes

-- the areas as last synced of a store that began blank; one that never was has no bytes
abbrev pub last_synced : List Change → Areas
last_synced = synced_after blank blank

-- the change is a sync of the area
abbrev pub Syncs : ℕ → Change → Type 0
Syncs area (Wrote other at bytes) = ⊥
Syncs area (Shortened other length) = ⊥
Syncs area (Synced other) = other ≡ area

-- the change is a write to the area
abbrev pub WritesTo : ℕ → Change → Type 0
WritesTo area (Wrote other at bytes) = other ≡ area
WritesTo area (Shortened other length) = ⊥
WritesTo area (Synced other) = ⊥

-- the change is a write of these bytes to the area, from this place on
abbrev pub Writes : ℕ → ℕ → List ℕ → Change → Type 0
Writes area at bytes (Wrote other place piece) = (other ≡ area) × (place ≡ at) × (piece.items ≡ bytes)
Writes area at bytes (Shortened other length) = ⊥
Writes area at bytes (Synced other) = ⊥

-- one of the changes is a write to the area
abbrev pub IsWritten : List Change → ℕ → Type 0
IsWritten [] area = ⊥
IsWritten (change ∷ changes) area = WritesTo area change ⊎ IsWritten changes area

-- one of the changes is this write to the area, and none behind it a sync of that area
abbrev pub IsLoose : List Change → ℕ → ℕ → List ℕ → Type 0
IsLoose [] area at bytes = ⊥
IsLoose (change ∷ changes) area at bytes = (Writes area at bytes change × AllByRecursion (λ later. ¬ Syncs area later) changes) ⊎ IsLoose changes area at bytes

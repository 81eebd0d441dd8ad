-- Where the blocks of an open log stand.
use Rattle.std.specs.Prelude.{◌≡◌, ℕ, ◌+◌, List, [], ◌∷◌, map}
use Rattle.gated_log.specs.declared.log.Place.{Place}

-- the first gate at this place, each block behind its gate, and the closed gate at the end
abbrev pub ArePlaced : ℕ → List Place → ℕ → Type 0
ArePlaced gate [] end = end ≡ gate
ArePlaced gate (place ∷ places) end = (place.at ≡ gate + 5) × ArePlaced (gate + 5 + place.length) places end

abbrev pub lengths_of : List Place → List ℕ
lengths_of places = map (λ place. place.length) places

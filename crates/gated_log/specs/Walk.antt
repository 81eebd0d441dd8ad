-- How far an area was read, gate by gate, while its log is opened.
use Rattle.std.specs.Prelude.{◌≡◌, ◌≢◌, ℕ, ◌+◌, ◌^◌, ◌<◌, ◌≤◌, List, [], ◌∷◌, ◌++◌, length, drop, Option, Some, None}
use Rattle.gated_log.specs.Blocks.{header, block_bytes, MayBegin, Opens, sizes}
use Rattle.gated_log.specs.Places.{ArePlaced, lengths_of}
use Rattle.gated_log.specs.declared.log.Place.{Place}

-- behind an open gate stands a block of the place's length, and then the rest
pub record HasBlock (bytes : List ℕ) (place : Place) : Type 0 where
  pub gate : ℕ
  pub block : List ℕ
  pub opened : gate ≢ 0
  pub length : Rattle.std.specs.Prelude.length block ≡ place.length
  pub fits : place.length < 2 ^ 32
  pub whole : bytes ≡ gate ∷ block_bytes block ++ drop (5 + place.length) bytes

-- a closed gate, and anything behind it
abbrev pub IsClosed : List ℕ → Type 0
IsClosed bytes = (rest : List ℕ) × (bytes ≡ 0 ∷ rest)

-- what stands at a gate: nothing more, or a block
abbrev pub IsFound : List ℕ → Option Place → Type 0
IsFound bytes None = IsClosed bytes
IsFound bytes (Some place) = HasBlock bytes place

-- the place of the block behind this gate
abbrev pub IsBehind : ℕ → ℕ → Option Place → Type 0
IsBehind gate size None = Unit {0}
IsBehind gate size (Some place) = (place.at ≡ gate + 5) × (place.at + place.length ≤ size)

-- the area begins with the header and these blocks, up to the gate
pub record IsWalked (area first version : ℕ) (bytes : List ℕ) (places : List Place) (gate : ℕ) : Type 0 where
  pub may_begin : MayBegin area first version
  pub body : List ℕ
  pub blocks : List (List ℕ)
  pub header : bytes ≡ header area first version ++ body
  pub opens : Opens blocks body (drop gate bytes)
  pub lengths : lengths_of places ≡ sizes blocks

-- the same with the places of some blocks
abbrev pub IsWalkedTo : ℕ → ℕ → ℕ → List ℕ → ℕ → Type 0
IsWalkedTo area first version bytes gate = (places : List Place) × IsWalked area first version bytes places gate × ArePlaced 32 places gate

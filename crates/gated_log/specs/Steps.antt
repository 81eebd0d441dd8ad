-- What the steps of an append do to the area's bytes.
use Rattle.std.specs.Prelude.{◌≡◌, ℕ, ◌+◌, ◌≤◌, max, List, ◌∷◌, ◌++◌, length, take}
use Rattle.gated_log.specs.Blocks.{block_bytes}
use Rattle.gated_log.specs.declared.layout.TheConstants.{HEADER}

-- the bytes up to a place stay
abbrev pub KeepsFront : ℕ → List ℕ → List ℕ → Type 0
KeepsFront place old new = place ≤ length old → (place ≤ length new) × (take place new ≡ take place old)

-- from a place on stand a block and a closed gate
abbrev pub IsStaged : ℕ → List ℕ → List ℕ → List ℕ → Type 0
IsStaged place block old new = (rest : List ℕ) × (new ≡ take place old ++ block_bytes block ++ 0 ∷ rest)

-- no longer than before, or than the log of no block
abbrev pub IsNoLonger : List ℕ → List ℕ → Type 0
IsNoLonger old new = length new ≤ max (length old) (HEADER + 1)

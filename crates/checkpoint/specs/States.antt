-- Which entries does the area hold that a root names? A format of our own: IBM i keeps its files where they lie, and needs no
-- saved state to restart from.
use Rattle.std.specs.Prelude.{◌≡◌, ◌≢◌, ◌⊎◌, ℕ, ◌+◌, List, [], ◌∷◌, ◌++◌, length}
use Rattle.std.specs.List.{AllByRecursion}
use Rattle.store_model.specs.Disk.{Areas}
use Rattle.entry_codec.specs.declared.entries.Entry.{Entry}
use Rattle.entry_codec.specs.Spelling.{IsSpelled, spelling}
use Rattle.gated_log.specs.Blocks.{Spells, IsDamagedAt}
use Rattle.checkpoint.specs.declared.layout.TheConstants.{VERSION, FIRST_GATE, FIRST_BLOCK, FIRST_BYTE}
use Rattle.checkpoint.specs.declared.root.Root.{Root}

-- the entries, one after another
abbrev pub spelled : List Entry → List ℕ
spelled [] = []
spelled (e ∷ entries) = spelling e ++ spelled entries

-- the area's bytes are the log of one block, which is these entries and has so many bytes
pub record IsStateIn (area size : ℕ) (state : List Entry) (bytes : List ℕ) : Type 0 where
  pub each : AllByRecursion IsSpelled state
  pub whole : length (spelled state) ≡ size
  pub spells : Spells area 0 VERSION (spelled state ∷ []) bytes

-- the areas hold the state that the root names; one that names no area has none
abbrev pub IsSaved : Root → List Entry → Areas → Type 0
IsSaved root state areas = ((root.area ≡ 0) × (state ≡ [])) ⊎ ((root.area ≢ 0) × IsStateIn root.area root.length state (areas root.area))

-- ---- damage

-- no entry stands spelled at the front of these bytes
abbrev pub HasNoEntry : List ℕ → Type 0
HasNoEntry bytes = (e : Entry) (rest : List ℕ) → IsSpelled e → bytes ≢ spelling e ++ rest

-- entries, and behind them more bytes, which begin with none
pub record BreaksAtEntry (block : List ℕ) (at : ℕ) : Type 0 where
  pub front : List Entry
  pub each : AllByRecursion IsSpelled front
  pub rest : List ℕ
  pub whole : block ≡ spelled front ++ rest
  pub some : rest ≢ []
  pub none : HasNoEntry rest
  pub place : at ≡ FIRST_BYTE + length (spelled front)

-- there is no block, so that the first gate is closed that had to be open; or one of another length than so many bytes; or a
-- second one, so that a gate is open that had to be closed
abbrev pub IsNotOneAt : ℕ → List (List ℕ) → ℕ → Type 0
IsNotOneAt size [] at = at ≡ FIRST_GATE
IsNotOneAt size (block ∷ rest) at = ((length block ≢ size) × (at ≡ FIRST_BLOCK)) ⊎ ((length block ≡ size) × (rest ≢ []) × (at ≡ FIRST_BYTE + size))

-- there is not the one block, or it is none of entries
abbrev pub IsStateFaultAt : ℕ → List (List ℕ) → ℕ → Type 0
IsStateFaultAt size blocks at = IsNotOneAt size blocks at ⊎ ((block : List ℕ) × (blocks ≡ block ∷ []) × (length block ≡ size) × BreaksAtEntry block at)

-- the first byte at fault of the log; or, where it is a log, of the state that the root names
abbrev pub IsStateDamagedAt : Root → List ℕ → ℕ → Type 0
IsStateDamagedAt root bytes at = IsDamagedAt root.area bytes at ⊎ ((blocks : List (List ℕ)) × Spells root.area 0 VERSION blocks bytes × IsStateFaultAt root.length blocks at)

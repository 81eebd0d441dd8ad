-- A log as its callers see it, and how it stands to the disk.
use Rattle.std.specs.Prelude.{◌≡◌, ◌⊎◌, ℕ, List, [], ◌∷◌, ◌++◌}
use Rattle.store_model.specs.Disk.{Disk, IsDurable}
use Rattle.gated_log.specs.Blocks.{Spells, sizes}

-- the area, the first sequence and the version in its header, the lengths of its blocks, and for how many more there is room
pub record LogState : Type 0 where
  pub area : ℕ
  pub first : ℕ
  pub version : ℕ
  pub lengths : List ℕ
  pub room : ℕ

-- the log's area spells these blocks, and a stop leaves of it what a read gives
pub record Settled (log : LogState) (blocks : List (List ℕ)) (disk : Disk) : Type 0 where
  pub spells : Spells log.area log.first log.version blocks (disk.seen log.area)
  pub lengths : log.lengths ≡ sizes blocks
  pub durable : IsDurable log.area disk

-- it spells some blocks
abbrev pub HasBlocks : LogState → Disk → Type 0
HasBlocks log disk = (blocks : List (List ℕ)) × Settled log blocks disk

-- the same as a mere fact, which a struct's ghost field can keep
abbrev pub IsSettled : LogState → Disk → Type 0
IsSettled log disk = ∥ HasBlocks log disk ∥₁

-- before or after one block more
abbrev pub IsWithOrWithout : ℕ → ℕ → ℕ → List (List ℕ) → List ℕ → List ℕ → Type 0
IsWithOrWithout area first version blocks block bytes = Spells area first version blocks bytes ⊎ Spells area first version (blocks ++ block ∷ []) bytes

-- any bytes
abbrev pub Anything : List ℕ → List ℕ → Type 0
Anything old new = Unit {0}

-- Which list of blocks an area's bytes spell, and where they stop to spell one. A format of our own: IBM's manuals
-- (Journal Management) say what a receiver holds, and not how.
use Rattle.std.specs.Prelude.{◌≡◌, ◌≢◌, ◌⊎◌, ℕ, ◌+◌, ◌-◌, ◌^◌, ◌<◌, ◌≤◌, List, [], ◌∷◌, ◌++◌, length, map, take, drop}
use Rattle.byteorder.specs.Endian.{big_bytes}

-- IBMIDBF1
abbrev pub magic : List ℕ
magic = 73 ∷ 66 ∷ 77 ∷ 73 ∷ 68 ∷ 66 ∷ 70 ∷ 49 ∷ []

-- the 32 bytes with which the log of an area begins: magic, version, area, first sequence, eight zeros
unfoldable pub header : ℕ → ℕ → ℕ → List ℕ
header area first version = magic ++ big_bytes 4 version ++ big_bytes 4 area ++ big_bytes 8 first ++ big_bytes 8 0

-- a header may say this: a first sequence that is a u64, and 0 in the areas of root records and checkpoints; and the
-- one version
pub record MayBegin (area first version : ℕ) : Type 0 where
  pub fits : first < 2 ^ 64
  pub none : area ≤ 2 → first ≡ 0
  pub one_version : version ≡ 1

-- a block behind its gate: its length and its bytes
unfoldable pub block_bytes : List ℕ → List ℕ
block_bytes block = big_bytes 4 (length block) ++ block

-- a block in its frame, as it is appended: its length before it, a closed gate behind it
abbrev pub frame : List ℕ → List ℕ
frame block = block_bytes block ++ 0 ∷ []

-- some block in its frame
abbrev pub IsFramed : List ℕ → Type 0
IsFramed bytes = (block : List ℕ) × (bytes ≡ frame block)

-- what stands between the four bytes of a length and the byte of a gate
abbrev pub between : List ℕ → List ℕ
between bytes = take (length bytes - 5) (drop 4 bytes)

-- these blocks, each behind an open gate, and then the rest; a gate is open at any value but 0
abbrev pub Opens : List (List ℕ) → List ℕ → List ℕ → Type 0
Opens [] bytes rest = bytes ≡ rest
Opens (block ∷ blocks) bytes rest = (gate : ℕ) × (after : List ℕ) × (gate ≢ 0) × (length block < 2 ^ 32) × (bytes ≡ gate ∷ block_bytes block ++ after) × Opens blocks after rest

-- the area's bytes are a header, these blocks and a closed gate; what follows it doesn't count
pub record Spells (area first version : ℕ) (blocks : List (List ℕ)) (bytes : List ℕ) : Type 0 where
  pub may_begin : MayBegin area first version
  pub body : List ℕ
  pub rest : List ℕ
  pub header : bytes ≡ header area first version ++ body
  pub opens : Opens blocks body (0 ∷ rest)

-- they are so with some first sequence, version and blocks
abbrev pub IsLog : ℕ → List ℕ → Type 0
IsLog area bytes = (first : ℕ) × (version : ℕ) × (blocks : List (List ℕ)) × Spells area first version blocks bytes

-- how far behind the first gate the gate behind blocks of these lengths stands
abbrev pub extent : List ℕ → ℕ
extent [] = 0
extent (size ∷ sizes) = 5 + size + extent sizes

-- the lengths of the blocks
abbrev pub sizes : List (List ℕ) → List ℕ
sizes blocks = map length blocks

-- the block begins at this place of the area, with its length
abbrev pub StandsAt : ℕ → List ℕ → List ℕ → Type 0
StandsAt at block bytes = (rest : List ℕ) × (drop at bytes ≡ block_bytes block ++ rest)

-- no whole block stands at the front of these bytes
abbrev pub HasNoBlock : List ℕ → Type 0
HasNoBlock bytes = (block after : List ℕ) → length block < 2 ^ 32 → bytes ≢ block_bytes block ++ after

-- no gate stands at the place, or one that is open before no whole block, which then begins behind it
abbrev pub IsFaultAt : ℕ → List ℕ → ℕ → Type 0
IsFaultAt place [] at = at ≡ place
IsFaultAt place (gate ∷ after) at = (gate ≢ 0) × HasNoBlock after × (at ≡ place + 1)

-- the area begins with no header
abbrev pub HasNoHeader : ℕ → List ℕ → Type 0
HasNoHeader area bytes = (first version : ℕ) (body : List ℕ) → MayBegin area first version → bytes ≢ header area first version ++ body

-- a header, and blocks up to the first gate or block that is at fault
pub record BreaksAt (area : ℕ) (bytes : List ℕ) (at : ℕ) : Type 0 where
  pub first : ℕ
  pub version : ℕ
  pub may_begin : MayBegin area first version
  pub blocks : List (List ℕ)
  pub body : List ℕ
  pub rest : List ℕ
  pub header : bytes ≡ header area first version ++ body
  pub opens : Opens blocks body rest
  pub fault : IsFaultAt (32 + extent (sizes blocks)) rest at

-- the first byte of the header, the gate or the block at fault
abbrev pub IsDamagedAt : ℕ → List ℕ → ℕ → Type 0
IsDamagedAt area bytes at = (HasNoHeader area bytes × (at ≡ 0)) ⊎ BreaksAt area bytes at

-- Which root records does area 0 of a store hold? A format of our own: the manual (Journal Management) doesn't say where a
-- system keeps the names of what it restarts from.
use Rattle.std.specs.Prelude.{◌≡◌, ◌≢◌, ◌⊎◌, ℕ, ◌+◌, ◌^◌, ◌<◌, ◌≤◌, List, [], ◌∷◌, ◌++◌, map}
use Rattle.std.specs.List.{AllByRecursion}
use Rattle.byteorder.specs.Endian.{big_bytes}
use Rattle.gated_log.specs.Blocks.{Spells, IsDamagedAt, extent, sizes}
use Rattle.checkpoint.specs.declared.layout.TheConstants.{ROOT_AREA, VERSION, FIRST_GATE, FIRST_BLOCK}
use Rattle.checkpoint.specs.declared.root.Root.{Root}
use Rattle.checkpoint.specs.declared.root.TheConstants.{LAST_STATE_AREA, FIRST_RECEIVER, MAX_FIRST_RECEIVER, FIRST_MEMBER, MAX_NEXT_MEMBER}

-- the 28 bytes of a root: the area of the state that it names, that state's sequence and bytes, the first receiver that is
-- kept, and the next member's number
unfoldable pub root_bytes : Root → List ℕ
root_bytes r = big_bytes 4 r.area ++ big_bytes 8 r.sequence ++ big_bytes 8 r.length ++ big_bytes 4 r.first_receiver ++ big_bytes 4 r.next_member

-- its numbers are in their ranges; one that names no area has no state
pub record IsRoot (r : Root) : Type 0 where
  pub area : r.area ≤ LAST_STATE_AREA
  pub sequence : r.sequence < 2 ^ 64
  pub bytes : r.length < 2 ^ 64
  pub receiver_from : FIRST_RECEIVER ≤ r.first_receiver
  pub receiver_to : r.first_receiver ≤ MAX_FIRST_RECEIVER
  pub member_from : FIRST_MEMBER ≤ r.next_member
  pub member_to : r.next_member ≤ MAX_NEXT_MEMBER
  pub none : r.area ≡ 0 → (r.sequence ≡ 0) × (r.length ≡ 0)

-- the root that a store is formatted with
abbrev pub first_root : Root
first_root = record { area = 0; sequence = 0; length = 0; first_receiver = FIRST_RECEIVER; next_member = FIRST_MEMBER }

-- ---- area 0

-- one block for each root
abbrev pub root_blocks : List Root → List (List ℕ)
root_blocks roots = map root_bytes roots

-- the area's bytes are the log of these roots, of which the last one counts
pub record AreRoots (earlier : List Root) (last : Root) (bytes : List ℕ) : Type 0 where
  pub each : AllByRecursion IsRoot earlier
  pub is_root : IsRoot last
  pub spells : Spells ROOT_AREA 0 VERSION (root_blocks (earlier ++ last ∷ [])) bytes

-- they are the log of no root
abbrev pub HasNoRoot : List ℕ → Type 0
HasNoRoot bytes = (earlier : List Root) (last : Root) → AreRoots earlier last bytes → ⊥

-- not formatted yet, or with the first root alone
abbrev pub IsFormatting : List ℕ → Type 0
IsFormatting bytes = HasNoRoot bytes ⊎ AreRoots [] first_root bytes

-- before or after one root more
abbrev pub IsPutting : List Root → Root → Root → List ℕ → Type 0
IsPutting earlier last root bytes = AreRoots earlier last bytes ⊎ AreRoots (earlier ++ last ∷ []) root bytes

-- ---- damage

-- the block is no root
abbrev pub IsNoRoot : List ℕ → Type 0
IsNoRoot block = (r : Root) → IsRoot r → block ≢ root_bytes r

-- roots, and behind them the first block that is none
pub record BreaksAtRoot (blocks : List (List ℕ)) (at : ℕ) : Type 0 where
  pub front : List Root
  pub each : AllByRecursion IsRoot front
  pub block : List ℕ
  pub rest : List (List ℕ)
  pub whole : blocks ≡ root_blocks front ++ block ∷ rest
  pub none : IsNoRoot block
  pub place : at ≡ FIRST_BLOCK + extent (sizes (root_blocks front))

-- there is no block, so that the first gate is closed that had to be open; or one that is no root
abbrev pub IsRootFaultAt : List (List ℕ) → ℕ → Type 0
IsRootFaultAt blocks at = ((blocks ≡ []) × (at ≡ FIRST_GATE)) ⊎ BreaksAtRoot blocks at

-- the first byte at fault of the log; or, where it is a log, of its roots
abbrev pub IsRootsDamagedAt : List ℕ → ℕ → Type 0
IsRootsDamagedAt bytes at = IsDamagedAt ROOT_AREA bytes at ⊎ ((blocks : List (List ℕ)) × Spells ROOT_AREA 0 VERSION blocks bytes × IsRootFaultAt blocks at)

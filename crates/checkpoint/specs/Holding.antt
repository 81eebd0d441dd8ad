-- Roots as their callers see them, how they and the state that they name stand to the disk, and what a stop may leave. Our own.
use Rattle.std.specs.Prelude.{◌≡◌, ◌⊎◌, ℕ, ◌<◌, ◌≤◌, ◌==◌, if◌then◌else◌, List, [], ◌∷◌, ◌++◌, length}
use Rattle.std.specs.List.{AllByRecursion}
use Rattle.store_model.specs.Disk.{Areas, Disk, Later, May}
use Rattle.entry_codec.specs.declared.entries.Entry.{Entry}
use Rattle.gated_log.specs.Log.{LogState, Settled}
use Rattle.checkpoint.specs.declared.layout.TheConstants.{ROOT_AREA, VERSION}
use Rattle.checkpoint.specs.declared.root.Root.{Root}
use Rattle.checkpoint.specs.declared.root.TheConstants.{LAST_STATE_AREA}
use Rattle.checkpoint.specs.Roots.{AreRoots, IsRoot, root_blocks}
use Rattle.checkpoint.specs.States.{IsSaved, spelled}

-- the log of area 0, and its last root
pub record RootsState : Type 0 where
  pub log : LogState
  pub last : Root

-- the log of no block in this area, which has no first sequence
pub record IsBlank (number : ℕ) (log : LogState) : Type 0 where
  pub area : log.area ≡ number
  pub first : log.first ≡ 0
  pub version : log.version ≡ VERSION
  pub lengths : log.lengths ≡ []

-- the disk holds these roots, and a stop leaves them
pub record Holds (roots : RootsState) (earlier : List Root) (disk : Disk) : Type 0 where
  pub area : roots.log.area ≡ ROOT_AREA
  pub each : AllByRecursion IsRoot earlier
  pub is_root : IsRoot roots.last
  pub settled : Settled roots.log (root_blocks (earlier ++ roots.last ∷ [])) disk

abbrev pub HasRoots : RootsState → Disk → Type 0
HasRoots roots disk = (earlier : List Root) × Holds roots earlier disk

-- the same as a mere fact, which a struct's ghost field can keep
abbrev pub IsHeld : RootsState → Disk → Type 0
IsHeld roots disk = ∥ HasRoots roots disk ∥₁

-- the disk holds the state that the root names, and a stop leaves it
pub record IsKept (root : Root) (state : List Entry) (disk : Disk) : Type 0 where
  pub seen : IsSaved root state disk.seen
  pub left : (areas : Areas) → May disk areas → IsSaved root state areas

-- new is old with no less room
pub record HasMoreRoom (old new : RootsState) : Type 0 where
  pub area : new.log.area ≡ old.log.area
  pub first : new.log.first ≡ old.log.first
  pub version : new.log.version ≡ old.log.version
  pub lengths : new.log.lengths ≡ old.log.lengths
  pub room : old.log.room ≤ new.log.room
  pub last : new.last ≡ old.last

-- ---- a state is saved

-- the area of the two that isn't this one
abbrev pub other_area : ℕ → ℕ
other_area area = if area == 1 then 2 else 1

-- the root of a state of so many bytes that is saved beside the one that the last root names
abbrev pub root_beside : Root → ℕ → ℕ → ℕ → Root
root_beside last size sequence next_member = record { area = other_area last.area; sequence = sequence; length = size; first_receiver = last.first_receiver; next_member = next_member }

-- the same of these entries
abbrev pub root_of_state : Root → List Entry → ℕ → ℕ → Root
root_of_state last state sequence next_member = root_beside last (length (spelled state)) sequence next_member

-- the last of these roots counts, and the state that it names is there
pub record HoldsState (earlier : List Root) (last : Root) (state : List Entry) (areas : Areas) : Type 0 where
  pub roots : AreRoots earlier last (areas ROOT_AREA)
  pub saved : IsSaved last state areas

-- the old root with its state, or the new one with the new state
abbrev pub IsSaving : List Root → Root → List Entry → Root → List Entry → Areas → Type 0
IsSaving earlier last old root state areas = HoldsState earlier last old areas ⊎ HoldsState (earlier ++ last ∷ []) root state areas

-- other areas are as they were
abbrev pub AreReceiversSame : Areas → Areas → Type 0
AreReceiversSame old new = (area : ℕ) → LAST_STATE_AREA < area → new area ≡ old area

-- a call that works in the areas of roots and states: a stop within it leaves of the others what a stop before it could
pub record LeavesReceivers (old new : Disk) : Type 0 where
  pub later : Later old new
  pub seen : AreReceiversSame old.seen new.seen
  pub images : (areas : Areas) → new.since old.moment areas → (before : Areas) × May old before × AreReceiversSame before areas

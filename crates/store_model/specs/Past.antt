-- What a store in memory has come through: each change that a call made, and what a stop may leave of them.
-- A model of our own, as `Disk`.
use Rattle.std.specs.Prelude.{◌≡◌, ℕ, zero, suc, ◌+◌, ◌^◌, ◌≤◌, List, [], ◌∷◌, length, take, if◌then◌else◌, ◌==◌, Vec}
use Rattle.std.proofs.Math.Nat.{le_trans}
use Rattle.std.specs.declared.alloc.Global.{Global}
use Rattle.store_model.specs.Disk.{Areas, Disk, Only, Torn, Cut, written}
use Rattle.store_model.specs.declared.past.Change.{Change}
use Rattle.store_model.specs.declared.past.Change.TheVariants.{Wrote, Shortened, Synced}

-- the bytes of an area, which are held by number; none past the end
abbrev pub held : List (Vec ℕ Global) → ℕ → List ℕ
held [] area = []
held (bytes ∷ rest) zero = bytes.items
held (bytes ∷ rest) (suc area) = held rest area

-- no area was ever written
abbrev pub blank : Areas
blank area = []

-- what a read gives after a change
abbrev pub changed : Change → Areas → Areas
changed (Wrote area at bytes) seen = λ other. if other == area then written at bytes.items (seen area) else seen other
changed (Shortened area length) seen = λ other. if other == area then take length (seen area) else seen other
changed (Synced area) seen = seen

-- no area gets longer than an area may be
abbrev pub HasRoom : Change → Type 0
HasRoom (Wrote area at bytes) = at + length bytes.items ≤ 2 ^ 62
HasRoom (Shortened area length) = Unit {0}
HasRoom (Synced area) = Unit {0}

-- what a stop may leave after a change, from what it might have left before, and from what a read gave
abbrev pub MayAfter : Change → Areas → (Areas → Type 0) → Areas → Type 0
MayAfter (Wrote area at bytes) seen may = λ new. (old : Areas) × may old × Only area (Torn at (length bytes.items)) old new
MayAfter (Shortened area length) seen may = λ new. (old : Areas) × may old × Only area (Cut length) old new
MayAfter (Synced area) seen may = λ new. may new × (new area ≡ seen area)

-- what a read gives after changes, the first of them first
abbrev pub seen_after : Areas → List Change → Areas
seen_after seen [] = seen
seen_after seen (change ∷ changes) = seen_after (changed change seen) changes

-- what a stop may leave after them
abbrev pub MayAfterAll : Areas → (Areas → Type 0) → List Change → Areas → Type 0
MayAfterAll seen may [] = may
MayAfterAll seen may (change ∷ changes) = MayAfterAll (changed change seen) (MayAfter change seen may) changes

-- what a stop may leave of a store that began blank
abbrev pub MayLeave : List Change → Areas → Type 0
MayLeave = MayAfterAll blank (λ areas. (area : ℕ) → areas area ≡ [])

-- a disk that began blank and came through these changes: its moment is how many there were
abbrev pub disk_after : List Change → ℕ → Disk
disk_after changes faults = record {
  seen = seen_after blank changes;
  moment = length changes;
  since = λ moment areas. (k : ℕ) × (moment ≤ k) × MayLeave (take k changes) areas;
  faults = faults;
  wider = λ t u areas earlier left. (left.0, le_trans earlier left.1, left.2);
}

-- A store in memory as its callers see it.
use Rattle.std.specs.Prelude.{◌≡◌, ◌≤◌, ℕ, List, Option, Some, None, length}
use Rattle.std.specs.List.{Any}
use Rattle.std.proofs.Common.{ap, subst, sym, arith}
use Rattle.std.proofs.lemmas.List.{take_all}
use Rattle.store_model.specs.Disk.{Areas, Disk, May}
use Rattle.store_model.specs.Calls.{counted, fresh}
use Rattle.store_model.specs.Past.{disk_after, MayLeave}
use Rattle.store_model.specs.Replayed.{half, with_write}
use Rattle.store_model.specs.Steps.{seen_leaves}
use Rattle.store_model.specs.Synced.{last_synced, IsLoose}
use Rattle.store_model.specs.declared.calls.Calls.{Calls}
use Rattle.store_model.specs.declared.past.Change.{Change}
use Rattle.store_model.specs.declared.memory_store.MemoryStore.{MemoryStore}

-- the changes that it came through, oldest first
abbrev pub changes_of : MemoryStore → List Change
changes_of store = store.past.changes.items

-- the calls on it
abbrev pub calls_of : MemoryStore → Calls
calls_of store = store.calls

-- the call from which on each one fails
abbrev pub stop_of : MemoryStore → Option ℕ
stop_of store = store.stop

-- the disk that it stands for
abbrev pub disk_of : MemoryStore → Disk
disk_of store = disk_after (changes_of store) (calls_of store).faults

-- from this call on each one fails
abbrev pub Stops : Option ℕ → ℕ → Type 0
Stops None call = ⊥
Stops (Some stop) call = stop ≤ call

-- the next call comes after the stop
abbrev pub IsStopped : MemoryStore → Type 0
IsStopped store = Stops (stop_of store) (counted (calls_of store).made)

-- no call was made on it, and none is to fail
abbrev pub IsUntouched : MemoryStore → Type 0
IsUntouched store = (calls_of store ≡ fresh) × (stop_of store ≡ None)

-- an untouched store that a stop after these changes may leave
abbrev pub IsLeft : List Change → MemoryStore → Type 0
IsLeft changes store = MayLeave changes (disk_of store).seen × IsUntouched store

-- one of the stores reads as these areas
abbrev pub HasImage : Areas → List MemoryStore → Type 0
HasImage areas = Any (λ image. (area : ℕ) → (disk_of image).seen area ≡ areas area)

-- the images of each write to the area since it was last synced: that write alone, whole and cut after half
pub record HasTorn (changes : List Change) (area : ℕ) (images : List MemoryStore) : Type 0 where
  pub whole : (at : ℕ) (bytes : List ℕ) → IsLoose changes area at bytes → HasImage (with_write area at bytes (last_synced changes)) images
  pub halved : (at : ℕ) (bytes : List ℕ) → IsLoose changes area at bytes → HasImage (with_write area at (half bytes) (last_synced changes)) images

pub may_seen : (store : MemoryStore) → May (disk_of store) (disk_of store).seen
may_seen store = (length (changes_of store), omega arith, subst (λ (l : List Change). MayLeave l (disk_of store).seen) (sym (take_all (length (changes_of store)) (changes_of store) (omega arith))) (seen_leaves (changes_of store)))

pub sizes_fit : (store : MemoryStore) (area : ℕ) → length ((disk_of store).seen area) ≤ 4611686018427387904
sizes_fit store area = omega (arith, ap length (store.past.agrees area), store.past.fits area)

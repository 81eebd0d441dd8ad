-- What a stop may leave of one area, whatever it leaves of the others.
use Rattle.std.specs.Prelude.{◌≡◌, ◌+◌, ◌-◌, ◌/◌, ℕ, List, ◌++◌, length, take, drop, replicate, if◌then◌else◌, ◌==◌}
use Rattle.std.specs.List.{AllByRecursion, Any}
use Rattle.store_model.specs.Disk.{Areas}
use Rattle.store_model.specs.Past.{blank, seen_after, MayLeave}
use Rattle.store_model.specs.Synced.{last_synced, IsLoose}
use Rattle.store_model.specs.declared.past.Change.{Change}
use Rattle.store_model.specs.declared.past.Change.TheVariants.{Wrote, Shortened, Synced}
use Rattle.store_model.specs.declared.replay.Replayed.{Replayed}

-- the areas with these bytes in one of them
abbrev pub put : ℕ → List ℕ → Areas → Areas
put area bytes areas = λ other. if other == area then bytes else areas other

-- wherever a stop may leave some areas, it may leave them with these bytes in this one
abbrev pub IsFree : List Change → ℕ → List ℕ → Type 0
IsFree changes area bytes = (areas : Areas) → MayLeave changes areas → MayLeave changes (put area bytes areas)

-- the area that a change was made to
abbrev pub changed_area : Change → ℕ
changed_area (Wrote area at bytes) = area
changed_area (Shortened area length) = area
changed_area (Synced area) = area

-- some of the bytes written alone to an area, from a place on; the gap before the place holds zeros
abbrev pub written_alone : ℕ → List ℕ → List ℕ → List ℕ
written_alone at piece old = (take at old ++ replicate (at - length old) 0) ++ piece ++ drop (at + length piece) old

-- the first half of the bytes
abbrev pub half : List ℕ → List ℕ
half bytes = take (length bytes / 2) bytes

-- the areas with some of the bytes written alone to one of them
abbrev pub with_write : ℕ → ℕ → List ℕ → Areas → Areas
with_write area at piece areas = put area (written_alone at piece (areas area)) areas

-- one area after the changes: as it reads, as it was last synced, and that with each write since alone, whole and
-- its first half; a stop may leave each of them
pub record IsReplayed (changes : List Change) (area : ℕ) (replayed : Replayed) : Type 0 where
  pub now : replayed.now.items ≡ seen_after blank changes area
  pub synced : replayed.synced.items ≡ last_synced changes area
  pub whole : (at : ℕ) (bytes : List ℕ) → IsLoose changes area at bytes → Any (λ torn. torn.items ≡ written_alone at bytes (last_synced changes area)) replayed.torn.items
  pub halved : (at : ℕ) (bytes : List ℕ) → IsLoose changes area at bytes → Any (λ torn. torn.items ≡ written_alone at (half bytes) (last_synced changes area)) replayed.torn.items
  pub now_free : IsFree changes area replayed.now.items
  pub synced_free : IsFree changes area replayed.synced.items
  pub torn_free : AllByRecursion (λ bytes. IsFree changes area bytes.items) replayed.torn.items

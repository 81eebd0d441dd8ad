-- How far has a read through a cache come? Our own.
use Rattle.std.specs.Prelude.{ℕ, ◌+◌, ◌≡◌, ◌≤◌, ◌⊎◌, IsTrue, List, ◌++◌, length}
use Rattle.entry_codec.specs.declared.entries.Entry.{Entry}
use Rattle.journal_model.specs.Journal.{AreNumbered}
use Rattle.journal_book.specs.Reads.{between}
use Rattle.block_cache.specs.Cached.{AreStretches, HasSequence, IsLongBlock, IsStretch, has_entry}

-- the entries are those from one sequence to another, one behind the other
pub record IsWhole (first last : ℕ) (entries : List Entry) : Type 0 where
  pub numbered : AreNumbered first entries
  pub long : first + length entries ≡ last + 1

-- of the block the entries up to a sequence were put behind those that were found
pub record IsCopied (block : List Entry) (lo hi : ℕ) (found after : List Entry) (reached : ℕ) : Type 0 where
  pub from : lo ≤ reached
  pub upto : reached ≤ hi
  pub has : IsTrue (has_entry reached block)
  pub copied : (first : ℕ) (all : List Entry) → IsStretch first all block → after ≡ found ++ between first lo reached all

-- the same of the blocks of a cache, which stand in it still
pub record IsFound (old new : List (List Entry)) (lo hi : ℕ) (found after : List Entry) (reached : ℕ) : Type 0 where
  pub from : lo ≤ reached
  pub upto : reached ≤ hi
  pub has : HasSequence new reached
  pub copied : (first : ℕ) (all : List Entry) → AreStretches first all old → after ≡ found ++ between first lo reached all

-- a block of the journal: a store that tells its bytes holds these entries, and it is a stretch of them
abbrev pub IsOf : Type 0 → (List Entry → Type 0) → ℕ → List Entry → Type 0
IsOf tells Held first block = tells → (all : List Entry) → Held all → IsStretch first all block

-- the blocks stay such
abbrev pub StayOf : Type 0 → (List Entry → Type 0) → ℕ → List (List Entry) → List (List Entry) → Type 0
StayOf tells Held first old new = tells → (all : List Entry) → Held all → AreStretches first all old → AreStretches first all new

-- the block of the sequence stands in the cache, or is too long for it
abbrev pub StandsOrIsLong : Type 0 → (List Entry → Type 0) → ℕ → List (List Entry) → ℕ → Type 0
StandsOrIsLong tells Held first blocks n = HasSequence blocks n ⊎ IsLongBlock n (IsOf tells Held first)

-- the entries up to a sequence, its own too, were put behind those that were found, from the cache or from the store
pub record IsTaken (tells : Type 0) (Held : List Entry → Type 0) (first : ℕ) (old new : List (List Entry)) (lo hi : ℕ) (found after : List Entry) (reached : ℕ) : Type 0 where
  pub from : lo ≤ reached
  pub upto : reached ≤ hi
  pub stands : StandsOrIsLong tells Held first new reached
  pub taken : tells → (all : List Entry) → Held all → AreStretches first all old → after ≡ found ++ between first lo reached all

-- the same of a read that may not have begun
pub record IsTakenUpTo (tells : Type 0) (Held : List Entry → Type 0) (first : ℕ) (old new : List (List Entry)) (lo hi : ℕ) (found after : List Entry) (reached : ℕ) : Type 0 where
  pub from : lo ≤ reached + 1
  pub upto : reached ≤ hi
  pub stands : (reached + 1 ≡ lo) ⊎ StandsOrIsLong tells Held first new reached
  pub taken : tells → (all : List Entry) → Held all → AreStretches first all old → after ≡ found ++ between first lo reached all

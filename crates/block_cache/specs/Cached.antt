-- Which sequences do the blocks of a cache have, how do the blocks stand to the journal, and which are too long? Our own.
use Rattle.std.specs.Prelude.{ℕ, ◌+◌, ◌≡◌, ◌<◌, ◌≤◌, ◌⊎◌, ◌==◌, ◌||◌, if◌then◌else◌, Bool, false, IsTrue, List, [], ◌∷◌, length, Option, Some, None}
use Rattle.std.specs.List.{AllByRecursion}
use Rattle.entry_codec.specs.declared.entries.Entry.{Entry}
use Rattle.journal_book.specs.Book.{BookState}
use Rattle.journal_book.specs.Reads.{between}
use Rattle.block_cache.specs.Sizes.{block_bytes}
use Rattle.block_cache.specs.declared.limits.TheConstants.{MOST_BYTES}

-- an entry of the block has this sequence
abbrev pub has_entry : ℕ → List Entry → Bool
has_entry n [] = false
has_entry n (e ∷ entries) = (e.sequence == n) || has_entry n entries

-- one of the blocks has an entry of this sequence
abbrev pub has_sequence : ℕ → List (List Entry) → Bool
has_sequence n [] = false
has_sequence n (block ∷ blocks) = has_entry n block || has_sequence n blocks

abbrev pub HasSequence : List (List Entry) → ℕ → Type 0
HasSequence blocks n = IsTrue (has_sequence n blocks)

-- the key of the first block that has one
abbrev pub key_of : ℕ → List (ℕ × List Entry) → Option ℕ
key_of n [] = None
key_of n (kept ∷ more) = if has_entry n kept.1 then Some kept.0 else key_of n more

-- the block of the sequence is the buffered one, or one of these
abbrev pub IsKept : List (List Entry) → BookState → ℕ → Type 0
IsKept blocks book n = (book.first + book.forced ≤ n) ⊎ HasSequence blocks n

-- the block has an entry, and is the stretch between its own bounds of entries that begin with this sequence
abbrev pub IsStretch : ℕ → List Entry → List Entry → Type 0
IsStretch first entries [] = ⊥
IsStretch first entries (e ∷ more) =
    (first ≤ e.sequence) × (e.sequence + length more < first + length entries) × (e ∷ more ≡ between first e.sequence (e.sequence + length more) entries)

-- each of the blocks is one
abbrev pub AreStretches : ℕ → List Entry → List (List Entry) → Type 0
AreStretches first entries blocks = AllByRecursion (IsStretch first entries) blocks

-- the entries have no more bytes than those of a block that is kept
abbrev pub IsShort : List Entry → Type 0
IsShort block = block_bytes block ≤ MOST_BYTES

-- a block of the journal with this sequence has entries of more bytes
pub record IsLongBlock (n : ℕ) (IsOfJournal : List Entry → Type 0) : Type 0 where
  pub block : List Entry
  pub has : IsTrue (has_entry n block)
  pub long : MOST_BYTES < block_bytes block
  pub there : IsOfJournal block

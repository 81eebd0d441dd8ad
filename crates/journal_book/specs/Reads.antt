-- Which entries does a read of a range of sequences give, and how far has it come? Our own.
use Rattle.std.specs.Prelude.{ℕ, zero, suc, ◌+◌, ◌-◌, ◌≡◌, ◌&&◌, Bool, List, [], ◌∷◌, ◌++◌, take, drop, filter, nat_le}
use Rattle.entry_codec.specs.declared.entries.Entry.{Entry}
use Rattle.journal_model.specs.Journal.{AreNumbered}
use Rattle.receiver_chain.specs.Receivers.{Kept, Receiver, blocks_in, receiver_at}
use Rattle.journal_book.specs.Entries.{AreBlocks, flat}

-- those from lo to hi of entries that begin with this sequence
abbrev pub between : ℕ → ℕ → ℕ → List Entry → List Entry
between first lo hi entries = take (hi + 1 - lo) (drop (lo - first) entries)

-- the entry's sequence is one from lo to hi
abbrev pub is_between : ℕ → ℕ → Entry → Bool
is_between lo hi e = nat_le lo e.sequence && nat_le e.sequence hi

-- ---- a read on its way

-- there are some, and the first one comes directly behind this sequence
abbrev pub BeginsBehind : ℕ → List Entry → Type 0
BeginsBehind before [] = ⊥
BeginsBehind before (e ∷ entries) = e.sequence ≡ before + 1

-- what comes behind this sequence stands in these blocks: what was found, and behind it their entries in the range, are
-- what was there before, and behind it all entries in the range
pub record IsAhead (lo hi : ℕ) (entries old : List Entry) (last : ℕ) (found : List Entry) (blocks : List (List ℕ)) : Type 0 where
  pub groups : List (List Entry)
  pub are : AreBlocks groups blocks
  pub numbered : AreNumbered (last + 1) (flat groups)
  pub all : found ++ filter (is_between lo hi) (flat groups) ≡ old ++ filter (is_between lo hi) entries

-- the blocks of the receivers behind the kth one
abbrev pub blocks_behind : List Receiver → Receiver → ℕ → List (List ℕ)
blocks_behind [] attached k = []
blocks_behind (r ∷ rs) attached zero = blocks_in rs ++ attached.blocks
blocks_behind (r ∷ rs) attached (suc k) = blocks_behind rs attached k

-- the blocks from the nth one of a receiver on
abbrev pub blocks_from : ℕ → Kept → ℕ → ℕ → List (List ℕ)
blocks_from first kept receiver n = drop n (receiver_at first kept receiver).blocks ++ blocks_behind kept.earlier kept.attached (receiver - first)

-- Where does the entry of a sequence stand, and how far has a search for it come? Our own.
use Rattle.std.specs.Prelude.{ℕ, ◌+◌, ◌≡◌, ◌≤◌, List, [], ◌++◌, length, drop, filter}
use Rattle.store_model.specs.Disk.{Areas}
use Rattle.entry_codec.specs.declared.entries.Entry.{Entry}
use Rattle.journal_book.specs.Entries.{spelled}
use Rattle.journal_book.specs.Reads.{IsAhead, is_between}
use Rattle.journal_book.specs.declared.placing.Sought.{Sought}
use Rattle.journal_book.specs.declared.placing.Sought.TheVariants.{At, Behind}

-- the entries stand at this place of these bytes
abbrev pub StandIn : List Entry → ℕ → List ℕ → Type 0
StandIn entries at bytes = (rest : List ℕ) × (drop at bytes ≡ spelled entries ++ rest)

-- the same of an area
abbrev pub StandAt : List Entry → ℕ → ℕ → Areas → Type 0
StandAt entries area at areas = StandIn entries at (areas area)

-- ---- a search on its way

-- what was found of the sequence in a block whose entries follow another one: where in these bytes its entry stands, or
-- that it comes later, behind this sequence
abbrev pub IsSought : ℕ → ℕ → List Entry → List ℕ → Sought → Type 0
IsSought sequence last group bytes (At at) = (sequence ≤ last + length group) × (at ≤ length bytes) × StandIn (filter (is_between sequence sequence) group) at bytes
IsSought sequence last group bytes (Behind reached) = (reached ≡ last + length group) × (filter (is_between sequence sequence) group ≡ [])

-- the same of several blocks, before these
abbrev pub IsSoughtIn : ℕ → List Entry → List (List ℕ) → List ℕ → Sought → Type 0
IsSoughtIn sequence entries later bytes (At at) = StandIn (filter (is_between sequence sequence) entries) at bytes
IsSoughtIn sequence entries later bytes (Behind reached) = IsAhead sequence sequence entries [] reached [] later

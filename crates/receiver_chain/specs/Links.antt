-- Which block ties a journal receiver to the next one, and which one begins a receiver? (Journal Management, "Journal
-- code finder", code J, entry types NR and PR.)
use Rattle.std.specs.Prelude.{ℕ, ◌-◌, ◌≤◌, ◌≡◌, List, [], length, get_or}
use Rattle.entry_codec.specs.declared.entries.Entry.{Entry}
use Rattle.entry_codec.specs.declared.kinds.EntryKind.TheVariants.{NextReceiver, PreviousReceiver}
use Rattle.entry_codec.specs.Spelling.{IsSpelled, spelling}
use Rattle.receiver_chain.specs.declared.numbers.TheConstants.{MAX_RECEIVER}

-- the block is one entry, J NR, of this sequence, which names the next receiver
pub record IsLink (next before : ℕ) (block : List ℕ) : Type 0 where
  pub entry : Entry
  pub spelled : IsSpelled entry
  pub names : entry.kind ≡ NextReceiver next
  pub sequence : entry.sequence ≡ before
  pub whole : block ≡ spelling entry
  pub made : next ≤ MAX_RECEIVER

-- the block is no such entry
abbrev pub IsNoLink : ℕ → List ℕ → Type 0
IsNoLink next block = (before : ℕ) → IsLink next before block → ⊥

-- the block is one entry, J PR, of this sequence, which names the receiver before
pub record IsStart (previous first : ℕ) (block : List ℕ) : Type 0 where
  pub entry : Entry
  pub spelled : IsSpelled entry
  pub names : entry.kind ≡ PreviousReceiver previous
  pub sequence : entry.sequence ≡ first
  pub whole : block ≡ spelling entry

-- the last block, no bytes where there is none
abbrev pub last_block : List (List ℕ) → List ℕ
last_block blocks = get_or blocks (length blocks - 1) []

-- the last block ties the receiver to the next one
abbrev pub EndsInLink : ℕ → ℕ → List (List ℕ) → Type 0
EndsInLink next before blocks = IsLink next before (last_block blocks)

abbrev pub EndsInNoLink : ℕ → List (List ℕ) → Type 0
EndsInNoLink next blocks = IsNoLink next (last_block blocks)

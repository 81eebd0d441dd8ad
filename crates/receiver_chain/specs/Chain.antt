-- A chain of receivers as its callers see it, and how it stands to the disk. Our own.
use Rattle.std.specs.Prelude.{ℕ, ◌+◌, ◌-◌, ◌≡◌, ◌⊎◌, ◌==◌, if◌then◌else◌, List, [], ◌∷◌, ◌++◌, length, get_or, map}
use Rattle.store_model.specs.Disk.{Areas, Disk}
use Rattle.gated_log.specs.Blocks.{frame}
use Rattle.gated_log.specs.Log.{LogState, Settled}
use Rattle.receiver_chain.specs.Links.{EndsInNoLink, IsLink, IsStart}
use Rattle.receiver_chain.specs.Receivers.{Receiver, Kept, LeadTo, Follows, area_of, before_first, deposited, switched, AreChained}

-- the first receiver that is kept, the logs of those before the attached one, that of the attached one, and for how many
-- blocks room was made
pub record ChainState : Type 0 where
  pub first : ℕ
  pub earlier : List LogState
  pub attached : LogState
  pub room : ℕ

-- the number of the attached receiver
abbrev pub attached_of : ChainState → ℕ
attached_of chain = chain.first + length chain.earlier

-- the log of a receiver that is kept
abbrev pub log_at : ChainState → ℕ → LogState
log_at chain receiver = get_or chain.earlier (receiver - chain.first) chain.attached

-- the last sequence up to a receiver's end, where this is the last one of all: it comes before the first one of the next
-- receiver
abbrev pub last_of : ChainState → ℕ → ℕ → ℕ
last_of chain receiver last = if receiver == attached_of chain then last else (log_at chain (receiver + 1)).first - 1

-- the first sequence of each receiver, and the lengths of its blocks
abbrev pub firsts : List LogState → List ℕ
firsts logs = map (λ log. log.first) logs

abbrev pub lengths_in : List LogState → List (List ℕ)
lengths_in logs = map (λ log. log.lengths) logs

-- the logs of all receivers that are kept
abbrev pub logs_of : ChainState → List LogState
logs_of chain = chain.earlier ++ chain.attached ∷ []

-- the log is that of the receiver, in its area, and a stop leaves of it what a read gives
pub record IsLogOf (number : ℕ) (log : LogState) (r : Receiver) (disk : Disk) : Type 0 where
  pub area : log.area ≡ area_of number
  pub first : log.first ≡ r.first
  pub version : log.version ≡ r.version
  pub settled : Settled log r.blocks disk

-- the same of each, from this number on
abbrev pub AreLogsOf : ℕ → List LogState → List Receiver → Disk → Type 0
AreLogsOf number [] [] disk = Unit {0}
AreLogsOf number (log ∷ logs) (r ∷ rs) disk = IsLogOf number log r disk × AreLogsOf (number + 1) logs rs disk
AreLogsOf number [] (r ∷ rs) disk = ⊥
AreLogsOf number (log ∷ logs) [] disk = ⊥

-- the receivers up to this log's
pub record LeadsTo (first : ℕ) (logs : List LogState) (number : ℕ) (log : LogState) (earlier : List Receiver) (r : Receiver) (disk : Disk) : Type 0 where
  pub logs_of : AreLogsOf first logs earlier disk
  pub before : Rattle.std.specs.Prelude.Option ℕ
  pub lead : LeadTo first (before_first first) earlier number before
  pub follows : Follows before r.first
  pub log_of : IsLogOf number log r disk

-- the disk holds these receivers, and a stop leaves them
pub record Holds (chain : ChainState) (kept : Kept) (disk : Disk) : Type 0 where
  pub leads : LeadsTo chain.first chain.earlier (attached_of chain) chain.attached kept.earlier kept.attached disk
  pub last : EndsInNoLink (attached_of chain + 1) kept.attached.blocks

abbrev pub HasKept : ChainState → Disk → Type 0
HasKept chain disk = (kept : Kept) × Holds chain kept disk

-- the same as a mere fact, which a struct's ghost field can keep
abbrev pub IsHeld : ChainState → Disk → Type 0
IsHeld chain disk = ∥ HasKept chain disk ∥₁

-- ---- what a stop may leave

-- the receivers before or after one block more
abbrev pub IsWithOrWithout : ℕ → Kept → List ℕ → Areas → Type 0
IsWithOrWithout first kept block areas = AreChained first kept areas ⊎ AreChained first (deposited block kept) areas

-- the blocks by which one receiver ends and the next one begins, each in its frame
pub record IsSwitch (attached : ℕ) (nr pr : List ℕ) : Type 0 where
  pub before : ℕ
  pub ending : List ℕ
  pub beginning : List ℕ
  pub link : IsLink (attached + 1) before ending
  pub start : IsStart attached (before + 1) beginning
  pub framed_ending : nr ≡ frame ending
  pub framed_beginning : pr ≡ frame beginning

-- the receivers before the switch, with the next one that is still empty, or with its first block
abbrev pub IsSwitching : ℕ → Kept → ℕ → List ℕ → List ℕ → Areas → Type 0
IsSwitching first kept before ending beginning areas =
    AreChained first kept areas ⊎ (AreChained first (switched ending (before + 1) kept) areas ⊎ AreChained first (deposited beginning (switched ending (before + 1) kept)) areas)

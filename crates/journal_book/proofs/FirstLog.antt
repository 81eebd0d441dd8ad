-- The first sequence that the receivers of a chain have.
use Rattle.std.proofs.Common.{◌≡◌, ℕ, List, [], ◌∷◌, get_or, sym}
use Rattle.store_model.specs.Disk.{Disk}
use Rattle.gated_log.specs.Log.{LogState}
use Rattle.receiver_chain.specs.Receivers.{Kept, Receiver}
use Rattle.receiver_chain.specs.Chain.{ChainState}
use Rattle.journal_book.specs.Entries.{first_sequence}

-- the first sequence is that of the first log
pub first_is : (chain : ChainState) (kept : Kept) (disk : Disk) → Rattle.receiver_chain.specs.Chain.Holds chain kept disk → first_sequence kept ≡ (get_or chain.earlier 0 chain.attached).first
first_is chain kept disk holds = first_by chain.first chain.earlier chain.attached kept.earlier kept.attached holds.leads.logs_of (sym holds.leads.log_of.first)
  where
    first_by : (n : ℕ) (logs : List LogState) (log : LogState) (rs : List Receiver) (r : Receiver) → Rattle.receiver_chain.specs.Chain.AreLogsOf n logs rs disk → r.first ≡ log.first → first_sequence (record { earlier = rs; attached = r }) ≡ (get_or logs 0 log).first
    first_by n [] log [] r are same = same
    first_by n [] log (x ∷ rs) r are same = absurd are
    first_by n (l ∷ logs) log [] r are same = absurd are
    first_by n (l ∷ logs) log (x ∷ rs) r are same = sym are.0.first

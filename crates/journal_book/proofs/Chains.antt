-- What the logs of a chain say of its receivers, and what a reader finds there.
use Rattle.std.proofs.Common.{◌≡◌, ℕ, ◌+◌, ◌-◌, ◌≤◌, ◌<◌, List, [], ◌∷◌, length, drop, get_or, refl, sym, ◌∙◌, ap, subst, arith}
use Rattle.std.proofs.Math.Seq.{drop-cons}
use Rattle.std.proofs.lemmas.List.{drop_all, get_or_past}
use Rattle.store_model.specs.Disk.{Disk}
use Rattle.gated_log.specs.Log.{LogState}
use Rattle.receiver_chain.specs.Links.{EndsInLink}
use Rattle.receiver_chain.specs.Receivers.{Kept, Receiver, receiver_at}
use Rattle.receiver_chain.specs.Chain.{ChainState, Holds, attached_of, log_at}
use Rattle.receiver_chain.proofs.Chaining.{logs_length}
use Rattle.receiver_chain.proofs.Kept.{log_of}
use Rattle.receiver_chain.proofs.LinkLemmas.{no_bytes}
use Rattle.journal_book.specs.Entries.{IsAttached, IsEnded, first_sequence}
use Rattle.journal_book.specs.Openings.{HasNoRead, HasRead, HaveNoRead, HaveRead}
use Rattle.journal_book.proofs.Counts.{count_is}
use Rattle.journal_book.proofs.Endings.{link_at}
use Rattle.journal_book.proofs.FirstLog.{first_is}
use Rattle.journal_book.proofs.Walking.{IsWalk, receivers_at, walk_done, walk_fault, walk_further, walk_last_fault}

pub log_attached : (chain : ChainState) → log_at chain (attached_of chain) ≡ chain.attached
log_attached chain = get_or_past chain.earlier (attached_of chain - chain.first) chain.attached (omega arith)

none_of : (blocks : List (List ℕ)) → length blocks ≡ 0 → blocks ≡ []
none_of [] none = refl
none_of (b ∷ blocks) none = absurd (omega (arith, none))

module _ (chain : ChainState) (kept : Kept) (disk : Disk) (receiver : ℕ) (holds : Holds chain kept disk) (from : chain.first ≤ receiver) (upto : receiver ≤ attached_of chain) where
  pub no_blocks : length (log_at chain receiver).lengths ≡ 0 → (receiver_at chain.first kept receiver).blocks ≡ []
  no_blocks none = none_of (receiver_at chain.first kept receiver).blocks (omega (arith, count_is chain kept disk receiver holds from upto, none))

  pub first_block : 0 < length (log_at chain receiver).lengths → (receiver_at chain.first kept receiver).blocks ≡ get_or (receiver_at chain.first kept receiver).blocks 0 [] ∷ drop 1 (receiver_at chain.first kept receiver).blocks
  first_block some = drop-cons (receiver_at chain.first kept receiver).blocks 0 [] (omega (arith, count_is chain kept disk receiver holds from upto, some))

-- the receiver that is attached
pub attached_at : (chain : ChainState) (kept : Kept) (disk : Disk) → Holds chain kept disk → receiver_at chain.first kept (attached_of chain) ≡ kept.attached
attached_at chain kept disk holds = get_or_past kept.earlier (attached_of chain - chain.first) kept.attached (omega (arith, logs_length chain.first chain.earlier kept.earlier disk holds.leads.logs_of))

-- one that another follows ends in the entry before the next one's first
pub link_of : (chain : ChainState) (kept : Kept) (disk : Disk) (receiver : ℕ) → Holds chain kept disk → chain.first ≤ receiver → receiver < attached_of chain
    → (s : ℕ) × EndsInLink (receiver + 1) s (receiver_at chain.first kept receiver).blocks × ((log_at chain (receiver + 1)).first ≡ s + 1)
link_of chain kept disk receiver holds from below =
    let k = receiver - chain.first in
    let sizes = logs_length chain.first chain.earlier kept.earlier disk holds.leads.logs_of in
    let link = link_at chain.first _ kept.earlier kept.attached (attached_of chain) holds.leads.before k holds.leads.lead holds.leads.follows (omega (arith, from, below, sizes)) in
    let next = log_of chain kept disk (receiver + 1) holds (omega (arith, from)) (omega (arith, below)) in (
      link.0,
      subst (λ (n : ℕ). EndsInLink n link.0 (receiver_at chain.first kept receiver).blocks) (omega (arith, from)) link.1,
      next.first ∙ ap (λ (n : ℕ). (get_or kept.earlier n kept.attached).first) (omega (arith, from)) ∙ link.2,
    )

-- what holds of the receiver that is attached
pub at_attached : (P : ℕ → List (List ℕ) → Type 0) (chain : ChainState) (kept : Kept) (disk : Disk) (receiver : ℕ) → Holds chain kept disk → receiver ≡ attached_of chain → P receiver (receiver_at chain.first kept receiver).blocks → P (attached_of chain) kept.attached.blocks
at_attached P chain kept disk receiver holds number has =
    subst (λ (r : Receiver). P (attached_of chain) r.blocks) (attached_at chain kept disk holds) (subst (λ (n : ℕ). P n (receiver_at chain.first kept n).blocks) number has)

-- the first sequence that is kept
pub first_kept : (chain : ChainState) (kept : Kept) (disk : Disk) (first : ℕ) → Holds chain kept disk → chain.first ≡ first → first_sequence kept ≡ (log_at chain first).first
first_kept chain kept disk first holds is = first_is chain kept disk holds ∙ ap (λ (n : ℕ). (get_or chain.earlier n chain.attached).first) (omega (arith, is))

-- a receiver that another follows has a block
pub some_block : (chain : ChainState) (kept : Kept) (disk : Disk) (receiver : ℕ) → Holds chain kept disk → chain.first ≤ receiver → receiver < attached_of chain → length (log_at chain receiver).lengths ≡ 0 → ⊥
some_block chain kept disk receiver holds from below none =
    let link = link_of chain kept disk receiver holds from below in
    no_bytes (receiver + 1) link.0 (subst (λ (b : List (List ℕ)). EndsInLink (receiver + 1) link.0 b) (no_blocks chain kept disk receiver holds from (omega (arith, below)) none) link.1)

-- ---- all receivers

module _ (chain : ChainState) (kept : Kept) (disk : Disk) (holds : Holds chain kept disk) (before n reached : ℕ) (walk : IsWalk chain.first before kept.earlier kept.attached n reached (drop (n - chain.first) kept.earlier)) where
  pub walk_on : (sequence : ℕ) → chain.first ≤ n → n < attached_of chain → HasRead (IsEnded n) reached (receiver_at chain.first kept n).blocks sequence → IsWalk chain.first before kept.earlier kept.attached (n + 1) sequence (drop (n + 1 - chain.first) kept.earlier)
  walk_on sequence from below read =
      let k = n - chain.first in
      let rest = receivers_at kept.earlier kept.attached k (omega (arith, from, below, logs_length chain.first chain.earlier kept.earlier disk holds.leads.logs_of)) in
      subst (λ (m : ℕ). IsWalk chain.first before kept.earlier kept.attached (n + 1) sequence (drop m kept.earlier)) (omega (arith, from))
      (walk_further chain.first before kept.earlier kept.attached n reached sequence (get_or kept.earlier k kept.attached) (drop (k + 1) kept.earlier)
      (subst (λ (l : List Receiver). IsWalk chain.first before kept.earlier kept.attached n reached l) rest walk) read)

  pub walk_broken : chain.first ≤ n → n < attached_of chain → HasNoRead (IsEnded n) reached (receiver_at chain.first kept n).blocks → HaveNoRead chain.first before kept.earlier kept.attached
  walk_broken from below none =
      let k = n - chain.first in
      let rest = receivers_at kept.earlier kept.attached k (omega (arith, from, below, logs_length chain.first chain.earlier kept.earlier disk holds.leads.logs_of)) in
      walk_fault chain.first before kept.earlier kept.attached n reached (get_or kept.earlier k kept.attached) (drop (k + 1) kept.earlier) (subst (λ (l : List Receiver). IsWalk chain.first before kept.earlier kept.attached n reached l) rest walk) none

  walk_last : n ≡ attached_of chain → IsWalk chain.first before kept.earlier kept.attached n reached []
  walk_last is =
      subst (λ (l : List Receiver). IsWalk chain.first before kept.earlier kept.attached n reached l)
      (drop_all (n - chain.first) kept.earlier (omega (arith, is, logs_length chain.first chain.earlier kept.earlier disk holds.leads.logs_of))) walk

  pub walk_ends : (sequence : ℕ) → n ≡ attached_of chain → HasRead (IsAttached (attached_of chain)) reached kept.attached.blocks sequence → HaveRead chain.first before kept.earlier kept.attached sequence
  walk_ends sequence is read =
      walk_done chain.first before kept.earlier kept.attached n reached sequence (walk_last is) (subst (λ (m : ℕ). HasRead (IsAttached m) reached kept.attached.blocks sequence) (sym is) read)

  pub walk_ends_broken : n ≡ attached_of chain → HasNoRead (IsAttached (attached_of chain)) reached kept.attached.blocks → HaveNoRead chain.first before kept.earlier kept.attached
  walk_ends_broken is none = walk_last_fault chain.first before kept.earlier kept.attached n reached (walk_last is) (subst (λ (m : ℕ). HasNoRead (IsAttached m) reached kept.attached.blocks) (sym is) none)

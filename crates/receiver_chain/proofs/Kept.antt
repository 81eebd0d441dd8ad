-- What keeps a chain held, and how its logs and receivers belong together: for crates that hold chains.
use Rattle.std.proofs.Common.{◌≡◌, ◌∙◌, ◌≢◌, inl, inr, ℕ, ◌-◌, ◌≤◌, ◌<◌, List, length, sym, subst, arith}
use Rattle.std.proofs.Math.Logic.{∥∥₁_map}
use Rattle.std.proofs.lemmas.Bool.{cases_eq}
use Rattle.std.proofs.lemmas.List.{get_or_past}
use Rattle.store_model.specs.Disk.{Disk, Does, Stays}
use Rattle.gated_log.specs.Log.{LogState, IsSettled}
use Rattle.gated_log.proofs.Kept.{settled_same}
use Rattle.receiver_chain.specs.Receivers.{Receiver, Kept, area_of, receiver_at}
use Rattle.receiver_chain.specs.Chain.{ChainState, IsLogOf, Holds, IsHeld, attached_of, log_at}
use Rattle.receiver_chain.proofs.Chaining.{leads_stay, logs_length, logs_apart, log_apart}

-- a call that changes no area
pub holds_stays : (chain : ChainState) (kept : Kept) (old new : Disk) → Stays old new → Holds chain kept old → Holds chain kept new
holds_stays chain kept old new stays holds = record { leads = leads_stay chain.first chain.earlier (attached_of chain) chain.attached kept.earlier kept.attached old new stays holds.leads; last = holds.last }

pub is_held_stays : (chain : ChainState) (old new : Disk) → Stays old new → IsHeld chain old → IsHeld chain new
is_held_stays chain old new stays some = ∥∥₁_map some (λ has. (has.0, holds_stays chain has.0 old new stays has.1))

-- the log of each receiver is that receiver's
pub log_of : (chain : ChainState) (kept : Kept) (disk : Disk) (receiver : ℕ) → Holds chain kept disk → chain.first ≤ receiver → receiver ≤ attached_of chain → IsLogOf receiver (log_at chain receiver) (receiver_at chain.first kept receiver) disk
log_of chain kept disk receiver holds from upto =
    let k = receiver - chain.first in
    let sizes = logs_length chain.first chain.earlier kept.earlier disk holds.leads.logs_of in
    elim (cases_eq receiver (attached_of chain)) [
      | inl last ↦
          subst (λ (l : LogState). IsLogOf receiver l (receiver_at chain.first kept receiver) disk) (sym (get_or_past chain.earlier k chain.attached (omega (arith, last))))
          (subst (λ (r : Receiver). IsLogOf receiver chain.attached r disk) (sym (get_or_past kept.earlier k kept.attached (omega (arith, last, sizes))))
          (subst (λ (m : ℕ). IsLogOf m chain.attached kept.attached disk) (sym last) holds.leads.log_of))
      | inr before ↦
          let below : k < length kept.earlier = omega (arith, upto, before, sizes) in
          subst (λ (m : ℕ). IsLogOf m (log_at chain receiver) (receiver_at chain.first kept receiver) disk) (omega (arith, from))
          (Rattle.receiver_chain.proofs.Chaining.log_at chain.first chain.earlier kept.earlier disk k chain.attached kept.attached holds.leads.logs_of below)
    ]

pub held_log : (chain : ChainState) (disk : Disk) (receiver : ℕ) → IsHeld chain disk → chain.first ≤ receiver → receiver ≤ attached_of chain → IsSettled (log_at chain receiver) disk
held_log chain disk receiver some from upto = ∥∥₁_map some (λ has. ((receiver_at chain.first has.0 receiver).blocks, (log_of chain has.0 disk receiver has.1 from upto).settled))

-- a call on an area of none of its receivers
pub holds_apart : (chain : ChainState) (kept : Kept) (area : ℕ) (step : List ℕ → List ℕ → Type 0) (old new : Disk) → Does area step old new → ((m : ℕ) → chain.first ≤ m → m ≤ attached_of chain → area_of m ≢ area) → Holds chain kept old → Holds chain kept new
holds_apart chain kept area step old new does other holds =
    let sizes = logs_length chain.first chain.earlier kept.earlier old holds.leads.logs_of in
    record {
      leads = record {
        logs_of = logs_apart chain.first chain.earlier kept.earlier area step old new does (λ m le lt. other m le (omega (arith, lt, sizes))) holds.leads.logs_of;
        before = holds.leads.before;
        lead = holds.leads.lead;
        follows = holds.leads.follows;
        log_of = log_apart (attached_of chain) chain.attached kept.attached area step old new does (other (attached_of chain) (omega arith) (omega arith)) holds.leads.log_of;
      };
      last = holds.last;
    }

-- a chain that differs in its room alone
pub holds_same : (old new : ChainState) (kept : Kept) (disk : Disk) → new.first ≡ old.first → new.earlier ≡ old.earlier → new.attached.area ≡ old.attached.area → new.attached.first ≡ old.attached.first
    → new.attached.version ≡ old.attached.version → new.attached.lengths ≡ old.attached.lengths → Holds old kept disk → Holds new kept disk
holds_same old new kept disk first earlier area head version lengths holds =
    subst (λ (f : ℕ). Holds (record { first = f; earlier = new.earlier; attached = new.attached; room = new.room }) kept disk) (sym first)
    (subst (λ (l : List LogState). Holds (record { first = old.first; earlier = l; attached = new.attached; room = new.room }) kept disk) (sym earlier)
    (record {
      leads = record {
        logs_of = holds.leads.logs_of;
        before = holds.leads.before;
        lead = holds.leads.lead;
        follows = holds.leads.follows;
        log_of = record {
          area = area ∙ holds.leads.log_of.area;
          first = head ∙ holds.leads.log_of.first;
          version = version ∙ holds.leads.log_of.version;
          settled = settled_same old.attached new.attached kept.attached.blocks disk area head version lengths holds.leads.log_of.settled;
        };
      };
      last = holds.last;
    }))

pub is_held_same : (old new : ChainState) (disk : Disk) → new.first ≡ old.first → new.earlier ≡ old.earlier → new.attached.area ≡ old.attached.area → new.attached.first ≡ old.attached.first
    → new.attached.version ≡ old.attached.version → new.attached.lengths ≡ old.attached.lengths → IsHeld old disk → IsHeld new disk
is_held_same old new disk first earlier area head version lengths some = ∥∥₁_map some (λ has. (has.0, holds_same old new has.0 disk first earlier area head version lengths has.1))

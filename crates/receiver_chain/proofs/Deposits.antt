-- What a block that is deposited makes of a chain.
use Rattle.std.proofs.Common.{◌≡◌, ◌≢◌, inl, inr, ℕ, ◌+◌, ◌≤◌, ◌<◌, List, [], ◌∷◌, ◌++◌, length, sym, ◌∙◌, subst, arith}
use Rattle.std.proofs.Math.Logic.{∥∥₁_map}
use Rattle.store_model.specs.Disk.{Areas, Disk, May, Does, Leaves, Only}
use Rattle.gated_log.specs.Blocks.{Spells}
use Rattle.gated_log.specs.Log.{LogState, Settled, IsSettled, IsWithOrWithout, Anything}
use Rattle.receiver_chain.specs.Links.{IsNoLink, EndsInNoLink}
use Rattle.receiver_chain.specs.Receivers.{Kept, LeadTo, area_of, before_first, deposited, with_block, AreChained}
use Rattle.receiver_chain.specs.Chain.{ChainState, IsLogOf, LeadsTo, Holds, IsHeld, attached_of}
use Rattle.receiver_chain.proofs.LinkLemmas.{last_block-push}
use Rattle.receiver_chain.proofs.Chaining.{spelled_same, spells_of, logs_length, logs_apart, logs_spell, logs_left}

pub held_settled : (chain : ChainState) (disk : Disk) → IsHeld chain disk → IsSettled chain.attached disk
held_settled chain disk some = ∥∥₁_map some (λ has. (has.0.attached.blocks, has.1.leads.log_of.settled))

module _ (first room : ℕ) (logs : List LogState) (log : LogState) (kept : Kept) (disk : Disk) (holds : Holds (record { first = first; earlier = logs; attached = log; room = room }) kept disk) where
  pub count : first + length logs ≡ first + length kept.earlier
  count = omega (arith, logs_length first logs kept.earlier disk holds.leads.logs_of)

  -- no earlier receiver is in the attached one's area
  pub apart : (m : ℕ) → first ≤ m → m < first + length kept.earlier → area_of m ≢ log.area
  apart m le lt same = omega (arith, same, lt, holds.leads.log_of.area, count)

  -- areas that have the earlier receivers, and these blocks in the attached one
  pub chained_with : (c : Areas) (blocks : List (List ℕ)) → ((m : ℕ) → first ≤ m → m < first + length kept.earlier → c (area_of m) ≡ disk.seen (area_of m)) → Spells log.area log.first log.version blocks (c log.area) → EndsInNoLink (first + length logs + 1) blocks
      → AreChained first (record { earlier = kept.earlier; attached = record { first = kept.attached.first; version = kept.attached.version; blocks = blocks } }) c
  chained_with c blocks same spells last = record {
    earlier = spelled_same first kept.earlier disk.seen c (logs_spell first logs kept.earlier disk holds.leads.logs_of) same;
    before = holds.leads.before;
    lead = subst (λ (k : ℕ). LeadTo first (before_first first) kept.earlier k holds.leads.before) count holds.leads.lead;
    follows = holds.leads.follows;
    attached = subst (λ (k : ℕ). Spells (area_of k) kept.attached.first kept.attached.version blocks (c (area_of k))) count
        (spells_of (first + length logs) log kept.attached disk blocks c holds.leads.log_of spells);
    last = subst (λ (k : ℕ). EndsInNoLink (k + 1) blocks) count last;
  }

  -- a stop before a call on the attached receiver's area, after any step in it
  pub earlier_left : (step : List ℕ → List ℕ → Type 0) (c d : Areas) → May disk d → Only log.area step d c → (m : ℕ) → first ≤ m → m < first + length kept.earlier → c (area_of m) ≡ disk.seen (area_of m)
  earlier_left step c d may only m le lt = only.others (area_of m) (apart m le lt) ∙ logs_left first logs kept.earlier disk d holds.leads.logs_of may m le lt

  pub deposit_leads : (block : List ℕ) (new : Disk) (after : LogState) → Does log.area Anything disk new → after.area ≡ log.area → after.first ≡ log.first → after.version ≡ log.version → Settled after (kept.attached.blocks ++ block ∷ []) new
      → LeadsTo first logs (first + length logs) after kept.earlier (with_block block kept.attached) new
  deposit_leads block new after does area head version settled = record {
    logs_of = logs_apart first logs kept.earlier log.area Anything disk new does apart holds.leads.logs_of;
    before = holds.leads.before;
    lead = holds.leads.lead;
    follows = holds.leads.follows;
    log_of = record {
      area = area ∙ holds.leads.log_of.area;
      first = head ∙ holds.leads.log_of.first;
      version = version ∙ holds.leads.log_of.version;
      settled = settled;
    };
  }

  module _ (block : List ℕ) (none : IsNoLink (first + length logs + 1) block) (new : Disk) where
    last_with : EndsInNoLink (first + length logs + 1) (kept.attached.blocks ++ block ∷ [])
    last_with = subst (λ (b : List ℕ). IsNoLink (first + length logs + 1) b) (sym (last_block-push kept.attached.blocks block)) none

    pub deposit_moment : Does log.area (λ _ bytes. IsWithOrWithout log.area log.first log.version kept.attached.blocks block bytes) disk new → Leaves disk new (Rattle.receiver_chain.specs.Chain.IsWithOrWithout first kept block)
    deposit_moment does = record {
      later = does.later;
      images = λ c left.
          let from = does.images c left in
          let same = earlier_left (λ _ bytes. IsWithOrWithout log.area log.first log.version kept.attached.blocks block bytes) c from.0 from.1 from.2 in
          elim from.2.here [
            | inl without ↦ inl (chained_with c kept.attached.blocks same without holds.last)
            | inr with_one ↦ inr (chained_with c (kept.attached.blocks ++ block ∷ []) same with_one last_with)
          ];
    }

    pub deposit_holds : (after : LogState) (less : ℕ) → Does log.area Anything disk new → after.area ≡ log.area → after.first ≡ log.first → after.version ≡ log.version → Settled after (kept.attached.blocks ++ block ∷ []) new
        → Holds (record { first = first; earlier = logs; attached = after; room = less }) (deposited block kept) new
    deposit_holds after less does area head version settled = record { leads = deposit_leads block new after does area head version settled; last = last_with }

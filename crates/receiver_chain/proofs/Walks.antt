-- How far a chain was opened, receiver by receiver.
use Rattle.std.proofs.Common.{◌≡◌, ℕ, ◌+◌, List, [], ◌∷◌, ◌++◌, length, Some, refl, sym, subst}
use Rattle.store_model.specs.Disk.{Areas, Disk, Stays}
use Rattle.store_model.proofs.Runs.{stays_trans}
use Rattle.gated_log.specs.Log.{LogState, Settled, IsSettled, HasBlocks}
use Rattle.receiver_chain.specs.Links.{EndsInLink, EndsInNoLink}
use Rattle.receiver_chain.specs.Receivers.{Receiver, LeadTo, Follows, area_of, before_first, IsReceiverDamagedAt, IsChainDamagedAt}
use Rattle.receiver_chain.specs.Chain.{IsLogOf, LeadsTo, HasKept}
use Rattle.receiver_chain.proofs.Chaining.{leads_further, leads_stay, lead_number, lead-push, spelled_same, spelled-push, spells_of, logs_spell}

-- some receivers lead to this log's
abbrev pub IsLed : ℕ → List LogState → ℕ → LogState → Disk → Type 0
IsLed first logs n log disk = (earlier : List Receiver) × (r : Receiver) × LeadsTo first logs n log earlier r disk

abbrev pub receiver_of : LogState → List (List ℕ) → Receiver
receiver_of log blocks = record { first = log.first; version = log.version; blocks = blocks }

pub led_settled : (first n : ℕ) (logs : List LogState) (log : LogState) (disk : Disk) → IsLed first logs n log disk → IsSettled log disk
led_settled first n logs log disk led = ∣ (led.1.blocks, led.2.log_of.settled) ∣₁

pub log_of : (n : ℕ) (log : LogState) (disk : Disk) (has : HasBlocks log disk) → log.area ≡ area_of n → IsLogOf n log (receiver_of log has.0) disk
log_of n log disk has area = record { area = area; first = refl; version = refl; settled = has.1 }

pub led_begin : (first : ℕ) (log : LogState) (disk : Disk) → HasBlocks log disk → log.area ≡ area_of first → Follows (before_first first) log.first → IsLed first [] first log disk
led_begin first log disk has area follows = ([], receiver_of log has.0, record { logs_of = tt; before = before_first first; lead = (refl, refl); follows = follows; log_of = log_of first log disk has area })

pub led_further : (first n further s : ℕ) (logs pushed : List LogState) (log next : LogState) (old new : Disk)
    → IsLed first logs n log old → Stays old new → ((blocks : List (List ℕ)) → Settled log blocks old → EndsInLink (n + 1) s blocks) → pushed ≡ logs ++ log ∷ [] → further ≡ n + 1
    → HasBlocks next new → next.area ≡ area_of further → Follows (Some s) next.first → IsLed first pushed further next new
led_further first n further s logs pushed log next old new led stays link push is has area follows = (
  led.0 ++ led.1 ∷ [],
  receiver_of next has.0,
  leads_further first logs pushed n further s log next led.0 led.1 (receiver_of next has.0) new (leads_stay first logs n log led.0 led.1 old new stays led.2) (link led.1.blocks led.2.log_of.settled) push is (log_of further next new has area) follows,
)

pub led_holds : (first n : ℕ) (logs : List LogState) (log : LogState) (old new : Disk) → IsLed first logs n log old → Stays old new → n ≡ first + length logs → ((blocks : List (List ℕ)) → Settled log blocks old → EndsInNoLink (n + 1) blocks)
    → HasKept (record { first = first; earlier = logs; attached = log; room = 0 }) new
led_holds first n logs log old new led stays count none = (
  record { earlier = led.0; attached = led.1 },
  record {
    leads = subst (λ (k : ℕ). LeadsTo first logs k log led.0 led.1 new) count (leads_stay first logs n log led.0 led.1 old new stays led.2);
    last = subst (λ (k : ℕ). EndsInNoLink (k + 1) led.1.blocks) count (none led.1.blocks led.2.log_of.settled);
  },
)

-- the damage of the first receiver, and that of one to which others lead
pub first_damaged : (first a at : ℕ) (areas : Areas) → a ≡ area_of first → IsReceiverDamagedAt (area_of first) (before_first first) (areas (area_of first)) at → IsChainDamagedAt first areas a at
first_damaged first a at areas here damaged = record {
  earlier = [];
  number = first;
  before = before_first first;
  spelled = tt;
  lead = (refl, refl);
  here = here;
  damaged = subst (λ (k : ℕ). IsReceiverDamagedAt k (before_first first) (areas k) at) (sym here) damaged;
}

pub led_damaged : (first n further s a at : ℕ) (logs : List LogState) (log : LogState) (begun old new : Disk) → IsLed first logs n log old → Stays begun old → Stays old new
    → ((blocks : List (List ℕ)) → Settled log blocks old → EndsInLink (n + 1) s blocks) → further ≡ n + 1 → a ≡ area_of further
    → IsReceiverDamagedAt (area_of further) (Some s) (new.seen (area_of further)) at → IsChainDamagedAt first begun.seen a at
led_damaged first n further s a at logs log begun old new led before stays link is here damaged =
    let earlier = led.0 ++ led.1 ∷ [] in
    let number = lead_number first (before_first first) led.0 n led.2.before led.2.lead in
    let spelled = spelled-push first led.0 led.1 n old.seen (logs_spell first logs led.0 old led.2.logs_of) number
    (spells_of n log led.1 old led.1.blocks old.seen led.2.log_of led.2.log_of.settled.spells) in
    let lead = lead-push first (before_first first) led.0 n s led.2.before led.1 led.2.lead led.2.follows (link led.1.blocks led.2.log_of.settled) in
    let whole = stays_trans begun old new before stays in
    record {
      earlier = earlier;
      number = further;
      before = Some s;
      spelled = spelled_same first earlier old.seen begun.seen spelled (λ m le lt. sym (before.seen (area_of m)));
      lead = subst (λ (k : ℕ). LeadTo first (before_first first) earlier k (Some s)) (sym is) lead;
      here = here;
      damaged = subst (λ (k : ℕ). IsReceiverDamagedAt k (Some s) (begun.seen k) at) (sym here) (subst (λ (l : List ℕ). IsReceiverDamagedAt (area_of further) (Some s) l at)
          (whole.seen (area_of further)) damaged);
    }

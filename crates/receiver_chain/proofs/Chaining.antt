-- How receivers follow one another, and what the areas of a chain that is held spell.
use Rattle.std.proofs.Common.{◌≡◌, ◌≢◌, inl, inr, ℕ, zero, suc, ◌+◌, ◌≤◌, ◌<◌, List, [], ◌∷◌, ◌++◌, length, get_or, Option, Some, refl, sym, ◌∙◌, ap, subst, arith}
use Rattle.std.proofs.lemmas.Bool.{cases_eq}
use Rattle.store_model.specs.Disk.{Areas, Disk, May, Does, Stays}
use Rattle.gated_log.specs.Blocks.{Spells}
use Rattle.gated_log.specs.Log.{LogState}
use Rattle.gated_log.proofs.Kept.{settled_stays, settled_apart}
use Rattle.receiver_chain.specs.Links.{EndsInLink}
use Rattle.receiver_chain.specs.Receivers.{Receiver, LeadTo, Follows, AreSpelled, area_of, before_first}
use Rattle.receiver_chain.specs.Chain.{IsLogOf, AreLogsOf, LeadsTo}

-- ---- receivers

pub lead-push : (n : ℕ) (before : Option ℕ) (rs : List Receiver) (m s : ℕ) (last : Option ℕ) (r : Receiver) → LeadTo n before rs m last → Follows last r.first → EndsInLink (m + 1) s r.blocks → LeadTo n before (rs ++ r ∷ []) (m + 1) (Some s)
lead-push n before [] m s last r lead follows link = (subst (λ (o : Option ℕ). Follows o r.first) lead.1 follows, s, subst (λ (k : ℕ). EndsInLink (k + 1) s r.blocks) lead.0 link, (ap (λ (k : ℕ). k + 1) lead.0, refl))
lead-push n before (first ∷ rs) m s last r lead follows link = (lead.0, lead.1, lead.2, lead-push (n + 1) (Some lead.1) rs m s last r lead.3 follows link)

pub lead_number : (n : ℕ) (before : Option ℕ) (rs : List Receiver) (m : ℕ) (last : Option ℕ) → LeadTo n before rs m last → m ≡ n + length rs
lead_number n before [] m last lead = omega (arith, lead.0)
lead_number n before (r ∷ rs) m last lead = omega (arith, lead_number (n + 1) (Some lead.1) rs m last lead.3)

-- areas that are the same from n on, as far as these receivers go
pub spelled_same : (n : ℕ) (rs : List Receiver) (a b : Areas) → AreSpelled n rs a → ((m : ℕ) → n ≤ m → m < n + length rs → b (area_of m) ≡ a (area_of m)) → AreSpelled n rs b
spelled_same n [] a b spelled same = tt
spelled_same n (r ∷ rs) a b spelled same = (
  subst (λ (l : List ℕ). Spells (area_of n) r.first r.version r.blocks l) (sym (same n (omega arith) (omega arith))) spelled.0,
  spelled_same (n + 1) rs a b spelled.1 (λ m le lt. same m (omega (arith, le)) (omega (arith, lt))),
)

pub spelled-push : (n : ℕ) (rs : List Receiver) (r : Receiver) (m : ℕ) (areas : Areas) → AreSpelled n rs areas → m ≡ n + length rs → Spells (area_of m) r.first r.version r.blocks (areas (area_of m)) → AreSpelled n (rs ++ r ∷ []) areas
spelled-push n [] r m areas spelled is last =
    let here : m ≡ n = omega (arith, is) in
    (subst (λ (k : ℕ). Spells (area_of k) r.first r.version r.blocks (areas (area_of k))) here last, tt)
spelled-push n (first ∷ rs) r m areas spelled is last = (spelled.0, spelled-push (n + 1) rs r m areas spelled.1 (omega (arith, is)) last)

-- ---- logs

-- what the log's area spells is the receiver's
pub spells_of : (n : ℕ) (log : LogState) (r : Receiver) (disk : Disk) (blocks : List (List ℕ)) (areas : Areas) → IsLogOf n log r disk → Spells log.area log.first log.version blocks (areas log.area) → Spells (area_of n) r.first r.version blocks (areas (area_of n))
spells_of n log r disk blocks areas is spells =
    subst (λ (a : ℕ). Spells a r.first r.version blocks (areas a)) is.area
    (subst (λ (f : ℕ). Spells log.area f r.version blocks (areas log.area)) is.first
    (subst (λ (v : ℕ). Spells log.area log.first v blocks (areas log.area)) is.version spells))

pub log_stays : (n : ℕ) (log : LogState) (r : Receiver) (old new : Disk) → Stays old new → IsLogOf n log r old → IsLogOf n log r new
log_stays n log r old new stays is = record { area = is.area; first = is.first; version = is.version; settled = settled_stays log r.blocks old new stays is.settled }

pub log_apart : (n : ℕ) (log : LogState) (r : Receiver) (area : ℕ) (step : List ℕ → List ℕ → Type 0) (old new : Disk) → Does area step old new → area_of n ≢ area → IsLogOf n log r old → IsLogOf n log r new
log_apart n log r area step old new does other is = record {
  area = is.area;
  first = is.first;
  version = is.version;
  settled = settled_apart log r.blocks area step old new does (λ same. other (sym is.area ∙ same)) is.settled;
}

pub logs_length : (n : ℕ) (logs : List LogState) (rs : List Receiver) (disk : Disk) → AreLogsOf n logs rs disk → length logs ≡ length rs
logs_length n [] [] disk are = refl
logs_length n [] (r ∷ rs) disk are = absurd are
logs_length n (log ∷ logs) [] disk are = absurd are
logs_length n (log ∷ logs) (r ∷ rs) disk are = omega (arith, logs_length (n + 1) logs rs disk are.1)

pub logs-push : (n : ℕ) (logs : List LogState) (rs : List Receiver) (disk : Disk) (m : ℕ) (log : LogState) (r : Receiver) → AreLogsOf n logs rs disk → m ≡ n + length rs → IsLogOf m log r disk → AreLogsOf n (logs ++ log ∷ []) (rs ++ r ∷ []) disk
logs-push n [] [] disk m log r are is last =
    let here : m ≡ n = omega (arith, is) in
    (subst (λ (k : ℕ). IsLogOf k log r disk) here last, tt)
logs-push n [] (x ∷ rs) disk m log r are is last = absurd are
logs-push n (x ∷ logs) [] disk m log r are is last = absurd are
logs-push n (x ∷ logs) (y ∷ rs) disk m log r are is last = (are.0, logs-push (n + 1) logs rs disk m log r are.1 (omega (arith, is)) last)

pub logs_stay : (n : ℕ) (logs : List LogState) (rs : List Receiver) (old new : Disk) → Stays old new → AreLogsOf n logs rs old → AreLogsOf n logs rs new
logs_stay n [] [] old new stays are = tt
logs_stay n [] (r ∷ rs) old new stays are = absurd are
logs_stay n (log ∷ logs) [] old new stays are = absurd are
logs_stay n (log ∷ logs) (r ∷ rs) old new stays are = (log_stays n log r old new stays are.0, logs_stay (n + 1) logs rs old new stays are.1)

-- a call on an area of none of them
pub logs_apart : (n : ℕ) (logs : List LogState) (rs : List Receiver) (area : ℕ) (step : List ℕ → List ℕ → Type 0) (old new : Disk) → Does area step old new → ((m : ℕ) → n ≤ m → m < n + length rs → area_of m ≢ area) → AreLogsOf n logs rs old → AreLogsOf n logs rs new
logs_apart n [] [] area step old new does other are = tt
logs_apart n [] (r ∷ rs) area step old new does other are = absurd are
logs_apart n (log ∷ logs) [] area step old new does other are = absurd are
logs_apart n (log ∷ logs) (r ∷ rs) area step old new does other are = (
  log_apart n log r area step old new does (other n (omega arith) (omega arith)) are.0,
  logs_apart (n + 1) logs rs area step old new does (λ m le lt. other m (omega (arith, le)) (omega (arith, lt))) are.1,
)

-- what a read gives of them
pub logs_spell : (n : ℕ) (logs : List LogState) (rs : List Receiver) (disk : Disk) → AreLogsOf n logs rs disk → AreSpelled n rs disk.seen
logs_spell n [] [] disk are = tt
logs_spell n [] (r ∷ rs) disk are = absurd are
logs_spell n (log ∷ logs) [] disk are = absurd are
logs_spell n (log ∷ logs) (r ∷ rs) disk are = (spells_of n log r disk r.blocks disk.seen are.0 are.0.settled.spells, logs_spell (n + 1) logs rs disk are.1)

-- a stop leaves of each area what a read gives
pub log_left : (n : ℕ) (log : LogState) (r : Receiver) (disk : Disk) (c : Areas) → IsLogOf n log r disk → May disk c → c (area_of n) ≡ disk.seen (area_of n)
log_left n log r disk c is may = subst (λ (a : ℕ). c a ≡ disk.seen a) is.area (is.settled.durable c may)

pub logs_left : (n : ℕ) (logs : List LogState) (rs : List Receiver) (disk : Disk) (c : Areas) → AreLogsOf n logs rs disk → May disk c → (m : ℕ) → n ≤ m → m < n + length rs → c (area_of m) ≡ disk.seen (area_of m)
logs_left n [] [] disk c are may m le lt = absurd (omega (arith, le, lt))
logs_left n [] (r ∷ rs) disk c are may m le lt = absurd are
logs_left n (log ∷ logs) [] disk c are may m le lt = absurd are
logs_left n (log ∷ logs) (r ∷ rs) disk c are may m le lt = elim (cases_eq n m) [
  | inl same ↦ subst (λ (k : ℕ). c (area_of k) ≡ disk.seen (area_of k)) same (log_left n log r disk c are.0 may)
  | inr other ↦ logs_left (n + 1) logs rs disk c are.1 may m (omega (arith, le, other)) (omega (arith, lt))
]

-- the kth of them
pub log_at : (n : ℕ) (logs : List LogState) (rs : List Receiver) (disk : Disk) (k : ℕ) (last : LogState) (r : Receiver) → AreLogsOf n logs rs disk → k < length rs → IsLogOf (n + k) (get_or logs k last) (get_or rs k r) disk
log_at n [] [] disk k last r are lt = absurd (omega (arith, lt))
log_at n [] (x ∷ rs) disk k last r are lt = absurd are
log_at n (x ∷ logs) [] disk k last r are lt = absurd are
log_at n (x ∷ logs) (y ∷ rs) disk zero last r are lt = subst (λ (m : ℕ). IsLogOf m x y disk) (omega arith) are.0
log_at n (x ∷ logs) (y ∷ rs) disk (suc k) last r are lt = subst (λ (m : ℕ). IsLogOf m (get_or logs k last) (get_or rs k r) disk) (omega arith) (log_at (n + 1) logs rs disk k last r are.1 (omega (arith, lt)))

-- one receiver more, to which the last one before it is tied
pub leads_further : (first : ℕ) (logs pushed : List LogState) (n further s : ℕ) (log next : LogState) (earlier : List Receiver) (r other : Receiver) (disk : Disk)
    → LeadsTo first logs n log earlier r disk → EndsInLink (n + 1) s r.blocks → pushed ≡ logs ++ log ∷ [] → further ≡ n + 1 → IsLogOf further next other disk → Follows (Some s) other.first
    → LeadsTo first pushed further next (earlier ++ r ∷ []) other disk
leads_further first logs pushed n further s log next earlier r other disk leads link push is there follows =
    let count : n ≡ first + length earlier = lead_number first (before_first first) earlier n leads.before leads.lead in
    record {
      logs_of = subst (λ (l : List LogState). AreLogsOf first l (earlier ++ r ∷ []) disk) (sym push) (logs-push first logs earlier disk n log r leads.logs_of count leads.log_of);
      before = Some s;
      lead = subst (λ (k : ℕ). LeadTo first (before_first first) (earlier ++ r ∷ []) k (Some s)) (sym is)
          (lead-push first (before_first first) earlier n s leads.before r leads.lead leads.follows link);
      follows = follows;
      log_of = there;
    }

pub leads_stay : (first : ℕ) (logs : List LogState) (n : ℕ) (log : LogState) (earlier : List Receiver) (r : Receiver) (old new : Disk) → Stays old new → LeadsTo first logs n log earlier r old → LeadsTo first logs n log earlier r new
leads_stay first logs n log earlier r old new stays leads = record {
  logs_of = logs_stay first logs earlier old new stays leads.logs_of;
  before = leads.before;
  lead = leads.lead;
  follows = leads.follows;
  log_of = log_stays n log r old new stays leads.log_of;
}

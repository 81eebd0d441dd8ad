-- What giving up the first receivers leaves.
use Rattle.std.proofs.Common.{◌≡◌, inl, inr, ℕ, zero, suc, ◌+◌, ◌-◌, ◌≤◌, ◌<◌, List, [], ◌∷◌, length, drop, Option, Some, None, refl, sym, ◌∙◌, subst, arith, length-drop, ne_eqb}
use Rattle.std.proofs.lemmas.Bool.{cases_eq}
use Rattle.std.proofs.lemmas.List.{drop-drop, take_all}
use Rattle.store_model.specs.Disk.{Areas, Disk, Cut, Does, Leaves, Only}
use Rattle.store_model.proofs.Runs.{leaves_does, leaves_less, leaves_then, leaves_now, leaves_stays}
use Rattle.gated_log.specs.Log.{LogState}
use Rattle.receiver_chain.specs.Receivers.{Receiver, Kept, LeadTo, Follows, AreChained, IsCutOf, area_of, before_first, dropped}
use Rattle.receiver_chain.specs.Chain.{ChainState, LeadsTo, Holds, attached_of}
use Rattle.receiver_chain.proofs.Chaining.{logs_length, logs_left}
use Rattle.receiver_chain.proofs.Kept.{holds_apart}
use Rattle.receiver_chain.proofs.Switches.{chained_same, stays_here}

-- ---- the chain

before_later : (first : ℕ) → 1 ≤ first → before_first (first + 1) ≡ None
before_later first least = rw (ne_eqb (first + 1) 1 (λ e. absurd (omega (arith, e, least)))) refl

-- the sequence before the first one need not be known
lead_forget : (n s : ℕ) (rs : List Receiver) (m : ℕ) (last : Option ℕ) (f : ℕ) → LeadTo n (Some s) rs m last → Follows last f → (other : Option ℕ) × LeadTo n None rs m other × Follows other f
lead_forget n s [] m last f lead follows = (None, (lead.0, refl), tt)
lead_forget n s (r ∷ rs) m last f lead follows = (last, (tt, lead.1, lead.2, lead.3), follows)

leads_drop : (first n : ℕ) (logs : List LogState) (log : LogState) (earlier : List Receiver) (r : Receiver) (disk : Disk) → 1 ≤ first → 0 < length logs → LeadsTo first logs n log earlier r disk → LeadsTo (first + 1) (drop 1 logs) n log (drop 1 earlier) r disk
leads_drop first n [] log earlier r disk least some leads = absurd (omega (arith, some))
leads_drop first n (x ∷ logs) log [] r disk least some leads = absurd leads.logs_of
leads_drop first n (x ∷ logs) log (y ∷ rs) r disk least some leads =
    let other = lead_forget (first + 1) leads.lead.1 rs n leads.before r.first leads.lead.3 leads.follows in
    record {
      logs_of = leads.logs_of.1;
      before = other.0;
      lead = subst (λ (o : Option ℕ). LeadTo (first + 1) o rs n other.0) (sym (before_later first least)) other.1;
      follows = other.2;
      log_of = leads.log_of;
    }

pub drop_holds : (first room : ℕ) (logs : List LogState) (log : LogState) (kept : Kept) (disk : Disk) → 1 ≤ first → 0 < length logs → Holds (record { first = first; earlier = logs; attached = log; room = room }) kept disk
    → Holds (record { first = first + 1; earlier = drop 1 logs; attached = log; room = room }) (dropped 1 kept) disk
drop_holds first room logs log kept disk least some holds =
    let same : first + length logs ≡ (first + 1) + length (drop 1 logs) = omega (arith, length-drop 1 logs, some) in
    record {
      leads = subst (λ (k : ℕ). LeadsTo (first + 1) (drop 1 logs) k log (drop 1 kept.earlier) kept.attached disk) same
          (leads_drop first (first + length logs) logs log kept.earlier kept.attached disk least some holds.leads);
      last = subst (λ (k : ℕ). Rattle.receiver_chain.specs.Links.EndsInNoLink (k + 1) kept.attached.blocks) same holds.last;
    }

-- the same after a call on the area of the receiver that was given up
pub drop_cut_holds : (first room : ℕ) (logs : List LogState) (log : LogState) (kept : Kept) (old new : Disk) → 1 ≤ first → 0 < length logs → Does (area_of first) (Cut 0) old new → Holds (record { first = first; earlier = logs; attached = log; room = room }) kept old
    → Holds (record { first = first + 1; earlier = drop 1 logs; attached = log; room = room }) (dropped 1 kept) new
drop_cut_holds first room logs log kept old new least some does holds =
    holds_apart (record { first = first + 1; earlier = drop 1 logs; attached = log; room = room }) (dropped 1 kept) (area_of first) (Cut 0) old new does
    (λ m le lt same. omega (arith, le, same)) (drop_holds first room logs log kept old least some holds)

drop_more : {A : Type 0} (k : ℕ) (xs : List A) → drop 1 (drop k xs) ≡ drop (k + 1) xs
drop_more k xs = drop-drop 1 k xs

-- so many of them
pub drops_hold : (k first room : ℕ) (logs : List LogState) (log : LogState) (kept : Kept) (disk : Disk) → 1 ≤ first → k ≤ length logs → Holds (record { first = first; earlier = logs; attached = log; room = room }) kept disk
    → Holds (record { first = first + k; earlier = drop k logs; attached = log; room = room }) (dropped k kept) disk
drops_hold zero first room logs log kept disk least some holds = subst (λ (n : ℕ). Holds (record { first = n; earlier = logs; attached = log; room = room }) kept disk) (omega arith) holds
drops_hold (suc k) first room logs log kept disk least some holds =
    let here = drop_holds (first + k) room (drop k logs) log (dropped k kept) disk (omega (arith, least)) (omega (arith, length-drop k logs, some))
    (drops_hold k first room logs log kept disk least (omega (arith, some)) holds) in
    let next : (first + k) + 1 ≡ first + suc k = omega arith in
    let more : k + 1 ≡ suc k = omega arith in
    subst (λ (n : ℕ). Holds (record { first = n; earlier = drop (suc k) logs; attached = log; room = room }) (dropped (suc k) kept) disk) next
    (subst (λ (n : ℕ). Holds (record { first = (first + k) + 1; earlier = drop n logs; attached = log; room = room }) (dropped n kept) disk) more
    (subst (λ (l : List LogState). Holds (record { first = (first + k) + 1; earlier = l; attached = log; room = room }) (dropped (k + 1) kept) disk) (drop_more k logs)
    (subst (λ (l : List Receiver). Holds (record { first = (first + k) + 1; earlier = drop 1 (drop k logs); attached = log; room = room }) (record { earlier = l; attached = kept.attached })
    disk) (drop_more k kept.earlier) here)))

-- one more, after some
pub dropped_further : (chain : ChainState) (kept : Kept) (disk : Disk) (k : ℕ) → Holds chain (dropped 1 (dropped k kept)) disk → Holds chain (dropped (k + 1) kept) disk
dropped_further chain kept disk k holds = subst (λ (l : List Receiver). Holds chain (record { earlier = l; attached = kept.attached }) disk) (drop_more k kept.earlier) holds

-- ---- the areas

uncut : (bytes : List ℕ) → Cut 0 bytes bytes
uncut bytes = record { no_shorter = omega arith; front = take_all (length bytes) bytes (omega arith) }

pub cut_none : (disk : Disk) (first : ℕ) → Leaves disk disk (IsCutOf disk first first)
cut_none disk first = leaves_stays disk disk (IsCutOf disk first first) (stays_here disk) (λ c may. (c, may, record { cut = λ m le lt. absurd (omega (arith, le, lt)); others = λ area other. refl }))

wider : (disk : Disk) (first n : ℕ) (c : Areas) → first ≤ n → IsCutOf disk first n c → IsCutOf disk first (n + 1) c
wider disk first n c le (d, may, cuts) = (
  d,
  may,
  record {
    cut = λ m from upto. elim (cases_eq m n) [
      | inl same ↦ subst (λ (l : List ℕ). Cut 0 (d (area_of m)) l) (sym (cuts.others (area_of m) (λ k low high is. omega (arith, same, high, is)))) (uncut (d (area_of m)))
      | inr before ↦ cuts.cut m from (omega (arith, upto, before))
    ];
    others = λ area other. cuts.others area (λ k low high. other k low (omega (arith, high)));
  },
)

cut_last : (disk mid : Disk) (first n : ℕ) (d c : Areas) → first ≤ n → IsCutOf disk first n d → Only (area_of n) (Cut 0) d c → IsCutOf disk first (n + 1) c
cut_last disk mid first n d c le (b, may, cuts) only = (
  b,
  may,
  record {
    cut = λ m from upto. elim (cases_eq m n) [
      | inl same ↦
          subst (λ (k : ℕ). Cut 0 (b (area_of k)) (c (area_of k))) (sym same)
          (subst (λ (l : List ℕ). Cut 0 l (c (area_of n))) (cuts.others (area_of n) (λ k low high is. omega (arith, high, is))) only.here)
      | inr before ↦
          subst (λ (l : List ℕ). Cut 0 (b (area_of m)) l) (sym (only.others (area_of m) (λ is. before (omega (arith, is))))) (cuts.cut m from (omega (arith, upto, before)))
    ];
    others = λ area other. only.others area (other n le (omega arith)) ∙ cuts.others area (λ k low high. other k low (omega (arith, high)));
  },
)

pub cut_more : (begun old new : Disk) (first n : ℕ) → first ≤ n → Leaves begun old (IsCutOf begun first n) → Does (area_of n) (Cut 0) old new → Leaves begun new (IsCutOf begun first (n + 1))
cut_more begun old new first n le before does =
    leaves_then begun old new (IsCutOf begun first (n + 1)) (leaves_less begun old (IsCutOf begun first n) (IsCutOf begun first (n + 1)) before (λ c cut. wider begun first n c le cut))
    (leaves_does (area_of n) (Cut 0) old new (IsCutOf begun first (n + 1)) does (λ d c may only. cut_last begun old first n d c le (leaves_now begun old (IsCutOf begun first n) before d may) only))

-- up to one that comes later
pub cut_upto : (begun new : Disk) (first n m : ℕ) → first ≤ n → n ≤ m → Leaves begun new (IsCutOf begun first n) → Leaves begun new (IsCutOf begun first m)
cut_upto begun new first n m le upto leaves = leaves_less begun new (IsCutOf begun first n) (IsCutOf begun first m) leaves (λ c cut. subst (λ (k : ℕ). IsCutOf begun first k c) (omega (arith, upto)) (wider_by (m - n) begun first n c le cut))
  where
    wider_by : (k : ℕ) (disk : Disk) (first n : ℕ) (c : Areas) → first ≤ n → IsCutOf disk first n c → IsCutOf disk first (n + k) c
    wider_by zero disk first n c le cut = subst (λ (j : ℕ). IsCutOf disk first j c) (omega arith) cut
    wider_by (suc k) disk first n c le cut = subst (λ (j : ℕ). IsCutOf disk first j c) (omega arith) (wider disk first (n + k) c (omega (arith, le)) (wider_by k disk first n c le cut))

-- what is left has the receivers that are kept
pub cut_chained : (first room k : ℕ) (logs : List LogState) (log : LogState) (kept : Kept) (disk : Disk) (c : Areas) → 1 ≤ first → k ≤ length logs → Holds (record { first = first; earlier = logs; attached = log; room = room }) kept disk → IsCutOf disk first (first + k) c → AreChained (first + k) (dropped k kept) c
cut_chained first room k logs log kept disk c least some holds (d, may, cuts) =
    let rest = drops_hold k first room logs log kept disk least some holds in
    let sizes = logs_length first logs kept.earlier disk holds.leads.logs_of in
    let same : (m : ℕ) → first + k ≤ m → c (area_of m) ≡ d (area_of m) = λ m from. cuts.others (area_of m) (λ j low high is. omega (arith, from, high, is)) in
    chained_same (first + k) room (drop k logs) log (dropped k kept) disk rest c
    (λ m le lt. same m le ∙ logs_left (first + k) (drop k logs) (drop k kept.earlier) disk d rest.leads.logs_of may m le lt)
    (cuts.others log.area (λ j low high is. omega (arith, is, holds.leads.log_of.area, high, some)) ∙ holds.leads.log_of.settled.durable d may)

pub kept_leaves : (chain : ChainState) (kept : Kept) (receiver : ℕ) (old new : Disk) → 1 ≤ chain.first → chain.first ≤ receiver → receiver < attached_of chain → Holds chain kept old → Leaves old new (IsCutOf old chain.first (receiver + 1))
    → Leaves old new (AreChained (receiver + 1) (dropped (receiver + 1 - chain.first) kept))
kept_leaves chain kept receiver old new least from below holds leaves =
    let k = receiver + 1 - chain.first in
    let is : receiver + 1 ≡ chain.first + k = omega (arith, from) in
    leaves_less old new (IsCutOf old chain.first (receiver + 1)) (AreChained (receiver + 1) (dropped k kept)) leaves
    (λ c cut. subst (λ (n : ℕ). AreChained n (dropped k kept) c) (sym is) (cut_chained chain.first chain.room k chain.earlier chain.attached kept old c least (omega (arith, from, below))
    holds (subst (λ (n : ℕ). IsCutOf old chain.first n c) is cut)))

-- What the steps of a switch to the next receiver leave.
use Rattle.std.proofs.Common.{◌≡◌, ◌≢◌, ◌⊎◌, inl, inr, ℕ, ◌+◌, ◌^◌, ◌≤◌, ◌<◌, List, [], ◌∷◌, ◌++◌, length, take, drop, Some, refl, sym, ◌∙◌, ap, subst, arith, length-append, append_assoc}
use Rattle.std.proofs.lemmas.List.{map-append}
use Rattle.byteorder.specs.Endian.{big_number}
use Rattle.byteorder.specs.Numbers.{big_number-reads_back}
use Rattle.store_model.specs.Disk.{Areas, Disk, May, Does, Stays, Leaves}
use Rattle.store_model.proofs.Runs.{leaves_does, leaves_less, leaves_then, leaves_stays}
use Rattle.entry_codec.specs.declared.entries.Entry.{Entry}
use Rattle.entry_codec.specs.declared.kinds.EntryKind.{EntryKind}
use Rattle.entry_codec.specs.declared.kinds.EntryKind.TheVariants.{NextReceiver, PreviousReceiver}
use Rattle.entry_codec.specs.Spelling.{number4, number8, body, spelling}
use Rattle.entry_codec.proofs.FieldLemmas.{length-number4}
use Rattle.entry_codec.proofs.Lengths.{length-content, length-spelling}
use Rattle.gated_log.specs.Blocks.{Spells, block_bytes, frame}
use Rattle.gated_log.specs.Log.{LogState, Settled, IsWithOrWithout, Anything}
use Rattle.gated_log.proofs.Numbers.{length-frame}
use Rattle.gated_log.proofs.Kept.{settled_same, settled_apart}
use Rattle.receiver_chain.specs.declared.numbers.TheConstants.{VERSION}
use Rattle.receiver_chain.specs.Links.{IsLink, IsNoLink, IsStart, EndsInLink}
use Rattle.receiver_chain.specs.Receivers.{Kept, LeadTo, area_of, attached_number, before_first, switched, with_block, AreChained}
use Rattle.receiver_chain.specs.Chain.{ChainState, IsLogOf, AreLogsOf, LeadsTo, Holds, IsSwitch, IsSwitching, attached_of, firsts, lengths_in}
use Rattle.receiver_chain.proofs.LinkLemmas.{last_block-push, no_bytes}
use Rattle.receiver_chain.proofs.Chaining.{lead-push, spelled_same, spelled-push, spells_of, logs_apart, log_apart, logs_spell, logs_left, leads_further}
use Rattle.receiver_chain.proofs.Deposits.{count, chained_with, earlier_left, deposit_leads, deposit_moment}

-- ---- the two blocks

pub sequence_back : (e : Entry) → e.sequence < 2 ^ 64 → big_number 8 (take 8 (drop 8 (frame (spelling e)))) ≡ e.sequence
unfolding block_bytes number4 number8
sequence_back e fits = big_number-reads_back 8 e.sequence [] fits

pub start_sequence : (attached : ℕ) (nr pr : List ℕ) (blocks : IsSwitch attached nr pr) → big_number 8 (take 8 (drop 8 pr)) ≡ blocks.before + 1
start_sequence attached nr pr blocks =
    ap (λ (l : List ℕ). big_number 8 (take 8 (drop 8 l))) (blocks.framed_beginning ∙ ap (λ (b : List ℕ). frame b) blocks.start.whole) ∙ sequence_back blocks.start.entry blocks.start.spelled.is.head.sequence ∙ blocks.start.sequence

number_length : (kind : EntryKind) (n : ℕ) → (kind ≡ NextReceiver n) ⊎ (kind ≡ PreviousReceiver n) → length (body kind) ≡ 4
number_length kind n (inl is) = ap (λ (k : EntryKind). length (body k)) is ∙ length-number4 n
number_length kind n (inr is) = ap (λ (k : EntryKind). length (body k)) is ∙ length-number4 n

pub link_length : (next before : ℕ) (block : List ℕ) → IsLink next before block → length (frame block) ≡ 58
link_length next before block link =
    omega (arith, length-frame block, ap length link.whole, length-spelling link.entry, length-content link.entry, number_length link.entry.kind next (inl link.names))

pub start_length : (previous first : ℕ) (block : List ℕ) → IsStart previous first block → length (frame block) ≡ 58
start_length previous first block start =
    omega (arith, length-frame block, ap length start.whole, length-spelling start.entry, length-content start.entry, number_length start.entry.kind previous (inr start.names))

-- ---- no call

pub stays_here : (disk : Disk) → Stays disk disk
stays_here disk = record {
  later = record { moment = omega arith; faults = omega arith; parts = λ t c le left. inl left; keeps = λ t c le left. left };
  seen = λ area. refl;
  images = λ c left. left;
}

module _ (first room : ℕ) (logs : List LogState) (log : LogState) (kept : Kept) (disk : Disk) (holds : Holds (record { first = first; earlier = logs; attached = log; room = room }) kept disk) where
  -- any areas that have the kept ones as a read gives them
  pub chained_same : (c : Areas) → ((m : ℕ) → first ≤ m → m < first + length kept.earlier → c (area_of m) ≡ disk.seen (area_of m)) → c log.area ≡ disk.seen log.area → AreChained first kept c
  chained_same c same here = chained_with first room logs log kept disk holds c kept.attached.blocks same (subst (λ (l : List ℕ). Spells log.area log.first log.version kept.attached.blocks l) (sym here) holds.leads.log_of.settled.spells) holds.last

  pub chained_left : (c : Areas) → May disk c → AreChained first kept c
  chained_left c may = chained_same c (logs_left first logs kept.earlier disk c holds.leads.logs_of may) (holds.leads.log_of.settled.durable c may)

  -- where no call is made
  pub none_chained : Leaves disk disk (λ c. AreChained first kept c)
  none_chained = leaves_stays disk disk (λ c. AreChained first kept c) (stays_here disk) chained_left

  module _ (area : ℕ) (is : area ≡ area_of (first + length logs + 1)) where
    pub next_apart : (m : ℕ) → m < first + length kept.earlier → area_of m ≢ area
    next_apart m lt same = omega (arith, same, lt, is, count first room logs log kept disk holds)

    pub log_not_next : log.area ≢ area
    log_not_next same = omega (arith, same, is, holds.leads.log_of.area)

    -- a call in the next receiver's area leaves the chain
    pub next_moment : (step : List ℕ → List ℕ → Type 0) (new : Disk) → Does area step disk new → Leaves disk new (λ c. AreChained first kept c)
    next_moment step new does =
        leaves_does area step disk new (λ c. AreChained first kept c) does
        (λ d c may only. chained_same c (λ m le lt. only.others (area_of m) (next_apart m lt) ∙ logs_left first logs kept.earlier disk d holds.leads.logs_of may m le lt) (only.others log.area log_not_next ∙ holds.leads.log_of.settled.durable d may))

    pub next_holds : (step : List ℕ → List ℕ → Type 0) (new : Disk) → Does area step disk new → Holds (record { first = first; earlier = logs; attached = log; room = room }) kept new
    next_holds step new does = record {
      leads = record {
        logs_of = logs_apart first logs kept.earlier area step disk new does (λ m le lt. next_apart m lt) holds.leads.logs_of;
        before = holds.leads.before;
        lead = holds.leads.lead;
        follows = holds.leads.follows;
        log_of = log_apart (first + length logs) log kept.attached area step disk new does (λ same. log_not_next (holds.leads.log_of.area ∙ same)) holds.leads.log_of;
      };
      last = holds.last;
    }

  -- the attached receiver is ended while the next one, which is empty, stands
  module _ (ending : List ℕ) (before : ℕ) (link : IsLink (first + length logs + 1) before ending) (next : LogState) (area : next.area ≡ area_of (first + length logs + 1)) (begins : next.first ≡ before + 1) (version : next.version ≡ VERSION) where
    ends : EndsInLink (first + length logs + 1) before (kept.attached.blocks ++ ending ∷ [])
    ends = subst (λ (b : List ℕ). IsLink (first + length logs + 1) before b) (sym (last_block-push kept.attached.blocks ending)) link

    pub ended_chained : (c : Areas) → ((m : ℕ) → first ≤ m → m < first + length kept.earlier → c (area_of m) ≡ disk.seen (area_of m)) → Spells log.area log.first log.version (kept.attached.blocks ++ ending ∷ []) (c log.area) → Spells next.area next.first next.version [] (c next.area)
        → AreChained first (switched ending (before + 1) kept) c
    ended_chained c same spells empty =
        let n = first + length logs in
        let m = first + length kept.earlier in
        let here : n ≡ m = count first room logs log kept disk holds in
        let there : n + 1 ≡ attached_number first (switched ending (before + 1) kept) = omega (arith, here, length-append kept.earlier (with_block ending kept.attached ∷ [])) in
        let whole = spells_of n log kept.attached disk (kept.attached.blocks ++ ending ∷ []) c holds.leads.log_of spells in
        record {
          earlier = spelled-push first kept.earlier (with_block ending kept.attached) n c (spelled_same first kept.earlier disk.seen c (logs_spell first logs kept.earlier disk holds.leads.logs_of) same) here whole;
          before = Some before;
          lead = subst (λ (k : ℕ). LeadTo first (before_first first) (kept.earlier ++ with_block ending kept.attached ∷ []) k (Some before)) there
              (lead-push first (before_first first) kept.earlier n before holds.leads.before (with_block ending kept.attached) holds.leads.lead holds.leads.follows ends);
          follows = refl;
          attached = subst (λ (k : ℕ). Spells (area_of k) (before + 1) VERSION [] (c (area_of k))) there
              (subst (λ (a : ℕ). Spells a (before + 1) VERSION [] (c a)) area (subst (λ (f : ℕ). Spells next.area f VERSION [] (c next.area)) begins (subst (λ (v : ℕ). Spells next.area next.first v [] (c next.area)) version empty)));
          last = no_bytes _;
        }

    module _ (empty : Settled next [] disk) (new : Disk) where
      pub ended_moment : Does log.area (λ _ bytes. IsWithOrWithout log.area log.first log.version kept.attached.blocks ending bytes) disk new → Leaves disk new (λ c. AreChained first kept c ⊎ AreChained first (switched ending (before + 1) kept) c)
      ended_moment does =
          let step : List ℕ → List ℕ → Type 0 = λ _ bytes. IsWithOrWithout log.area log.first log.version kept.attached.blocks ending bytes in
          leaves_does log.area step disk new (λ c. AreChained first kept c ⊎ AreChained first (switched ending (before + 1) kept) c) does
          (λ d c may only.
          let same = earlier_left first room logs log kept disk holds step c d may only in
          let untouched : c next.area ≡ disk.seen next.area = only.others next.area (λ is. log_not_next next.area area (sym is)) ∙ empty.durable d may in
          elim only.here [
            | inl without ↦ inl (chained_with first room logs log kept disk holds c kept.attached.blocks same without holds.last)
            | inr with_one ↦ inr (ended_chained c same with_one (subst (λ (l : List ℕ). Spells next.area next.first next.version [] l) (sym untouched) empty.spells))
          ])

      pub ended_holds : (pushed : List LogState) (after : LogState) (less : ℕ) → Does log.area Anything disk new → after.area ≡ log.area → after.first ≡ log.first → after.version ≡ log.version → Settled after (kept.attached.blocks ++ ending ∷ []) new → pushed ≡ logs ++ after ∷ []
          → Holds (record { first = first; earlier = pushed; attached = next; room = less }) (switched ending (before + 1) kept) new
      ended_holds pushed after less does same head kind settled push =
          let n = first + length logs in
          let there : n + 1 ≡ first + length pushed = omega (arith, ap length push, length-append logs (after ∷ [])) in
          let log_is : IsLogOf (n + 1) next (record { first = before + 1; version = VERSION; blocks = [] }) new =
          record { area = area; first = begins; version = version; settled = settled_apart next [] log.area Anything disk new does (λ is. log_not_next next.area area (sym is)) empty } in
          record {
            leads = subst (λ (k : ℕ). LeadsTo first pushed k next (kept.earlier ++ with_block ending kept.attached ∷ []) (record { first = before + 1; version = VERSION; blocks = [] }) new) there
                (leads_further first logs pushed n (n + 1) before after next kept.earlier (with_block ending kept.attached) (record { first = before + 1; version = VERSION; blocks = [] }) new
                (deposit_leads first room logs log kept disk holds ending new after does same head kind settled) ends push refl log_is refl);
            last = no_bytes _;
          }

-- the same log with other room
pub reserved_holds : (first room : ℕ) (logs same : List LogState) (log more : LogState) (kept : Kept) (disk : Disk) → Holds (record { first = first; earlier = logs; attached = log; room = room }) kept disk
    → same ≡ logs → more.area ≡ log.area → more.first ≡ log.first → more.version ≡ log.version → more.lengths ≡ log.lengths
    → Holds (record { first = first; earlier = same; attached = more; room = room }) kept disk
reserved_holds first room logs same log more kept disk holds is area head version lengths =
    subst (λ (l : List LogState). Holds (record { first = first; earlier = l; attached = more; room = room }) kept disk) (sym is)
    (record {
      leads = record {
        logs_of = holds.leads.logs_of;
        before = holds.leads.before;
        lead = holds.leads.lead;
        follows = holds.leads.follows;
        log_of = record {
          area = area ∙ holds.leads.log_of.area;
          first = head ∙ holds.leads.log_of.first;
          version = version ∙ holds.leads.log_of.version;
          settled = settled_same log more kept.attached.blocks disk area head version lengths holds.leads.log_of.settled;
        };
      };
      last = holds.last;
    })

-- ---- the whole switch, step by step

module _ (first room : ℕ) (logs : List LogState) (log : LogState) (kept : Kept) (d0 : Disk) (holds : Holds (record { first = first; earlier = logs; attached = log; room = room }) kept d0) (before : ℕ) (ending beginning : List ℕ) where
  pub none_moment : Leaves d0 d0 (IsSwitching first kept before ending beginning)
  none_moment = leaves_stays d0 d0 (IsSwitching first kept before ending beginning) (stays_here d0) (λ c may. inl (chained_left first room logs log kept d0 holds c may))

  module _ (area : ℕ) (is : area ≡ area_of (first + length logs + 1)) (d1 : Disk) (does : Does area Anything d0 d1) where
    pub made_moment : Leaves d0 d1 (IsSwitching first kept before ending beginning)
    made_moment = leaves_less d0 d1 (λ c. AreChained first kept c) (IsSwitching first kept before ending beginning) (next_moment first room logs log kept d0 holds area is Anything d1 does) (λ c chained. inl chained)

    pub made_holds : Holds (record { first = first; earlier = logs; attached = log; room = room }) kept d1
    made_holds = next_holds first room logs log kept d0 holds area is Anything d1 does

    module _ (link : IsLink (first + length logs + 1) before ending) (next : LogState) (here : next.area ≡ area_of (first + length logs + 1)) (begins : next.first ≡ before + 1) (version : next.version ≡ VERSION) (empty : Settled next [] d1) (d2 : Disk) where
      pub tied_moment : Does log.area (λ _ bytes. IsWithOrWithout log.area log.first log.version kept.attached.blocks ending bytes) d1 d2 → Leaves d0 d2 (IsSwitching first kept before ending beginning)
      tied_moment second =
          leaves_then d0 d1 d2 (IsSwitching first kept before ending beginning) made_moment
          (leaves_less d1 d2 (λ c. AreChained first kept c ⊎ AreChained first (switched ending (before + 1) kept) c) (IsSwitching first kept before ending beginning)
          (ended_moment first room logs log kept d1 made_holds ending before link next here begins version empty d2 second)
          (λ c some. elim some [ inl old ↦ inl old | inr ended ↦ inr (inl ended) ]))

      pub tied_holds : (pushed : List LogState) (after : LogState) (less : ℕ) → Does log.area Anything d1 d2 → after.area ≡ log.area → after.first ≡ log.first → after.version ≡ log.version → Settled after (kept.attached.blocks ++ ending ∷ []) d2 → pushed ≡ logs ++ after ∷ []
          → Holds (record { first = first; earlier = pushed; attached = next; room = less }) (switched ending (before + 1) kept) d2
      tied_holds pushed after less any = ended_holds first room logs log kept d1 made_holds ending before link next here begins version empty d2 pushed after less any

      pub begun_moment : (pushed : List LogState) (less : ℕ) (d3 : Disk) → Holds (record { first = first; earlier = pushed; attached = next; room = less }) (switched ending (before + 1) kept) d2
          → Does log.area (λ _ bytes. IsWithOrWithout log.area log.first log.version kept.attached.blocks ending bytes) d1 d2 → IsNoLink (first + length pushed + 1) beginning
          → Does next.area (λ _ bytes. IsWithOrWithout next.area next.first next.version [] beginning bytes) d2 d3 → Leaves d0 d3 (IsSwitching first kept before ending beginning)
      begun_moment pushed less d3 ended second none third =
          leaves_then d0 d2 d3 (IsSwitching first kept before ending beginning) (tied_moment second)
          (leaves_less d2 d3 (Rattle.receiver_chain.specs.Chain.IsWithOrWithout first (switched ending (before + 1) kept) beginning) (IsSwitching first kept before ending beginning)
          (deposit_moment first less pushed next (switched ending (before + 1) kept) d2 ended beginning none d3 third)
          (λ c some. elim some [ inl old ↦ inr (inl old) | inr whole ↦ inr (inr whole) ]))

-- ---- what is known of the logs

pub switch_firsts : (logs pushed : List LogState) (log after last : LogState) (first : ℕ) → pushed ≡ logs ++ after ∷ [] → after.first ≡ log.first → last.first ≡ first → firsts (pushed ++ last ∷ []) ≡ firsts (logs ++ log ∷ []) ++ first ∷ []
switch_firsts logs pushed log after last first push same is =
    ap (λ (l : List LogState). firsts (l ++ last ∷ [])) push ∙ map-append (λ (l : LogState). l.first) (logs ++ after ∷ []) (last ∷ []) ∙ ap (λ (f : ℕ). firsts (logs ++ after ∷ []) ++ f ∷ []) is
    ∙ ap (λ (l : List ℕ). l ++ first ∷ []) (map-append (λ (l : LogState). l.first) logs (after ∷ []) ∙ ap (λ (f : ℕ). firsts logs ++ f ∷ []) same ∙ sym (map-append (λ (l : LogState). l.first) logs (log ∷ [])))

pub switch_lengths : (logs pushed : List LogState) (after last : LogState) (some more : List ℕ) → pushed ≡ logs ++ after ∷ [] → after.lengths ≡ some → last.lengths ≡ more → lengths_in (pushed ++ last ∷ []) ≡ lengths_in logs ++ some ∷ more ∷ []
switch_lengths logs pushed after last some more push same is =
    ap (λ (l : List LogState). lengths_in (l ++ last ∷ [])) push ∙ ap (λ (l : List LogState). lengths_in l) (append_assoc logs (after ∷ []) (last ∷ []))
    ∙ map-append (λ (l : LogState). l.lengths) logs (after ∷ last ∷ []) ∙ ap (λ (f : List ℕ). lengths_in logs ++ f ∷ last.lengths ∷ []) same ∙ ap (λ (f : List ℕ). lengths_in logs ++ some ∷ f ∷ []) is

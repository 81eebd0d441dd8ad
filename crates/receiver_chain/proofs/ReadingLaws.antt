-- The areas spell one chain, or are damaged at one place, and never both; and what a step makes of the list of blocks.
use Rattle.std.proofs.Common.{◌≡◌, inl, inr, ℕ, ◌+◌, List, [], ◌∷◌, ◌++◌, Option, Some, refl, sym, ◌∙◌, ap, subst, append_assoc}
use Rattle.std.proofs.lemmas.List.{append-nil}
use Rattle.store_model.specs.Disk.{Areas}
use Rattle.entry_codec.specs.declared.entries.Entry.{Entry}
use Rattle.gated_log.specs.Blocks.{Spells}
use Rattle.receiver_chain.specs.Links.{EndsInLink, EndsInNoLink, last_block}
use Rattle.receiver_chain.specs.Receivers.{Receiver, Kept, LeadTo, Follows, AreSpelled, AreChained, IsReceiverDamagedAt, IsChainDamagedAt, area_of, attached_number, before_first, blocks_in, blocks_of, deposited, switched, with_block}
use Rattle.receiver_chain.proofs.LinkLemmas.{one_entry}

-- ---- one list

pub blocks_in-push : (rs : List Receiver) (r : Receiver) → blocks_in (rs ++ r ∷ []) ≡ blocks_in rs ++ r.blocks
blocks_in-push [] r = append-nil r.blocks
blocks_in-push (x ∷ rs) r = ap (λ (l : List (List ℕ)). x.blocks ++ l) (blocks_in-push rs r) ∙ sym (append_assoc x.blocks (blocks_in rs) r.blocks)

pub deposited_list : (kept : Kept) (block : List ℕ) → blocks_of (deposited block kept) ≡ blocks_of kept ++ block ∷ []
deposited_list kept block = sym (append_assoc (blocks_in kept.earlier) kept.attached.blocks (block ∷ []))

pub switched_list : (kept : Kept) (ending : List ℕ) (first : ℕ) → blocks_of (switched ending first kept) ≡ blocks_of kept ++ ending ∷ []
switched_list kept ending first = append-nil (blocks_in (kept.earlier ++ with_block ending kept.attached ∷ [])) ∙ blocks_in-push kept.earlier (with_block ending kept.attached) ∙ sym (append_assoc (blocks_in kept.earlier) kept.attached.blocks (ending ∷ []))

-- ---- one reading

one_receiver : (area : ℕ) (r other : Receiver) (bytes : List ℕ) → Spells area r.first r.version r.blocks bytes → Spells area other.first other.version other.blocks bytes → r ≡ other
one_receiver area r other bytes spells same =
    let parts = Rattle.gated_log.proofs.Unique.one_list area r.first r.version other.first other.version r.blocks other.blocks bytes spells same in
    ap (λ (f : ℕ). record { first = f; version = r.version; blocks = r.blocks }) parts.0
    ∙ ap (λ (v : ℕ). record { first = other.first; version = v; blocks = r.blocks }) parts.1
    ∙ ap (λ (l : List (List ℕ)). record { first = other.first; version = other.version; blocks = l }) parts.2

-- the same receivers end in the same entry
one_link : (next s t : ℕ) (r other : Receiver) → r ≡ other → EndsInLink next s r.blocks → EndsInLink next t other.blocks → s ≡ t
one_link next s t r other same link too =
    let entries = one_entry link.entry too.entry (last_block other.blocks) link.spelled too.spelled (ap (λ (x : Receiver). last_block x.blocks) (sym same) ∙ link.whole) too.whole in
    sym link.sequence ∙ ap (λ (e : Entry). e.sequence) entries ∙ too.sequence

not_both : (area : ℕ) (before : Option ℕ) (bytes : List ℕ) (at : ℕ) (r : Receiver) → IsReceiverDamagedAt area before bytes at → Spells area r.first r.version r.blocks bytes → Follows before r.first → ⊥
not_both area before bytes at r (inl (none, zero)) spells follows = none r.first r.version spells.body spells.may_begin follows spells.header
not_both area before bytes at r (inr (some, breaks)) spells follows = Rattle.gated_log.proofs.Unique.never_both area r.first r.version at r.blocks bytes (inr breaks) spells

-- a receiver that ends in a link is no attached one
not_last : (n s : ℕ) (r other : Receiver) (areas : Areas) → Spells (area_of n) r.first r.version r.blocks (areas (area_of n)) → EndsInLink (n + 1) s r.blocks → Spells (area_of n) other.first other.version other.blocks (areas (area_of n)) → EndsInNoLink (n + 1) other.blocks → ⊥
not_last n s r other areas spells link same none =
    none s (subst (λ (x : Receiver). EndsInLink (n + 1) s x.blocks) (one_receiver (area_of n) r other (areas (area_of n)) spells same) link)

one_by : (n : ℕ) (before : Option ℕ) (rs others : List Receiver) (r other : Receiver) (m k : ℕ) (last final : Option ℕ) (areas : Areas)
    → AreSpelled n rs areas → LeadTo n before rs m last → Spells (area_of m) r.first r.version r.blocks (areas (area_of m)) → EndsInNoLink (m + 1) r.blocks
    → AreSpelled n others areas → LeadTo n before others k final → Spells (area_of k) other.first other.version other.blocks (areas (area_of k)) → EndsInNoLink (k + 1) other.blocks
    → (rs ≡ others) × (r ≡ other)
one_by n before [] [] r other m k last final areas spelled lead spells none too leads same never = (
  refl,
  one_receiver (area_of n) r other (areas (area_of n)) (subst (λ (j : ℕ). Spells (area_of j) r.first r.version r.blocks (areas (area_of j))) lead.0 spells)
      (subst (λ (j : ℕ). Spells (area_of j) other.first other.version other.blocks (areas (area_of j))) leads.0 same),
)
one_by n before [] (y ∷ others) r other m k last final areas spelled lead spells none too leads same never =
    absurd (not_last n leads.1 y r areas too.0 leads.2 (subst (λ (j : ℕ). Spells (area_of j) r.first r.version r.blocks (areas (area_of j))) lead.0 spells)
    (subst (λ (j : ℕ). EndsInNoLink (j + 1) r.blocks) lead.0 none))
one_by n before (x ∷ rs) [] r other m k last final areas spelled lead spells none too leads same never =
    absurd (not_last n lead.1 x other areas spelled.0 lead.2 (subst (λ (j : ℕ). Spells (area_of j) other.first other.version other.blocks (areas (area_of j))) leads.0 same)
    (subst (λ (j : ℕ). EndsInNoLink (j + 1) other.blocks) leads.0 never))
one_by n before (x ∷ rs) (y ∷ others) r other m k last final areas spelled lead spells none too leads same never =
    let here = one_receiver (area_of n) x y (areas (area_of n)) spelled.0 too.0 in
    let sequence = one_link (n + 1) leads.1 lead.1 y x (sym here) leads.2 lead.2 in
    let rest = one_by (n + 1) (Some lead.1) rs others r other m k last final areas spelled.1 lead.3 spells none too.1
    (subst (λ (s : ℕ). LeadTo (n + 1) (Some s) others k final) sequence leads.3) same never in
    (ap (λ (z : Receiver). z ∷ rs) here ∙ ap (λ (l : List Receiver). y ∷ l) rest.0, rest.1)

pub one_chain : (first : ℕ) (kept other : Kept) (areas : Areas) → AreChained first kept areas → AreChained first other areas → kept ≡ other
one_chain first kept other areas chained same =
    let parts = one_by first (before_first first) kept.earlier other.earlier kept.attached other.attached (attached_number first kept) (attached_number first other) chained.before same.before areas
    chained.earlier chained.lead chained.attached chained.last same.earlier same.lead same.attached same.last in
    ap (λ (l : List Receiver). record { earlier = l; attached = kept.attached }) parts.0 ∙ ap (λ (r : Receiver). record { earlier = other.earlier; attached = r }) parts.1

never_by : (n : ℕ) (before : Option ℕ) (rs others : List Receiver) (r : Receiver) (m k : ℕ) (last final : Option ℕ) (areas : Areas) (at : ℕ)
    → AreSpelled n rs areas → LeadTo n before rs m last → Follows last r.first → Spells (area_of m) r.first r.version r.blocks (areas (area_of m)) → EndsInNoLink (m + 1) r.blocks
    → AreSpelled n others areas → LeadTo n before others k final → IsReceiverDamagedAt (area_of k) final (areas (area_of k)) at → ⊥
never_by n before [] [] r m k last final areas at spelled lead follows spells none too leads damaged =
    not_both (area_of n) before (areas (area_of n)) at r
    (subst (λ (o : Option ℕ). IsReceiverDamagedAt (area_of n) o (areas (area_of n)) at) leads.1 (subst (λ (j : ℕ). IsReceiverDamagedAt (area_of j) final (areas (area_of j)) at) leads.0 damaged))
    (subst (λ (j : ℕ). Spells (area_of j) r.first r.version r.blocks (areas (area_of j))) lead.0 spells) (subst (λ (o : Option ℕ). Follows o r.first) lead.1 follows)
never_by n before [] (y ∷ others) r m k last final areas at spelled lead follows spells none too leads damaged =
    not_last n leads.1 y r areas too.0 leads.2 (subst (λ (j : ℕ). Spells (area_of j) r.first r.version r.blocks (areas (area_of j))) lead.0 spells)
    (subst (λ (j : ℕ). EndsInNoLink (j + 1) r.blocks) lead.0 none)
never_by n before (x ∷ rs) [] r m k last final areas at spelled lead follows spells none too leads damaged =
    not_both (area_of n) before (areas (area_of n)) at x
    (subst (λ (o : Option ℕ). IsReceiverDamagedAt (area_of n) o (areas (area_of n)) at) leads.1 (subst (λ (j : ℕ). IsReceiverDamagedAt (area_of j) final (areas (area_of j)) at) leads.0 damaged))
    spelled.0 lead.0
never_by n before (x ∷ rs) (y ∷ others) r m k last final areas at spelled lead follows spells none too leads damaged =
    let here = one_receiver (area_of n) x y (areas (area_of n)) spelled.0 too.0 in
    let sequence = one_link (n + 1) leads.1 lead.1 y x (sym here) leads.2 lead.2 in
    never_by (n + 1) (Some lead.1) rs others r m k last final areas at spelled.1 lead.3 follows spells none too.1 (subst (λ (s : ℕ). LeadTo (n + 1) (Some s) others k final) sequence leads.3) damaged

pub never_both : (first area at : ℕ) (kept : Kept) (areas : Areas) → IsChainDamagedAt first areas area at → AreChained first kept areas → ⊥
never_both first area at kept areas damaged chained =
    never_by first (before_first first) kept.earlier damaged.earlier kept.attached (attached_number first kept) damaged.number chained.before damaged.before areas at
    chained.earlier chained.lead chained.follows chained.attached chained.last damaged.spelled damaged.lead
    (subst (λ (n : ℕ). IsReceiverDamagedAt n damaged.before (areas n) at) damaged.here damaged.damaged)

one_place : (area : ℕ) (before : Option ℕ) (bytes : List ℕ) (at other : ℕ) → IsReceiverDamagedAt area before bytes at → IsReceiverDamagedAt area before bytes other → at ≡ other
one_place area before bytes at other (inl first) (inl second) = first.1 ∙ sym second.1
one_place area before bytes at other (inl first) (inr second) = absurd (second.0 first.0)
one_place area before bytes at other (inr first) (inl second) = absurd (first.0 second.0)
one_place area before bytes at other (inr first) (inr second) = Rattle.gated_log.proofs.Unique.one_damage area at other bytes (inr first.1) (inr second.1)

damage_by : (n : ℕ) (before : Option ℕ) (rs others : List Receiver) (m k : ℕ) (last final : Option ℕ) (areas : Areas) (at other : ℕ)
    → AreSpelled n rs areas → LeadTo n before rs m last → IsReceiverDamagedAt (area_of m) last (areas (area_of m)) at
    → AreSpelled n others areas → LeadTo n before others k final → IsReceiverDamagedAt (area_of k) final (areas (area_of k)) other → (m ≡ k) × (at ≡ other)
damage_by n before [] [] m k last final areas at other spelled lead damaged too leads same =
    let mine = subst (λ (o : Option ℕ). IsReceiverDamagedAt (area_of n) o (areas (area_of n)) at) lead.1
    (subst (λ (j : ℕ). IsReceiverDamagedAt (area_of j) last (areas (area_of j)) at) lead.0 damaged) in
    let yours = subst (λ (o : Option ℕ). IsReceiverDamagedAt (area_of n) o (areas (area_of n)) other) leads.1
    (subst (λ (j : ℕ). IsReceiverDamagedAt (area_of j) final (areas (area_of j)) other) leads.0 same) in
    (lead.0 ∙ sym leads.0, one_place (area_of n) before (areas (area_of n)) at other mine yours)
damage_by n before [] (y ∷ others) m k last final areas at other spelled lead damaged too leads same =
    let mine = subst (λ (o : Option ℕ). IsReceiverDamagedAt (area_of n) o (areas (area_of n)) at) lead.1
    (subst (λ (j : ℕ). IsReceiverDamagedAt (area_of j) last (areas (area_of j)) at) lead.0 damaged) in
    absurd (not_both (area_of n) before (areas (area_of n)) at y mine too.0 leads.0)
damage_by n before (x ∷ rs) [] m k last final areas at other spelled lead damaged too leads same =
    let yours = subst (λ (o : Option ℕ). IsReceiverDamagedAt (area_of n) o (areas (area_of n)) other) leads.1
    (subst (λ (j : ℕ). IsReceiverDamagedAt (area_of j) final (areas (area_of j)) other) leads.0 same) in
    absurd (not_both (area_of n) before (areas (area_of n)) other x yours spelled.0 lead.0)
damage_by n before (x ∷ rs) (y ∷ others) m k last final areas at other spelled lead damaged too leads same =
    let here = one_receiver (area_of n) x y (areas (area_of n)) spelled.0 too.0 in
    let sequence = one_link (n + 1) leads.1 lead.1 y x (sym here) leads.2 lead.2 in
    damage_by (n + 1) (Some lead.1) rs others m k last final areas at other spelled.1 lead.3 damaged too.1 (subst (λ (s : ℕ). LeadTo (n + 1) (Some s) others k final) sequence leads.3) same

pub one_damage : (first a b at other : ℕ) (areas : Areas) → IsChainDamagedAt first areas a at → IsChainDamagedAt first areas b other → (a ≡ b) × (at ≡ other)
one_damage first a b at other areas damaged same =
    let parts = damage_by first (before_first first) damaged.earlier same.earlier damaged.number same.number damaged.before same.before areas at other
    damaged.spelled damaged.lead (subst (λ (n : ℕ). IsReceiverDamagedAt n damaged.before (areas n) at) damaged.here damaged.damaged)
    same.spelled same.lead (subst (λ (n : ℕ). IsReceiverDamagedAt n same.before (areas n) other) same.here same.damaged) in
    (damaged.here ∙ ap (λ (n : ℕ). area_of n) parts.0 ∙ sym same.here, parts.1)

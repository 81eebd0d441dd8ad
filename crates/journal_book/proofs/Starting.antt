-- Where a read of a range begins, and what it gives of a book.
use Rattle.std.proofs.Common.{◌≡◌, ◌⊎◌, inl, inr, ℕ, ◌+◌, ◌-◌, ◌≤◌, ◌<◌, List, [], ◌∷◌, ◌++◌, length, take, drop, get_or, refl, sym, ◌∙◌, ap, subst, arith, length-append, take-append-drop, Option, Some, None, MatchOption}
use Rattle.std.proofs.lemmas.List.{length-take-le}
use Rattle.std.proofs.lemmas.List.Elements.{filter-append}
use Rattle.store_model.specs.Disk.{Disk}
use Rattle.entry_codec.specs.declared.entries.Entry.{Entry}
use Rattle.receiver_chain.specs.Receivers.{Kept, blocks_in, receiver_at}
use Rattle.receiver_chain.specs.Chain.{ChainState, Holds, attached_of, log_at}
use Rattle.receiver_chain.proofs.Chaining.{logs_length}
use Rattle.receiver_chain.proofs.Kept.{log_of}
use Rattle.journal_model.specs.Journal.{AreNumbered}
use Rattle.journal_book.specs.Book.{BookState, Keeps}
use Rattle.journal_book.specs.Entries.{AreBlocks, HoldsEntries, IsBlock, all_groups, first_sequence, flat}
use Rattle.journal_book.specs.Reads.{BeginsBehind, IsAhead, between, blocks_behind, blocks_from, is_between}
use Rattle.journal_book.proofs.Counts.{count_is, from_nth}
use Rattle.journal_book.proofs.Forcing.{flat-append}
use Rattle.journal_book.proofs.GivenUp.{IsDropped, drop_by, first_drop}
use Rattle.journal_book.proofs.Numbering.{numbered-drop, numbered_back, numbered_front, number_at}
use Rattle.journal_book.proofs.Places.{are_all, are_split, behind_last, behind_next, from_zero, split_from}
use Rattle.journal_book.proofs.Taking.{Gives, ahead_further, ahead_none, fits, fits_below, fits_between}

module _ (lo hi : ℕ) (chain : ChainState) (kept : Kept) (disk : Disk) (entries : List Entry) (receiver : ℕ) (holds : Holds chain kept disk) (on : HoldsEntries chain.first kept entries) (from : chain.first ≤ receiver) (upto : receiver ≤ attached_of chain) where
  within : receiver - chain.first ≤ length kept.earlier
  within = omega (arith, from, upto, logs_length chain.first chain.earlier kept.earlier disk holds.leads.logs_of)

  all_numbered : AreNumbered (first_sequence kept) (flat (all_groups on.earlier on.last))
  all_numbered = subst (λ (l : List Entry). AreNumbered (first_sequence kept) l) on.all on.numbered

  skipped : IsDropped chain.first (first_sequence kept) (receiver - chain.first) kept.earlier kept.attached on.earlier on.last
  skipped = drop_by (receiver - chain.first) kept.earlier on.earlier chain.first (first_sequence kept) _ holds.leads.before _ kept.attached on.last within holds.leads.lead holds.leads.follows on.receivers all_numbered refl

  begins_at : (log_at chain receiver).first ≡ first_sequence kept + skipped.count
  begins_at = (log_of chain kept disk receiver holds from upto).first ∙ sym (first_drop (receiver - chain.first) kept.earlier kept.attached) ∙ skipped.first

  none_skipped : receiver ≡ chain.first → skipped.count ≡ 0
  none_skipped is =
      let zero : receiver - chain.first ≡ 0 = omega (arith, is) in
      let same = first_drop (receiver - chain.first) kept.earlier kept.attached ∙ ap (λ (n : ℕ). (get_or kept.earlier n kept.attached).first) zero ∙ sym (first_drop 0 kept.earlier kept.attached) in
      omega (arith, skipped.first, same)

  -- what is skipped comes before the range
  none_there : (receiver ≡ chain.first) ⊎ ((log_at chain receiver).first ≤ lo) → fits lo hi (take skipped.count entries) ≡ []
  none_there (inl is) = ap (λ (n : ℕ). fits lo hi (take n entries)) (none_skipped is)
  none_there (inr begins) =
      let numbered = numbered_front (first_sequence kept) (take skipped.count entries) (drop skipped.count entries) (subst (λ (l : List Entry). AreNumbered (first_sequence kept) l) (sym (take-append-drop skipped.count entries)) on.numbered) in
      let size = length-take-le skipped.count entries (omega (arith, skipped.within, ap (λ (l : List Entry). length l) on.all)) in
      fits_below lo hi (first_sequence kept) (take skipped.count entries) numbered (omega (arith, size, begins, begins_at))

  -- the read that begins with this receiver
  pub ahead_begin : (old : List Entry) (last : ℕ) → (receiver ≡ chain.first) ⊎ ((log_at chain receiver).first ≤ lo) → last ≡ (log_at chain receiver).first - 1 → IsAhead lo hi entries old last old (blocks_from chain.first kept receiver 0)
  ahead_begin old last begins is =
      let rest : flat (all_groups skipped.rest on.last) ≡ drop skipped.count entries = skipped.same ∙ ap (λ (l : List Entry). drop skipped.count l) (sym on.all) in
      let place : first_sequence kept + skipped.count ≡ last + 1 = omega (arith, is, begins_at, on.counted) in
      let numbered = numbered-drop skipped.count (first_sequence kept) entries (omega (arith, skipped.within, ap (λ (l : List Entry). length l) on.all)) on.numbered in
      record {
        groups = all_groups skipped.rest on.last;
        are = subst (λ (b : List (List ℕ)). AreBlocks (all_groups skipped.rest on.last) b) (sym (from_zero kept.earlier kept.attached (receiver - chain.first) within))
            (are_all (chain.first + (receiver - chain.first)) (drop (receiver - chain.first) kept.earlier) skipped.rest kept.attached on.last skipped.receivers);
        numbered = subst (λ (l : List Entry). AreNumbered (last + 1) l) (sym rest) (subst (λ (n : ℕ). AreNumbered n (drop skipped.count entries)) place numbered);
        all = ap (λ (l : List Entry). old ++ l)
            (ap (λ (l : List Entry). fits lo hi l) rest ∙ ap (λ (l : List Entry). l ++ fits lo hi (drop skipped.count entries)) (sym (none_there begins)) ∙ sym (filter-append (is_between lo hi) (take skipped.count entries) (drop skipped.count entries))
            ∙ ap (λ (l : List Entry). fits lo hi l) (take-append-drop skipped.count entries));
      }

  -- ---- the read that begins with a block

  -- the block begins behind a sequence, which its entries then tell
  place_by : (before f : ℕ) (a b : List (List Entry)) (block : List ℕ) (blocks : List (List ℕ)) → ((group : List Entry) → IsBlock group block → BeginsBehind before group) → AreBlocks b (block ∷ blocks) → AreNumbered f (flat a ++ flat b) → f + length (flat a) ≡ before + 1
  place_by before f a [] block blocks begins are numbered = absurd are
  place_by before f a ([] ∷ b) block blocks begins are numbered = absurd (begins [] are.0)
  place_by before f a ((e ∷ g) ∷ b) block blocks begins are numbered = sym (number_at f (flat a) e (g ++ flat b) numbered) ∙ begins (e ∷ g) are.0

  module _ (n before : ℕ) (below : n < length (receiver_at chain.first kept receiver).blocks) (lower : before < lo) (begins : (group : List Entry) → IsBlock group (get_or (receiver_at chain.first kept receiver).blocks n []) → BeginsBehind before group) where
    split : blocks_from chain.first kept receiver n ≡ get_or (receiver_at chain.first kept receiver).blocks n [] ∷ (drop (n + 1) (receiver_at chain.first kept receiver).blocks ++ blocks_behind kept.earlier kept.attached (receiver - chain.first))
    split = ap (λ (l : List (List ℕ)). l ++ blocks_behind kept.earlier kept.attached (receiver - chain.first)) (from_nth (receiver_at chain.first kept receiver).blocks n [] below)

    before_it : (front : List (List ℕ)) × (blocks_in kept.earlier ++ kept.attached.blocks ≡ front ++ blocks_from chain.first kept receiver n)
    before_it = split_from kept.earlier kept.attached (receiver - chain.first) n within

    parts : (a : List (List Entry)) × (b : List (List Entry)) × (all_groups on.earlier on.last ≡ a ++ b) × AreBlocks b (blocks_from chain.first kept receiver n)
    parts = are_split (all_groups on.earlier on.last) before_it.0 (blocks_from chain.first kept receiver n)
        (subst (λ (l : List (List ℕ)). AreBlocks (all_groups on.earlier on.last) l) before_it.1 (are_all chain.first kept.earlier on.earlier kept.attached on.last on.receivers))

    whole : entries ≡ flat parts.0 ++ flat parts.1
    whole = on.all ∙ ap (λ (l : List (List Entry)). flat l) parts.2 ∙ flat-append parts.0 parts.1

    whole_numbered : AreNumbered (first_sequence kept) (flat parts.0 ++ flat parts.1)
    whole_numbered = subst (λ (l : List Entry). AreNumbered (first_sequence kept) l) whole on.numbered

    place : first_sequence kept + length (flat parts.0) ≡ before + 1
    place = place_by before (first_sequence kept) parts.0 parts.1 _ _ begins (subst (λ (l : List (List ℕ)). AreBlocks parts.1 l) split parts.3) whole_numbered

    pub ahead_there : (old : List Entry) → IsAhead lo hi entries old before old (blocks_from chain.first kept receiver n)
    ahead_there old =
        let none = fits_below lo hi (first_sequence kept) (flat parts.0) (numbered_front (first_sequence kept) (flat parts.0) (flat parts.1) whole_numbered) (omega (arith, place, lower)) in
        record {
          groups = parts.1;
          are = parts.3;
          numbered = numbered_back (first_sequence kept) (before + 1) (flat parts.0) (flat parts.1) (sym place) whole_numbered;
          all = ap (λ (l : List Entry). old ++ l)
              (ap (λ (l : List Entry). l ++ fits lo hi (flat parts.1)) (sym none) ∙ sym (filter-append (is_between lo hi) (flat parts.0) (flat parts.1)) ∙ ap (λ (l : List Entry). fits lo hi l) (sym whole));
        }

    -- behind it the read goes on
    pub ahead_start : (old new : List Entry) (s : ℕ) → Gives lo hi (get_or (receiver_at chain.first kept receiver).blocks n []) before old s new → IsAhead lo hi entries old s new (blocks_from chain.first kept receiver (n + 1))
    ahead_start old new s told = ahead_further lo hi entries old before old _ _ s new told (subst (λ (l : List (List ℕ)). IsAhead lo hi entries old before old l) split (ahead_there old))

    -- and its entries follow the sequence, as a reader finds
    pub start_never : ((group : List Entry) → IsBlock group (get_or (receiver_at chain.first kept receiver).blocks n []) → AreNumbered (before + 1) group → ⊥) → ⊥
    start_never none = ahead_none lo hi entries [] before [] _ _ none (subst (λ (l : List (List ℕ)). IsAhead lo hi entries [] before [] l) split (ahead_there []))

    pub start_taken : (N : Type 0) (old new : List Entry) (taken : Option ℕ)
        → ((group : List Entry) → IsBlock group (get_or (receiver_at chain.first kept receiver).blocks n []) → AreNumbered (before + 1) group → MatchOption taken ⊥ (λ reached. (reached ≡ before + length group) × (new ≡ old ++ fits lo hi group)))
        → MatchOption taken N (λ reached. IsAhead lo hi entries old reached new (blocks_from chain.first kept receiver (n + 1)))
    start_taken N old new None told = absurd (start_never (λ group are numbered. told group are numbered))
    start_taken N old new (Some reached) told = ahead_start old new reached told

-- the receiver behind one
pub next_blocks : (chain : ChainState) (kept : Kept) (disk : Disk) (receiver : ℕ) → Holds chain kept disk → chain.first ≤ receiver → receiver < attached_of chain → blocks_behind kept.earlier kept.attached (receiver - chain.first) ≡ blocks_from chain.first kept (receiver + 1) 0
next_blocks chain kept disk receiver holds from below =
    behind_next kept.earlier kept.attached (receiver - chain.first) (omega (arith, from, below, logs_length chain.first chain.earlier kept.earlier disk holds.leads.logs_of))
    ∙ ap (λ (m : ℕ). (get_or kept.earlier m kept.attached).blocks ++ blocks_behind kept.earlier kept.attached m) (omega (arith, from))

-- none is behind the attached one
pub last_blocks : (chain : ChainState) (kept : Kept) (disk : Disk) (receiver : ℕ) → Holds chain kept disk → attached_of chain ≤ receiver → blocks_behind kept.earlier kept.attached (receiver - chain.first) ≡ []
last_blocks chain kept disk receiver holds past = behind_last kept.earlier kept.attached (receiver - chain.first) (omega (arith, past, logs_length chain.first chain.earlier kept.earlier disk holds.leads.logs_of))

-- the forced entries and those that wait are those of the range
pub read_all : (book : BookState) (kept : Kept) (entries : List Entry) (keeps : Keeps book kept entries) (lo hi : ℕ) (found whole : List Entry) → book.first ≤ lo → lo ≤ hi → hi < book.first + (book.forced + book.waiting) → found ≡ fits lo hi keeps.front → whole ≡ found ++ fits lo hi keeps.tail
    → whole ≡ between book.first lo hi entries
read_all book kept entries keeps lo hi found whole from some there forced waits =
    let sizes = ap (λ (l : List Entry). length l) keeps.all in
    waits ∙ ap (λ (l : List Entry). l ++ fits lo hi keeps.tail) forced ∙ sym (filter-append (is_between lo hi) keeps.front keeps.tail) ∙ ap (λ (l : List Entry). fits lo hi l) (sym keeps.all)
    ∙ fits_between lo hi book.first entries keeps.numbered from (omega (arith, there, keeps.forced, keeps.waiting, sizes, length-append keeps.front keeps.tail)) some

pub tail_numbered : (book : BookState) (kept : Kept) (entries : List Entry) (keeps : Keeps book kept entries) → AreNumbered (book.first + book.forced) keeps.tail
tail_numbered book kept entries keeps = numbered_back book.first (book.first + book.forced) keeps.front keeps.tail (omega (arith, keeps.forced)) (subst (λ (l : List Entry). AreNumbered book.first l) keeps.all keeps.numbered)

-- none of the forced entries is in a range behind them
pub none_forced : (book : BookState) (kept : Kept) (entries : List Entry) (keeps : Keeps book kept entries) (lo hi : ℕ) → book.first + book.forced ≤ lo → fits lo hi keeps.front ≡ []
none_forced book kept entries keeps lo hi past =
    fits_below lo hi book.first keeps.front (numbered_front book.first keeps.front keeps.tail (subst (λ (l : List Entry). AreNumbered book.first l) keeps.all keeps.numbered)) (omega (arith, past, keeps.forced))

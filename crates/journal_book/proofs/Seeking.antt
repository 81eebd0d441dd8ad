-- Looking for the entry of one sequence, block by block.
use Rattle.std.proofs.Common.{◌≡◌, ◌≢◌, ℕ, ◌+◌, ◌-◌, ◌≤◌, ◌<◌, List, [], ◌∷◌, ◌++◌, length, drop, get_or, Option, Some, None, is_some, refl, sym, ◌∙◌, ap, subst, arith, append_assoc, length-append, length-drop}
use Rattle.std.specs.List.{AllByRecursion}
use Rattle.std.proofs.lemmas.Bool.{false≢true}
use Rattle.std.proofs.lemmas.List.{append-nil, drop-append-le, drop-drop, drop_all, drop_at, length-take-le}
use Rattle.std.proofs.lemmas.List.Elements.{filter-append}
use Rattle.entry_codec.specs.declared.entries.Entry.{Entry}
use Rattle.entry_codec.specs.Spelling.{IsSpelled, spelling}
use Rattle.store_model.specs.Disk.{Disk}
use Rattle.gated_log.specs.Blocks.{Spells, StandsAt, block_bytes, sizes}
use Rattle.gated_log.specs.Log.{LogState}
use Rattle.gated_log.proofs.Numbers.{length-block_bytes}
use Rattle.receiver_chain.specs.Receivers.{Kept, area_of, receiver_at}
use Rattle.receiver_chain.specs.Chain.{ChainState, Holds, attached_of, log_at}
use Rattle.receiver_chain.proofs.Kept.{log_of}
use Rattle.journal_model.specs.Journal.{AreNumbered}
use Rattle.journal_book.specs.Book.{BookState, Keeps}
use Rattle.journal_book.specs.Entries.{AreBlocks, IsBlock, flat, spelled}
use Rattle.journal_book.specs.Reads.{IsAhead, between, is_between}
use Rattle.journal_book.specs.Searches.{IsSought, IsSoughtIn, StandIn}
use Rattle.journal_book.specs.declared.placing.Sought.{Sought}
use Rattle.journal_book.specs.declared.placing.Sought.TheVariants.{At, Behind}
use Rattle.journal_book.proofs.Numbering.{number_at, numbered_back, numbered_front}
use Rattle.journal_book.proofs.Starting.{tail_numbered}
use Rattle.journal_book.proofs.Taking.{fits, fits_above, fits_between, inside_is, lost, no_more, other_is, stays, upto_stuck}

-- ---- in a block

-- the block was looked through up to a place, and the entry isn't there
pub record IsPassed (s last : ℕ) (group : List Entry) (block : List ℕ) (at reached : ℕ) : Type 0 where
  pub front : List Entry
  pub more : List Entry
  pub whole : group ≡ front ++ more
  pub count : reached ≡ last + length front
  pub none : fits s s front ≡ []
  pub rest : drop at block ≡ spelled more
  pub each : AllByRecursion IsSpelled more

-- the same, whatever the block's entries are
abbrev pub IsPassedBy : ℕ → ℕ → List ℕ → ℕ → ℕ → Type 0
IsPassedBy s last block at reached = (group : List Entry) → IsBlock group block → AreNumbered (last + 1) group → IsPassed s last group block at reached

pub passed_begin : (s last : ℕ) (block : List ℕ) → IsPassedBy s last block 0 last
passed_begin s last block = λ group is numbered. record { front = []; more = group; whole = refl; count = omega arith; none = refl; rest = is.whole; each = is.each }

-- what a reader tells of the entry at a place
abbrev pub Told : List ℕ → ℕ → ℕ → Type 0
Told bytes found count = (e : Entry) (rest : List ℕ) → IsSpelled e → bytes ≡ spelling e ++ rest → ◌≡◌ {A = Option (ℕ × ℕ)} (Some (found, count)) (Some (e.sequence, length (spelling e)))

abbrev pair_in : Option (ℕ × ℕ) → ℕ × ℕ → ℕ × ℕ
pair_in (Some x) other = x
pair_in None other = other

-- the entry that stands there
record IsThere (last : ℕ) (group front : List Entry) (bytes : List ℕ) (found count : ℕ) : Type 0 where
  entry : Entry
  later : List Entry
  whole : group ≡ front ++ entry ∷ later
  sequence : entry.sequence ≡ found
  number : found ≡ last + 1 + length front
  size : length (spelling entry) ≡ count
  rest : bytes ≡ spelling entry ++ spelled later
  each : AllByRecursion IsSpelled later
  behind : AreNumbered (found + 1) later

there_by : (last : ℕ) (group front more : List Entry) (bytes : List ℕ) (found count : ℕ) → 1 ≤ length bytes → Told bytes found count → AreNumbered (last + 1) group → group ≡ front ++ more → bytes ≡ spelled more → AllByRecursion IsSpelled more
    → IsThere last group front bytes found count
there_by last group front [] bytes found count some told numbered whole rest each = absurd (omega (arith, some, ap (λ (l : List ℕ). length l) rest))
there_by last group front (e ∷ later) bytes found count some told numbered whole rest each =
    let same = told e (spelled later) each.0 rest in
    let sequence : found ≡ e.sequence = ap (λ (o : Option (ℕ × ℕ)). (pair_in o (found, count)).0) same in
    let size : count ≡ length (spelling e) = ap (λ (o : Option (ℕ × ℕ)). (pair_in o (found, count)).1) same in
    let all : AreNumbered (last + 1) (front ++ e ∷ later) = subst (λ (l : List Entry). AreNumbered (last + 1) l) whole numbered in
    let number : e.sequence ≡ last + 1 + length front = number_at (last + 1) front e later all in
    let back : AreNumbered found (e ∷ later) = numbered_back (last + 1) found front (e ∷ later) (omega (arith, sequence, number)) all in
    record { entry = e; later = later; whole = whole; sequence = sym sequence; number = omega (arith, sequence, number); size = sym size; rest = rest; each = each.1; behind = back.1 }

module _ (s last : ℕ) (group : List Entry) (block : List ℕ) (at reached : ℕ) (short : at < length block) (numbered : AreNumbered (last + 1) group) (passed : IsPassed s last group block at reached) where
  some_left : 1 ≤ length (drop at block)
  some_left = omega (arith, short, length-drop at block)

  -- no entry stands there
  pub passed_stuck : ((e : Entry) (rest : List ℕ) → IsSpelled e → drop at block ≡ spelling e ++ rest → ⊥) → ⊥
  passed_stuck none = upto_stuck block at passed.more short none passed.rest passed.each

  module _ (found count : ℕ) (told : Told (drop at block) found count) where
    there : IsThere last group passed.front (drop at block) found count
    there = there_by last group passed.front passed.more (drop at block) found count some_left told numbered passed.whole passed.rest passed.each

    -- it comes directly behind those before
    pub passed_follows : found ≡ reached + 1
    passed_follows = omega (arith, there.number, passed.count)

    entry_alone : found ≡ s → fits s s group ≡ there.entry ∷ []
    entry_alone is =
        ap (λ (l : List Entry). fits s s l) there.whole ∙ filter-append (is_between s s) passed.front (there.entry ∷ there.later) ∙ ap (λ (l : List Entry). l ++ fits s s (there.entry ∷ there.later)) passed.none
        ∙ stays (is_between s s) there.entry there.later (inside_is s s there.entry (omega (arith, is, there.sequence)) (omega (arith, is, there.sequence)))
        ∙ ap (λ (l : List Entry). there.entry ∷ l) (fits_above s s (found + 1) there.later there.behind (omega (arith, is)))

    -- it is the one
    pub passed_here : found ≡ s → IsSought s last group block (At at)
    passed_here is = (
      omega (arith, is, there.number, ap (λ (l : List Entry). length l) there.whole, length-append passed.front (there.entry ∷ there.later)),
      omega (arith, short),
      (spelled there.later, there.rest ∙ ap (λ (l : List ℕ). l ++ spelled there.later) (sym (append-nil (spelling there.entry))) ∙ ap (λ (l : List Entry). spelled l ++ spelled there.later) (sym (entry_alone is))),
    )

    -- it is another
    pub passed_on : found ≢ s → IsPassed s last group block (at + count) found
    passed_on other = record {
      front = passed.front ++ there.entry ∷ [];
      more = there.later;
      whole = there.whole ∙ sym (append_assoc passed.front (there.entry ∷ []) there.later);
      count = omega (arith, there.number, length-append passed.front (there.entry ∷ []));
      none = filter-append (is_between s s) passed.front (there.entry ∷ []) ∙ ap (λ (l : List Entry). l ++ fits s s (there.entry ∷ [])) passed.none
          ∙ lost (is_between s s) there.entry [] (other_is s there.entry (λ is. other (sym there.sequence ∙ is)));
      rest = sym (drop-drop count at block) ∙ ap (λ (l : List ℕ). drop count l) there.rest ∙ drop_at (spelling there.entry) (spelled there.later) count there.size;
      each = there.each;
    }

-- the block ends
pub passed_end : (s last : ℕ) (group : List Entry) (block : List ℕ) (at reached : ℕ) → length block ≤ at → IsPassed s last group block at reached → IsSought s last group block (Behind reached)
passed_end s last group block at reached past passed =
    let none = no_more passed.more (sym (drop_all at block past) ∙ passed.rest) in
    let whole : group ≡ passed.front = passed.whole ∙ ap (λ (l : List Entry). passed.front ++ l) none ∙ append-nil passed.front in
    (passed.count ∙ ap (λ (l : List Entry). last + length l) (sym whole), ap (λ (l : List Entry). fits s s l) whole ∙ passed.none)

-- ---- in an area

block_front : (block rest : List ℕ) → drop 4 (block_bytes block ++ rest) ≡ block ++ rest
unfolding block_bytes
block_front block rest = refl

module _ (start at : ℕ) (block bytes : List ℕ) (stands : StandsAt start block bytes) (within : at ≤ length block) where
  -- the place is in the area
  pub place_within : start + 4 + at ≤ length bytes
  place_within = omega (arith, within, length-drop start bytes, ap (λ (l : List ℕ). length l) stands.1, length-append (block_bytes block) stands.0, length-block_bytes block)

  pub place_stands : (entries : List Entry) → StandIn entries at block → StandIn entries (start + 4 + at) bytes
  place_stands entries stand = (
    stand.0 ++ stands.0,
    sym (drop-drop at (start + 4) bytes) ∙ ap (λ (l : List ℕ). drop at l) (sym (drop-drop 4 start bytes) ∙ ap (λ (l : List ℕ). drop 4 l) stands.1 ∙ block_front block stands.0)
        ∙ drop-append-le at block stands.0 within ∙ ap (λ (l : List ℕ). l ++ stands.0) stand.1 ∙ append_assoc (spelled entries) stand.0 stands.0,
  )

-- ---- among blocks

module _ (s : ℕ) (entries : List Entry) (last : ℕ) (block : List ℕ) (more : List (List ℕ)) (bytes : List ℕ) where
  found_by : (g : List Entry) (gs : List (List Entry)) (found : Sought) → IsSought s last g bytes found → IsBlock g block → AreBlocks gs more → AreNumbered (last + 1) (g ++ flat gs) → fits s s (g ++ flat gs) ≡ fits s s entries → IsSoughtIn s entries more bytes found
  found_by g gs (At at) sought is are numbered all =
      let none = fits_above s s (last + 1 + length g) (flat gs) (numbered_back (last + 1) (last + 1 + length g) g (flat gs) refl numbered) (omega (arith, sought.0)) in
      let same : fits s s g ≡ fits s s entries = sym (append-nil (fits s s g)) ∙ ap (λ (l : List Entry). fits s s g ++ l) (sym none) ∙ sym (filter-append (is_between s s) g (flat gs)) ∙ all in
      subst (λ (l : List Entry). StandIn l at bytes) same sought.2
  found_by g gs (Behind reached) sought is are numbered all = record {
    groups = gs;
    are = are;
    numbered = numbered_back (last + 1) (reached + 1) g (flat gs) (omega (arith, sought.0)) numbered;
    all = ap (λ (l : List Entry). l ++ fits s s (flat gs)) (sym sought.1) ∙ sym (filter-append (is_between s s) g (flat gs)) ∙ all;
  }

  sought_by : (groups : List (List Entry)) (found : Sought) → ((group : List Entry) → IsBlock group block → AreNumbered (last + 1) group → IsSought s last group bytes found) → AreBlocks groups (block ∷ more) → AreNumbered (last + 1) (flat groups)
      → fits s s (flat groups) ≡ fits s s entries → IsSoughtIn s entries more bytes found
  sought_by [] found told are numbered all = absurd are
  sought_by (g ∷ gs) found told are numbered all = found_by g gs found (told g are.0 (numbered_front (last + 1) g (flat gs) numbered)) are.0 are.1 numbered all

  -- what was found in the first of them
  pub sought_on : (found : Sought) → ((group : List Entry) → IsBlock group block → AreNumbered (last + 1) group → IsSought s last group bytes found) → IsAhead s s entries [] last [] (block ∷ more) → IsSoughtIn s entries more bytes found
  sought_on found told ahead = sought_by ahead.groups found told ahead.are ahead.numbered ahead.all

-- in none it isn't
none_by : (s : ℕ) (entries : List Entry) (groups : List (List Entry)) → AreBlocks groups [] → fits s s (flat groups) ≡ fits s s entries → fits s s entries ≡ []
none_by s entries [] are all = sym all
none_by s entries (g ∷ gs) are all = absurd are

pub sought_none : (s : ℕ) (entries : List Entry) (last : ℕ) (blocks : List (List ℕ)) → blocks ≡ [] → IsAhead s s entries [] last [] blocks → fits s s entries ≡ []
sought_none s entries last blocks none ahead = none_by s entries ahead.groups (subst (λ (l : List (List ℕ)). AreBlocks ahead.groups l) none ahead.are) ahead.all

pub no_pair : (x : ℕ × ℕ) → None ≡ Some x → ⊥
no_pair x is = false≢true (ap (λ (o : Option (ℕ × ℕ)). is_some o) is)

-- where a block stands in its receiver's area
pub stands_there : (chain : ChainState) (kept : Kept) (disk : Disk) (receiver n start : ℕ) (log : LogState) → Holds chain kept disk → chain.first ≤ receiver → receiver ≤ attached_of chain → log ≡ log_at chain receiver
    → ((blocks : List (List ℕ)) (bytes : List ℕ) → Spells log.area log.first log.version blocks bytes → log.lengths ≡ sizes blocks → StandsAt start (get_or blocks n []) bytes) → StandsAt start (get_or (receiver_at chain.first kept receiver).blocks n []) (disk.seen (area_of receiver))
stands_there chain kept disk receiver n start log holds from upto is told =
    let here = log_of chain kept disk receiver holds from upto in
    let blocks = (receiver_at chain.first kept receiver).blocks in
    let there = subst (λ (l : LogState). (bs : List (List ℕ)) (bytes : List ℕ) → Spells l.area l.first l.version bs bytes → l.lengths ≡ sizes bs → StandsAt start (get_or bs n []) bytes) is told in
    subst (λ (a : ℕ). StandsAt start (get_or blocks n []) (disk.seen a)) here.area (there blocks (disk.seen (log_at chain receiver).area) here.settled.spells here.settled.lengths)

-- ---- of a book

module _ (book : BookState) (kept : Kept) (entries : List Entry) (keeps : Keeps book kept entries) (s : ℕ) (from : book.first ≤ s) (below : s < book.first + book.forced) where
  parts : AreNumbered book.first (keeps.front ++ keeps.tail)
  parts = subst (λ (l : List Entry). AreNumbered book.first l) keeps.all keeps.numbered

  there_is : s < book.first + length entries
  there_is = omega (arith, below, keeps.forced, ap (λ (l : List Entry). length l) keeps.all, length-append keeps.front keeps.tail)

  -- the entry of a sequence that is forced is the one among the forced entries
  pub one_forced : fits s s keeps.front ≡ between book.first s s entries
  one_forced =
      sym (append-nil (fits s s keeps.front)) ∙ ap (λ (l : List Entry). fits s s keeps.front ++ l) (sym (fits_above s s (book.first + book.forced) keeps.tail (tail_numbered book kept entries keeps) below)) ∙ sym (filter-append (is_between s s) keeps.front keeps.tail)
      ∙ ap (λ (l : List Entry). fits s s l) (sym keeps.all) ∙ fits_between s s book.first entries keeps.numbered from there_is (omega arith)

  pub one_there : fits s s keeps.front ≡ [] → ⊥
  one_there none =
      let size : length (between book.first s s entries) ≡ s + 1 - s = length-take-le (s + 1 - s) (drop (s - book.first) entries) (omega (arith, there_is, from, length-drop (s - book.first) entries)) in
      omega (arith, size, ap (λ (l : List Entry). length l) (sym one_forced ∙ none))

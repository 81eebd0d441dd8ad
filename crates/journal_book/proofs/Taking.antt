-- Reading the entries of a range, block by block.
use Rattle.std.proofs.Common.{◌≡◌, inl, inr, ℕ, ◌+◌, ◌-◌, ◌≤◌, ◌<◌, ◌&&◌, Bool, true, false, List, [], ◌∷◌, ◌++◌, length, take, drop, filter, nat_le, Option, Some, None, is_some, IfSome, MatchOption, refl, sym, ◌∙◌, ap, subst, arith, append_assoc, length-append, length-drop, take-append-drop}
use Rattle.std.specs.List.{AllByRecursion}
use Rattle.std.proofs.lemmas.Bool.{false≢true}
use Rattle.std.proofs.lemmas.Bool.Decides.{leb_tells}
use Rattle.std.proofs.lemmas.List.{append-nil, drop-drop, drop_all, drop_at, length-take-le}
use Rattle.std.proofs.lemmas.List.Elements.{filter-append}
use Rattle.entry_codec.specs.declared.entries.Entry.{Entry}
use Rattle.entry_codec.specs.Spelling.{Begins, IsSpelled, spelling}
use Rattle.entry_codec.proofs.Lengths.{length-spelling}
use Rattle.journal_model.specs.Journal.{AreNumbered}
use Rattle.journal_book.specs.Entries.{AreBlocks, IsBlock, flat, spelled}
use Rattle.journal_book.specs.Reads.{BeginsBehind, IsAhead, between, is_between}
use Rattle.journal_book.proofs.Numbering.{numbered-drop, numbered_back, numbered_front}
use Rattle.journal_book.proofs.Reading.{some_bytes}

-- ---- the range

abbrev pub fits : ℕ → ℕ → List Entry → List Entry
fits lo hi entries = filter (is_between lo hi) entries

and_false : (b : Bool) → (b && false) ≡ false
and_false true = refl
and_false false = refl

below_is : (lo hi : ℕ) (e : Entry) → e.sequence < lo → is_between lo hi e ≡ false
below_is lo hi e below = elim (leb_tells lo e.sequence) [
  | inl is ↦ absurd (omega (arith, is.1, below))
  | inr past ↦ ap (λ (b : Bool). b && nat_le e.sequence hi) past.0
]

above_is : (lo hi : ℕ) (e : Entry) → hi < e.sequence → is_between lo hi e ≡ false
above_is lo hi e above = elim (leb_tells e.sequence hi) [
  | inl is ↦ absurd (omega (arith, is.1, above))
  | inr past ↦ ap (λ (b : Bool). nat_le lo e.sequence && b) past.0 ∙ and_false (nat_le lo e.sequence)
]

pub inside_is : (lo hi : ℕ) (e : Entry) → lo ≤ e.sequence → e.sequence ≤ hi → is_between lo hi e ≡ true
inside_is lo hi e from upto = elim (leb_tells lo e.sequence) [
  | inl is ↦ ap (λ (b : Bool). b && nat_le e.sequence hi) is.0 ∙ (elim (leb_tells e.sequence hi) [
    | inl there ↦ there.0
    | inr past ↦ absurd (omega (arith, past.1, upto))
  ])
  | inr before ↦ absurd (omega (arith, before.1, from))
]

pub other_is : (s : ℕ) (e : Entry) → (e.sequence ≡ s → ⊥) → is_between s s e ≡ false
other_is s e other = elim (leb_tells s e.sequence) [
  | inl from ↦ above_is s s e (omega (arith, from.1, other))
  | inr before ↦ below_is s s e (omega (arith, before.1))
]

pub lost : (p : Entry → Bool) (x : Entry) (xs : List Entry) → p x ≡ false → filter p (x ∷ xs) ≡ filter p xs
lost p x xs is = rw is refl

pub stays : (p : Entry → Bool) (x : Entry) (xs : List Entry) → p x ≡ true → filter p (x ∷ xs) ≡ x ∷ filter p xs
stays p x xs is = rw is refl

pub fits_below : (lo hi n : ℕ) (xs : List Entry) → AreNumbered n xs → n + length xs ≤ lo → fits lo hi xs ≡ []
fits_below lo hi n [] are below = refl
fits_below lo hi n (x ∷ xs) are below = lost (is_between lo hi) x xs (below_is lo hi x (omega (arith, are.0, below))) ∙ fits_below lo hi (n + 1) xs are.1 (omega (arith, below))

pub fits_above : (lo hi n : ℕ) (xs : List Entry) → AreNumbered n xs → hi < n → fits lo hi xs ≡ []
fits_above lo hi n [] are above = refl
fits_above lo hi n (x ∷ xs) are above = lost (is_between lo hi) x xs (above_is lo hi x (omega (arith, are.0, above))) ∙ fits_above lo hi (n + 1) xs are.1 (omega (arith, above))

pub fits_inside : (lo hi n : ℕ) (xs : List Entry) → AreNumbered n xs → lo ≤ n → n + length xs ≤ hi + 1 → fits lo hi xs ≡ xs
fits_inside lo hi n [] are from upto = refl
fits_inside lo hi n (x ∷ xs) are from upto =
    stays (is_between lo hi) x xs (inside_is lo hi x (omega (arith, are.0, from)) (omega (arith, are.0, upto)))
    ∙ ap (λ (l : List Entry). x ∷ l) (fits_inside lo hi (n + 1) xs are.1 (omega (arith, from)) (omega (arith, upto)))

-- so it is those between the two
pub fits_between : (lo hi first : ℕ) (xs : List Entry) → AreNumbered first xs → first ≤ lo → hi < first + length xs → lo ≤ hi → fits lo hi xs ≡ between first lo hi xs
fits_between lo hi first xs are from upto some =
    let k = lo - first in
    let n = hi + 1 - lo in
    let front = take k xs in
    let rest = drop k xs in
    let middle = take n rest in
    let back = drop n rest in
    let sizes : length front ≡ k = length-take-le k xs (omega (arith, from, upto, some)) in
    let long = length-drop k xs in
    let count : length middle ≡ n = length-take-le n rest (omega (arith, from, upto, some, long)) in
    let rest_numbered : AreNumbered lo rest = subst (λ (m : ℕ). AreNumbered m rest) (omega (arith, from)) (numbered-drop k first xs (omega (arith, from, upto, some)) are) in
    let front_numbered = numbered_front first front rest (subst (λ (l : List Entry). AreNumbered first l) (sym (take-append-drop k xs)) are) in
    let split : AreNumbered lo (middle ++ back) = subst (λ (l : List Entry). AreNumbered lo l) (sym (take-append-drop n rest)) rest_numbered in
    ap (λ (l : List Entry). fits lo hi l) (sym (take-append-drop k xs)) ∙ filter-append (is_between lo hi) front rest
    ∙ ap (λ (l : List Entry). l ++ fits lo hi rest) (fits_below lo hi first front front_numbered (omega (arith, sizes, from)))
    ∙ ap (λ (l : List Entry). fits lo hi l) (sym (take-append-drop n rest)) ∙ filter-append (is_between lo hi) middle back
    ∙ ap (λ (l : List Entry). fits lo hi middle ++ l) (fits_above lo hi (hi + 1) back (numbered_back lo (hi + 1) middle back (omega (arith, count, some)) split) (omega arith))
    ∙ append-nil (fits lo hi middle) ∙ fits_inside lo hi lo middle (numbered_front lo middle back split) (omega arith) (omega (arith, count, some))

-- ---- the entries of a block

-- the block was read up to a place, as these
abbrev pub IsReadUpTo : List ℕ → ℕ → List Entry → Type 0
IsReadUpTo block at read = (entries : List Entry) → IsBlock entries block → (more : List Entry) × (entries ≡ read ++ more) × (drop at block ≡ spelled more) × AllByRecursion IsSpelled more

pub upto_begin : (block : List ℕ) → IsReadUpTo block 0 []
upto_begin block = λ entries is. (entries, refl, is.whole, is.each)

abbrev got : Option (Entry × ℕ) → Entry × ℕ → Entry × ℕ
got (Some x) other = x
got None other = other

upto_one : (block : List ℕ) (at count : ℕ) (entry : Entry) (read entries more : List Entry) → at < length block → ((e : Entry) (rest : List ℕ) → IsSpelled e → drop at block ≡ spelling e ++ rest → ◌≡◌ {A = Option (Entry × ℕ)} (Some (entry, count)) (Some (e, length (spelling e))))
    → entries ≡ read ++ more → drop at block ≡ spelled more → AllByRecursion IsSpelled more → (later : List Entry) × (entries ≡ (read ++ entry ∷ []) ++ later) × (drop (at + count) block ≡ spelled later) × AllByRecursion IsSpelled later
upto_one block at count entry read entries [] short told is rest each = absurd (omega (arith, short, length-drop at block, ap (λ (l : List ℕ). length l) rest))
upto_one block at count entry read entries (e ∷ more) short told is rest each =
    let same = told e (spelled more) each.0 rest in
    let first : entry ≡ e = ap (λ (o : Option (Entry × ℕ)). (got o (entry, count)).0) same in
    let size : count ≡ length (spelling e) = ap (λ (o : Option (Entry × ℕ)). (got o (entry, count)).1) same in (
      more,
      is ∙ ap (λ (x : Entry). read ++ x ∷ more) (sym first) ∙ sym (append_assoc read (entry ∷ []) more),
      sym (drop-drop count at block) ∙ ap (λ (l : List ℕ). drop count l) rest ∙ drop_at (spelling e) (spelled more) count (sym size),
      each.1,
    )

pub upto_further : (block : List ℕ) (at count : ℕ) (entry : Entry) (read : List Entry) → at < length block → ((e : Entry) (rest : List ℕ) → IsSpelled e → drop at block ≡ spelling e ++ rest → ◌≡◌ {A = Option (Entry × ℕ)} (Some (entry, count)) (Some (e, length (spelling e))))
    → IsReadUpTo block at read → IsReadUpTo block (at + count) (read ++ entry ∷ [])
upto_further block at count entry read short told upto = λ entries is. let before = upto entries is in upto_one block at count entry read entries before.0 short told before.1 before.2 before.3

pub no_more : (more : List Entry) → [] ≡ spelled more → more ≡ []
no_more [] none = refl
no_more (e ∷ more) none = absurd (some_bytes e (spelled more) none)

pub upto_whole : (block : List ℕ) (at : ℕ) (read entries : List Entry) → IsReadUpTo block at read → length block ≤ at → IsBlock entries block → read ≡ entries
upto_whole block at read entries upto past is =
    let end = upto entries is in
    let none = no_more end.0 (sym (drop_all at block past) ∙ end.2) in
    sym (end.1 ∙ ap (λ (l : List Entry). read ++ l) none ∙ append-nil read)

pub upto_stuck : (block : List ℕ) (at : ℕ) (more : List Entry) → at < length block → ((e : Entry) (rest : List ℕ) → IsSpelled e → drop at block ≡ spelling e ++ rest → ⊥) → drop at block ≡ spelled more → AllByRecursion IsSpelled more → ⊥
upto_stuck block at [] short none rest each = omega (arith, short, length-drop at block, ap (λ (l : List ℕ). length l) rest)
upto_stuck block at (e ∷ more) short none rest each = none e (spelled more) each.0 rest

pub upto_none : (block : List ℕ) (at : ℕ) (read entries : List Entry) → IsReadUpTo block at read → at < length block → ((e : Entry) (rest : List ℕ) → IsSpelled e → drop at block ≡ spelling e ++ rest → ⊥) → IsBlock entries block → ⊥
upto_none block at read entries upto short none is = let before = upto entries is in upto_stuck block at before.0 short none before.2 before.3

-- ---- options

pub none_some : (x : Entry × ℕ) → None ≡ Some x → ⊥
none_some x is = false≢true (ap (λ (o : Option (Entry × ℕ)). is_some o) is)

pub none_match : {A : Type 0} (o : Option A) (P : A → Type 0) → o ≡ None → MatchOption o ⊥ P → ⊥
none_match None P is told = told
none_match (Some x) P is told = false≢true (ap (λ o. is_some o) (sym is))

pub some_match : {A : Type 0} (o : Option A) (x : A) (N : Type 0) (P : A → Type 0) → o ≡ Some x → MatchOption o N P → P x
some_match o x N P is told = subst (λ q. MatchOption q N P) is told

pub if_is : {A : Type 0} (o : Option A) (x : A) (P : A → Type 0) → o ≡ Some x → IfSome o P → P x
if_is o x P is told = subst (λ q. IfSome q P) is told

pub none_is : {A : Type 0} (o : Option A) (N : Type 0) (P : A → Type 0) → o ≡ None → MatchOption o N P → N
none_is o N P is told = subst (λ q. MatchOption q N P) is told

-- what was taken was found
pub took : (o : Option ℕ) (P : ℕ → Type 0) (Q : Type 0) → MatchOption o ⊥ (λ reached. P reached × Q) → Q
took None P Q told = absurd told
took (Some reached) P Q told = told.1

pub numbered_none : (last : ℕ) (entries : List Entry) (o : Option ℕ) → o ≡ None → MatchOption o (AreNumbered (last + 1) entries → ⊥) (λ reached. AreNumbered (last + 1) entries × (reached ≡ last + length entries)) → AreNumbered (last + 1) entries → ⊥
numbered_none last entries None is told numbered = told numbered
numbered_none last entries (Some reached) is told numbered = false≢true (ap (λ (o : Option ℕ). is_some o) (sym is))

pub front_within : (bytes : List ℕ) (read : Option (Entry × ℕ)) → IfSome read (λ x. Begins bytes x.0 x.1) → IfSome read (λ x. (1 ≤ x.1) × (x.1 ≤ length bytes))
front_within bytes None told = tt
front_within bytes (Some x) told = (omega (arith, told.long, length-spelling x.0), told.within)

-- a block that begins behind a sequence
pub front_behind : (before count : ℕ) (entry : Entry) (block : List ℕ) (entries : List Entry) → ((e : Entry) (rest : List ℕ) → IsSpelled e → block ≡ spelling e ++ rest → ◌≡◌ {A = Option (Entry × ℕ)} (Some (entry, count)) (Some (e, length (spelling e)))) → 1 ≤ length block
    → entry.sequence ≡ before + 1 → IsBlock entries block → BeginsBehind before entries
front_behind before count entry block [] told some is are = absurd (omega (arith, some, ap (λ (l : List ℕ). length l) are.whole))
front_behind before count entry block (e ∷ entries) told some is are =
    let same = told e (spelled entries) are.each.0 are.whole in
    let first : entry ≡ e = ap (λ (o : Option (Entry × ℕ)). (got o (entry, count)).0) same in
    sym (ap (λ (x : Entry). x.sequence) first) ∙ is

-- ---- the blocks

-- what a block gives
abbrev pub Gives : ℕ → ℕ → List ℕ → ℕ → List Entry → ℕ → List Entry → Type 0
Gives lo hi block last found reached new = (entries : List Entry) → IsBlock entries block → AreNumbered (last + 1) entries → (reached ≡ last + length entries) × (new ≡ found ++ fits lo hi entries)

module _ (lo hi : ℕ) (entries old : List Entry) (last : ℕ) (found : List Entry) where
  ahead_one : (block : List ℕ) (blocks : List (List ℕ)) (s : ℕ) (new : List Entry) (groups : List (List Entry)) → Gives lo hi block last found s new → AreBlocks groups (block ∷ blocks) → AreNumbered (last + 1) (flat groups) → found ++ fits lo hi (flat groups) ≡ old ++ fits lo hi entries
      → IsAhead lo hi entries old s new blocks
  ahead_one block blocks s new [] told are numbered all = absurd are
  ahead_one block blocks s new (g ∷ more) told are numbered all =
      let here = told g are.0 (numbered_front (last + 1) g (flat more) numbered) in
      record {
        groups = more;
        are = are.1;
        numbered = numbered_back (last + 1) (s + 1) g (flat more) (omega (arith, here.0)) numbered;
        all = ap (λ (l : List Entry). l ++ fits lo hi (flat more)) here.1 ∙ append_assoc found (fits lo hi g) (fits lo hi (flat more)) ∙ ap (λ (l : List Entry). found ++ l) (sym (filter-append (is_between lo hi) g (flat more))) ∙ all;
      }

  pub ahead_further : (block : List ℕ) (blocks : List (List ℕ)) (s : ℕ) (new : List Entry) → Gives lo hi block last found s new → IsAhead lo hi entries old last found (block ∷ blocks) → IsAhead lo hi entries old s new blocks
  ahead_further block blocks s new told ahead = ahead_one block blocks s new ahead.groups told ahead.are ahead.numbered ahead.all

  none_by : (block : List ℕ) (blocks : List (List ℕ)) (groups : List (List Entry)) → ((group : List Entry) → IsBlock group block → AreNumbered (last + 1) group → ⊥) → AreBlocks groups (block ∷ blocks) → AreNumbered (last + 1) (flat groups) → ⊥
  none_by block blocks [] none are numbered = are
  none_by block blocks (g ∷ more) none are numbered = none g are.0 (numbered_front (last + 1) g (flat more) numbered)

  pub ahead_none : (block : List ℕ) (blocks : List (List ℕ)) → ((group : List Entry) → IsBlock group block → AreNumbered (last + 1) group → ⊥) → IsAhead lo hi entries old last found (block ∷ blocks) → ⊥
  ahead_none block blocks none ahead = none_by block blocks ahead.groups none ahead.are ahead.numbered

  done_by : (groups : List (List Entry)) → AreBlocks groups [] → found ++ fits lo hi (flat groups) ≡ old ++ fits lo hi entries → found ≡ old ++ fits lo hi entries
  done_by [] are all = sym (append-nil found) ∙ all
  done_by (g ∷ groups) are all = absurd are

  -- no block is left
  pub ahead_done : IsAhead lo hi entries old last found [] → found ≡ old ++ fits lo hi entries
  ahead_done ahead = done_by ahead.groups ahead.are ahead.all

  -- the range ends before what is left
  pub ahead_past : (blocks : List (List ℕ)) → hi ≤ last → IsAhead lo hi entries old last found blocks → found ≡ old ++ fits lo hi entries
  ahead_past blocks past ahead =
      sym (append-nil found) ∙ ap (λ (l : List Entry). found ++ l) (sym (fits_above lo hi (last + 1) (flat ahead.groups) ahead.numbered (omega (arith, past)))) ∙ ahead.all

-- where no block is left, what was taken is all, wherever it ends
pub ended : (lo hi : ℕ) (entries old found : List Entry) (blocks : List (List ℕ)) (taken : Option ℕ) → blocks ≡ [] → MatchOption taken (found ≡ old ++ fits lo hi entries) (λ reached. IsAhead lo hi entries old reached found blocks) → found ≡ old ++ fits lo hi entries
ended lo hi entries old found blocks None none told = told
ended lo hi entries old found blocks (Some reached) none told = ahead_done lo hi entries old reached found (subst (λ (l : List (List ℕ)). IsAhead lo hi entries old reached found l) none told)

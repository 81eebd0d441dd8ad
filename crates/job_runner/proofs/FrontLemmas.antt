-- Where the journal of calls ends: whole calls of the first calls are whole calls of all, and what was acknowledged of the first and of the others was of all.
use Rattle.std.proofs.Common.{◌≡◌, ◌⊎◌, inl, inr, ℕ, zero, suc, ◌+◌, ◌≤◌, Option, List, [], ◌∷◌, ◌++◌, length, take, drop, slice_get, refl, sym, ◌∙◌, ap, subst, arith}
use Rattle.std.proofs.Common.{append_assoc, append-nil, length-append}
use Rattle.std.proofs.lemmas.List.{take-append-drop, take-append-le, take_all}
use Rattle.std.proofs.Math.Seq.{take-append-add}
use Rattle.store_model.specs.Disk.{Areas}
use Rattle.entry_codec.specs.declared.entries.Entry.{Entry}
use Rattle.journal_book.specs.Kept.{SpellEntries}
use Rattle.journal_book.specs.Book.{BookState}
use Rattle.library_model.specs.declared.calls.Call.{Call}
use Rattle.library_model.specs.declared.sources.NamedSource.{NamedSource}
use Rattle.library_steps.specs.State.{State}
use Rattle.library_steps.specs.History.{Outcome, Standing, Runs}
use Rattle.library_core.specs.Fronts.{entries_at, entries_behind, IsAcknowledged, Switches, IsWhole, HasAcknowledged}
use Rattle.job_runner.specs.Moments.{EndsWhole, IsLeft}
use Rattle.run_laws.proofs.OutcomeLemmas.{Runs-append, Runs-one, Runs-split_at}

-- ---- lists

-- where a list is two, one of its items stands in the first or in the second
append-split : {X : Type 0} (made more before : List X) (x : X) (later : List X) → made ++ more ≡ before ++ x ∷ later
    → ((rest : List X) × (made ≡ before ++ x ∷ rest)) ⊎ ((front : List X) × (before ≡ made ++ front) × (more ≡ front ++ x ∷ later))
append-split [] more before x later is = inr (before, refl, is)
append-split (m ∷ made) more [] x later is = inl (made, let same : m ≡ x = cc in ap (λ y. y ∷ made) same)
append-split (m ∷ made) more (b ∷ before) x later is =
    let head : m ≡ b = cc in
    let tail : made ++ more ≡ before ++ x ∷ later = cc in
    elim (append-split made more before x later tail) [
      | inl within ↦ inl (within.0, ap (λ y. y ∷ made) head ∙ ap (λ ys. b ∷ ys) within.1)
      | inr behind ↦ inr (behind.0, ap (λ ys. b ∷ ys) behind.1 ∙ ap (λ y. y ∷ (made ++ behind.0)) (sym head), behind.2)
    ]

none-there : {X : Type 0} (before : List X) (x : X) (later : List X) → [] ≡ before ++ x ∷ later → ⊥
none-there [] x later is = absurd cc
none-there (b ∷ before) x later is = absurd cc

switches-more : (made more : List Call) (n : ℕ) (at : Outcome) (sources : List NamedSource) (count : ℕ) → Switches (slice_get made n) at sources count
    → Switches (slice_get (made ++ more) n) at sources count
switches-more [] more zero at sources count is = absurd is
switches-more [] more (suc n) at sources count is = absurd is
switches-more (call ∷ made) more zero at sources count is = is
switches-more (call ∷ made) more (suc n) at sources count is = switches-more made more n at sources count is

slice_get-behind : (made more : List Call) (n : ℕ) → slice_get (made ++ more) (length made + n) ≡ slice_get more n
slice_get-behind [] more n = let same : 0 + n ≡ n = omega arith in ap (slice_get more) same
slice_get-behind (call ∷ made) more n =
    let one : length (call ∷ made) + n ≡ suc (length made + n) = omega arith in
    ap (slice_get (call ∷ made ++ more)) one ∙ slice_get-behind made more n

-- ---- what was acknowledged

pub acknowledged-none : (sources : List NamedSource) (start : State) (count : ℕ) → HasAcknowledged sources start [] count
acknowledged-none sources start count = λ before call later s is runs acknowledged. absurd (none-there before call later is)

pub acknowledged-least : (sources : List NamedSource) (start : State) (calls : List Call) (few many : ℕ) → few ≤ many → HasAcknowledged sources start calls few
    → HasAcknowledged sources start calls many
acknowledged-least sources start calls few many less has = λ before call later s is runs acknowledged.
    let there = has before call later s is runs acknowledged in
    omega (arith, there, less)

-- that of calls was that of the first of them
pub acknowledged-front : (sources : List NamedSource) (start : State) (calls : List Call) (number count : ℕ) → HasAcknowledged sources start calls count
    → HasAcknowledged sources start (take number calls) count
acknowledged-front sources start calls number count has = λ before call later s is runs acknowledged.
    let whole : calls ≡ before ++ call ∷ (later ++ drop number calls) =
    sym (take-append-drop number calls) ∙ ap (λ (cs : List Call). cs ++ drop number calls) is ∙ append_assoc before (call ∷ later) (drop number calls) in
    has before call (later ++ drop number calls) s whole runs acknowledged

-- that one call was acknowledged
pub acknowledged-call : (sources : List NamedSource) (start : State) (call : Call) (count : ℕ) → (IsAcknowledged sources start call → length (entries_behind sources start call) ≤ count)
    → HasAcknowledged sources start (call ∷ []) count
acknowledged-call sources start call count tells = λ before other later s is runs acknowledged. by before other later s is runs acknowledged
  where
    by : (before : List Call) (other : Call) (later : List Call) (s : State) → call ∷ [] ≡ before ++ other ∷ later → Runs sources (Standing start) before (Standing s) → IsAcknowledged sources s other
        → length (entries_behind sources s other) ≤ count
    by [] other later s is runs acknowledged =
        let same : call ≡ other = cc in
        let state : s ≡ start = cc in
        let mine : IsAcknowledged sources start call = subst (λ (c : Call). IsAcknowledged sources start c) (sym same) (subst (λ (t : State). IsAcknowledged sources t other) state acknowledged) in
        subst (λ (t : State). length (entries_behind sources t other) ≤ count) (sym state) (subst (λ (c : Call). length (entries_behind sources start c) ≤ count) same (tells mine))
    by (b ∷ before) other later s is runs acknowledged = let rest : [] ≡ before ++ other ∷ later = cc in absurd (none-there before other later rest)

-- first some calls, then others
pub acknowledged-append : (sources : List NamedSource) (start mid : State) (made more : List Call) (count : ℕ) → Runs sources (Standing start) made (Standing mid)
    → HasAcknowledged sources start made count → HasAcknowledged sources mid more count → HasAcknowledged sources start (made ++ more) count
acknowledged-append sources start mid made more count led front back = λ before call later s is runs acknowledged.
    by before call later s runs acknowledged (append-split made more before call later is)
  where
    by : (before : List Call) (call : Call) (later : List Call) (s : State) → Runs sources (Standing start) before (Standing s) → IsAcknowledged sources s call
        → ((rest : List Call) × (made ≡ before ++ call ∷ rest)) ⊎ ((between : List Call) × (before ≡ made ++ between) × (more ≡ between ++ call ∷ later))
        → length (entries_behind sources s call) ≤ count
    by before call later s runs acknowledged (inl (rest, within)) = front before call rest s within runs acknowledged
    by before call later s runs acknowledged (inr (between, behind, is)) =
        let split = Runs-split_at sources (Standing start) s made between (subst (λ (cs : List Call). Runs sources (Standing start) cs (Standing s)) behind runs) in
        let same : split.0 ≡ mid = Runs-one sources (Standing start) split.0 mid made split.1 led in
        back between call later s is (subst (λ (t : State). Runs sources (Standing t) between (Standing s)) same split.2) acknowledged

-- ---- whole calls

pub whole-none : (sources : List NamedSource) (start : State) (calls : List Call) → IsWhole sources start calls (length start.entries)
whole-none sources start calls = record { made = 0; few = omega arith; outcome = Standing start; runs = take-none calls; count_is = inl refl }
  where
    take-none : (cs : List Call) → Runs sources (Standing start) (take 0 cs) (Standing start)
    take-none [] = refl
    take-none (c ∷ cs) = refl

pub whole-all : (sources : List NamedSource) (start : State) (calls : List Call) (outcome : Outcome) → Runs sources (Standing start) calls outcome
    → IsWhole sources start calls (length (entries_at outcome))
whole-all sources start calls outcome runs = record {
  made = length calls;
  few = omega arith;
  outcome = outcome;
  runs = subst (λ (cs : List Call). Runs sources (Standing start) cs outcome) (sym (take_all (length calls) calls (omega arith))) runs;
  count_is = inl refl;
}

pub whole-more : (sources : List NamedSource) (start : State) (made more : List Call) (count : ℕ) → IsWhole sources start made count → IsWhole sources start (made ++ more) count
whole-more sources start made more count whole = record {
  made = whole.made;
  few = omega (arith, whole.few, length-append made more);
  outcome = whole.outcome;
  runs = subst (λ (cs : List Call). Runs sources (Standing start) cs whole.outcome) (sym (take-append-le whole.made made more whole.few)) whole.runs;
  count_is = elim whole.count_is [
    | inl is ↦ inl is
    | inr one ↦ inr (one.0, switches-more made more whole.made whole.outcome sources count one.1)
  ];
}

pub whole-behind : (sources : List NamedSource) (start mid : State) (made more : List Call) (count : ℕ) → Runs sources (Standing start) made (Standing mid)
    → IsWhole sources mid more count → IsWhole sources start (made ++ more) count
whole-behind sources start mid made more count led whole = record {
  made = length made + whole.made;
  few = omega (arith, whole.few, length-append made more);
  outcome = whole.outcome;
  runs =
      subst (λ (cs : List Call). Runs sources (Standing start) cs whole.outcome) (sym (take-append-add made more whole.made))
      (Runs-append sources (Standing start) (Standing mid) whole.outcome made (take whole.made more) led whole.runs);
  count_is = elim whole.count_is [
    | inl is ↦ inl is
    | inr one ↦ inr (one.0, subst (λ (o : Option Call). Switches o whole.outcome sources count) (sym (slice_get-behind made more whole.made)) one.1)
  ];
}

-- ---- where the journal ends

-- the same with calls that come later
pub ends-more : (sources : List NamedSource) (start : State) (forced : ℕ) (made more acknowledged : List Call) (count : ℕ) → EndsWhole sources start forced made acknowledged count
    → EndsWhole sources start forced (made ++ more) acknowledged count
ends-more sources start forced made more acknowledged count ends = record {
  which = elim ends.which [
    | inl is ↦ inl is
    | inr whole ↦ inr (whole-more sources start made more count whole)
  ];
  least = ends.least;
  has = ends.has;
}

module _ (sources : List NamedSource) (start mid : State) (made more : List Call) (led : Runs sources (Standing start) made (Standing mid)) (forced between : ℕ)
    (front : EndsWhole sources start forced made made between) where
  ends-which : (count : ℕ) → (count ≡ between) ⊎ IsWhole sources mid more count → (count ≡ forced) ⊎ IsWhole sources start (made ++ more) count
  ends-which count (inl is) = elim front.which [
    | inl before ↦ inl (is ∙ before)
    | inr whole ↦ inr (whole-more sources start made more count (subst (IsWhole sources start made) (sym is) whole))
  ]
  ends-which count (inr whole) = inr (whole-behind sources start mid made more count led whole)

  -- with what was acknowledged of the first calls, and of these
  pub ends-joined : (acknowledged : List Call) (count : ℕ) → EndsWhole sources mid between more acknowledged count
      → EndsWhole sources start forced (made ++ more) (made ++ acknowledged) count
  ends-joined acknowledged count ends = record {
    which = ends-which count ends.which;
    least = omega (arith, front.least, ends.least);
    has = acknowledged-append sources start mid made acknowledged count led (acknowledged-least sources start made between count ends.least front.has) ends.has;
  }

-- ---- what a stop has left

-- the same entries of a journal that has grown
pub left-more : (sources : List NamedSource) (start mid : State) (book : BookState) (made more acknowledged : List Call) (outcome : Outcome) (areas : Areas) (behind : List Entry)
    → entries_at outcome ≡ mid.entries ++ behind → IsLeft sources start book made acknowledged (Standing mid) areas → IsLeft sources start book (made ++ more) acknowledged outcome areas
left-more sources start mid book made more acknowledged outcome areas behind grows left = record {
  count = left.count;
  ends = ends-more sources start book.forced made more acknowledged left.count left.ends;
  most = let most : left.count ≤ length mid.entries = left.most in omega (arith, most, ap (λ (es : List Entry). length es) grows, length-append mid.entries behind);
  spells =
      subst (λ (es : List Entry). SpellEntries book.chain.first es areas)
      (sym (ap (λ (es : List Entry). take left.count es) grows ∙ take-append-le left.count mid.entries behind left.most)) left.spells;
}

-- less is asked of it
pub left-less : (sources : List NamedSource) (start : State) (book : BookState) (calls acknowledged fewer : List Call) (outcome : Outcome) (areas : Areas)
    → ((count : ℕ) → HasAcknowledged sources start acknowledged count → HasAcknowledged sources start fewer count)
    → IsLeft sources start book calls acknowledged outcome areas → IsLeft sources start book calls fewer outcome areas
left-less sources start book calls acknowledged fewer outcome areas less left = record {
  count = left.count;
  ends = record { which = left.ends.which; least = left.ends.least; has = less left.count left.ends.has };
  most = left.most;
  spells = left.spells;
}

-- calls, and then others: what was acknowledged of the first, and of these
module _ (sources : List NamedSource) (start mid : State) (made more : List Call) (led : Runs sources (Standing start) made (Standing mid)) (before between : BookState)
    (front : EndsWhole sources start before.forced made made between.forced) (receiver : between.chain.first ≡ before.chain.first) (outcome : Outcome) (areas : Areas) where
  pub left-joined : (acknowledged : List Call) → IsLeft sources mid between more acknowledged outcome areas
      → IsLeft sources start before (made ++ more) (made ++ acknowledged) outcome areas
  left-joined acknowledged left = record {
    count = left.count;
    ends = ends-joined sources start mid made more led before.forced between.forced front acknowledged left.count left.ends;
    most = left.most;
    spells = subst (λ (n : ℕ). SpellEntries n (take left.count (entries_at outcome)) areas) receiver left.spells;
  }

  -- of these nothing is asked, and of the first some
  pub left-front : (number : ℕ) → IsLeft sources mid between more [] outcome areas → IsLeft sources start before (made ++ more) (take number made) outcome areas
  left-front number left =
      left-less sources start before (made ++ more) (made ++ []) (take number made) outcome areas
      (λ count has. acknowledged-front sources start made number count (subst (λ (cs : List Call). HasAcknowledged sources start cs count) (append-nil made) has))
      (left-joined [] left)

  -- of all nothing is asked
  pub left-behind : IsLeft sources mid between more [] outcome areas → IsLeft sources start before (made ++ more) [] outcome areas
  left-behind left =
      left-less sources start before (made ++ more) (made ++ []) [] outcome areas (λ count has. acknowledged-none sources start count) (left-joined [] left)

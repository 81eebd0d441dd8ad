-- The unique paths over a member, one after the other by their numbers: what is done of each of them is done of all.
use Rattle.std.proofs.Common.{◌≡◌, ◌⊎◌, inl, inr, ℕ, suc, ◌<◌, ◌≤◌, ◌==◌, ◌&&◌, nat_lt, Bool, true, false, cond, [], ◌∷◌, length, Option, Some, None, sym, ap, subst, ◌∙◌, refl, arith}
use Rattle.std.specs.Prelude.{filter}
use Rattle.std.specs.List.{AllByRecursion, find}
use Rattle.std.specs.Option.{option_map}
use Rattle.std.proofs.lemmas.Bool.{cond-false, cond-true, eqb-true, ltb-false}
use Rattle.std.proofs.lemmas.Bool.Decides.{nat_tests}
use Rattle.member_slots.specs.Members.{Numbered, item_at}
use Rattle.path_set.specs.KeptPaths.{AreShared, KeptPath, NumberedPaths}
use Rattle.path_set.specs.MemberSteps.{is_above, is_over, is_unique_over}
use Rattle.library_paths.proofs.ListLemmas.{EachTwo, two-from}
use Rattle.library_paths.proofs.NumberLemmas.{IsBelow, each-at, some-equal, under}

-- ---- what a test finds

and-first : (a b : Bool) → (a && b) ≡ true → a ≡ true
and-first true b h = refl
and-first false b h = absurd cc

and-second : (a b : Bool) → (a && b) ≡ true → b ≡ true
and-second true b h = h
and-second false b h = absurd cc

all-true : (a b c : Bool) → a ≡ true → b ≡ true → c ≡ true → (a && (b && c)) ≡ true
all-true a b c first second third = λ i. first i && (second i && third i)

here-is : (id : ℕ) (path : KeptPath) (p : Numbered KeptPath) → (p.number == id) ≡ true → p.item ≡ path → p ≡ under id path
here-is id path p same its = let own : p.number ≡ id = eqb-true p.number id same in λ i. record { number = own i; item = its i }

find-passes : (test : Numbered KeptPath → Bool) (q : Numbered KeptPath) (paths : NumberedPaths) → find test paths ≡ Some q → test q ≡ true
find-passes test q [] found = absurd cc
find-passes test q (p ∷ paths) found = by (test p) refl found (λ e. find-passes test q paths e)
  where
    by : (b : Bool) → test p ≡ b → cond b (Some p) (find test paths) ≡ Some q → (find test paths ≡ Some q → test q ≡ true) → test q ≡ true
    by true passes is more = let own : p ≡ q = some-equal is in sym (ap test own) ∙ passes
    by false fails is more = more is

-- its number finds it
find-there : (test : Numbered KeptPath → Bool) (q : Numbered KeptPath) (paths : NumberedPaths) → EachTwo IsBelow paths → find test paths ≡ Some q → item_at q.number paths ≡ Some q.item
find-there test q [] two found = absurd cc
find-there test q (p ∷ paths) two found = by (test p) found (λ e. find-there test q paths two.1 e)
  where
    by : (b : Bool) → cond b (Some p) (find test paths) ≡ Some q → (find test paths ≡ Some q → item_at q.number paths ≡ Some q.item)
        → cond (p.number == q.number) (Some p.item) (item_at q.number paths) ≡ Some q.item
    by true is more =
        let own : p ≡ q = some-equal is in
        let number : p.number ≡ q.number = ap (λ (n : Numbered KeptPath). n.number) own in
        cond-true (p.number == q.number) (Some p.item) (item_at q.number paths) (let e : (p.number == q.number) ≡ true = grind (arith, nat_tests) in e)
        ∙ ap (λ (n : Numbered KeptPath). Some n.item) own
    by false is more =
        let later = more is in
        let lower : p.number < q.number = each-at (IsBelow p) q.number q.item paths two.0 later in
        cond-false (p.number == q.number) (Some p.item) (item_at q.number paths) (let e : (p.number == q.number) ≡ false = grind (arith, nat_tests) in e) ∙ later

-- of those that pass, it has the least number
find-least : (test : Numbered KeptPath → Bool) (id : ℕ) (path : KeptPath) (q : Numbered KeptPath) (paths : NumberedPaths) → EachTwo IsBelow paths → item_at id paths ≡ Some path
    → test (under id path) ≡ true → find test paths ≡ Some q → q.number ≤ id
find-least test id path q [] two at passes found = absurd cc
find-least test id path q (p ∷ paths) two at passes found = by (p.number == id) refl (test p) refl at found (λ e f. find-least test id path q paths two.1 e passes f)
  where
    by : (same : Bool) → (p.number == id) ≡ same → (b : Bool) → test p ≡ b → cond same (Some p.item) (item_at id paths) ≡ Some path → cond b (Some p) (find test paths) ≡ Some q
        → (item_at id paths ≡ Some path → find test paths ≡ Some q → q.number ≤ id) → q.number ≤ id
    by true is true first e f more =
        let own : p ≡ q = some-equal f in
        let its : q.number ≡ p.number = ap (λ (n : Numbered KeptPath). n.number) (sym own) in
        let number : p.number ≡ id = eqb-true p.number id is in
        omega (arith, its, number)
    by true is false first e f more =
        let here : p ≡ under id path = here-is id path p is (some-equal e) in
        absurd (let t : test p ≡ true = ap test here ∙ passes in cc)
    by false is true first e f more =
        let own : p ≡ q = some-equal f in
        let its : q.number ≡ p.number = ap (λ (n : Numbered KeptPath). n.number) (sym own) in
        let lower : p.number < id = each-at (IsBelow p) id path paths two.0 e in
        omega (arith, its, lower)
    by false is false first e f more = more e f

all-fail : (test : Numbered KeptPath → Bool) (paths : NumberedPaths) → find test paths ≡ None → AllByRecursion (λ (q : Numbered KeptPath). test q ≡ false) paths
all-fail test [] none = tt
all-fail test (p ∷ paths) none = by (test p) refl none (λ rest. all-fail test paths rest)
  where
    by : (b : Bool) → test p ≡ b → cond b (Some p) (find test paths) ≡ None → (find test paths ≡ None → AllByRecursion (λ (q : Numbered KeptPath). test q ≡ false) paths)
        → (test p ≡ false) × AllByRecursion (λ (q : Numbered KeptPath). test q ≡ false) paths
    by true passes is more = absurd cc
    by false fails is more = (fails, more is)

-- where none is found, none passes
find-none : (test : Numbered KeptPath → Bool) (id : ℕ) (path : KeptPath) (paths : NumberedPaths) → item_at id paths ≡ Some path → find test paths ≡ None → test (under id path) ≡ false
find-none test id path paths at none = each-at (λ (q : Numbered KeptPath). test q ≡ false) id path paths (all-fail test paths none) at

-- ---- how many are left

both-more : (a b : ℕ) → a ≤ b → suc a ≤ suc b
both-more a b low = omega (arith, low)

one-more : (a b : ℕ) → a ≤ b → a ≤ suc b
one-more a b low = omega (arith, low)

both-above : (a b : ℕ) → a < b → suc a < suc b
both-above a b less = omega (arith, less)

one-above : (a b : ℕ) → a ≤ b → a < suc b
one-above a b low = omega (arith, low)

some-above : (b : ℕ) → 0 < suc b
some-above b = omega arith

weaker : (a b : ℕ) → a < b → a ≤ b
weaker a b less = omega (arith, less)

abbrev pub above_of : ℕ → NumberedPaths → NumberedPaths
above_of id paths = filter (λ (q : Numbered KeptPath). nat_lt id q.number) paths

abbrev pub left_from : Option ℕ → NumberedPaths → ℕ
left_from None paths = 0
left_from (Some id) paths = suc (length (above_of id paths))

fewer-above : (id next : ℕ) → id ≤ next → (paths : NumberedPaths) → length (above_of next paths) ≤ length (above_of id paths)
fewer-above id next low [] = (let none : 0 ≤ 0 = omega arith in none)
fewer-above id next low (p ∷ paths) = by (nat_lt next p.number) refl (nat_lt id p.number) refl (fewer-above id next low paths)
  where
    by : (b : Bool) → nat_lt next p.number ≡ b → (d : Bool) → nat_lt id p.number ≡ d → length (above_of next paths) ≤ length (above_of id paths)
        → length (cond b (p ∷ above_of next paths) (above_of next paths)) ≤ length (cond d (p ∷ above_of id paths) (above_of id paths))
    by true past true also rest = both-more (length (above_of next paths)) (length (above_of id paths)) rest
    by true past false also rest = absurd (grind (arith, nat_tests))
    by false past true also rest = one-more (length (above_of next paths)) (length (above_of id paths)) rest
    by false past false also rest = rest

less-above : (test : Numbered KeptPath → Bool) (id : ℕ) (q : Numbered KeptPath) (paths : NumberedPaths) → id < q.number → find test paths ≡ Some q
    → length (above_of q.number paths) < length (above_of id paths)
less-above test id q [] above found = absurd cc
less-above test id q (p ∷ paths) above found = step (nat_lt q.number p.number) refl (nat_lt id p.number) refl (by (test p) found (λ e. less-above test id q paths above e))
  where
    by : (b : Bool) → cond b (Some p) (find test paths) ≡ Some q → (find test paths ≡ Some q → length (above_of q.number paths) < length (above_of id paths))
        → (p.number ≡ q.number) ⊎ (length (above_of q.number paths) < length (above_of id paths))
    by true is more = let own : p ≡ q = some-equal is in inl (ap (λ (n : Numbered KeptPath). n.number) own)
    by false is more = inr (more is)

    step : (b : Bool) → nat_lt q.number p.number ≡ b → (d : Bool) → nat_lt id p.number ≡ d → (p.number ≡ q.number) ⊎ (length (above_of q.number paths) < length (above_of id paths))
        → length (cond b (p ∷ above_of q.number paths) (above_of q.number paths)) < length (cond d (p ∷ above_of id paths) (above_of id paths))
    step true past d also (inl same) = absurd (grind (arith, nat_tests))
    step false past true also (inl same) = one-above (length (above_of q.number paths)) (length (above_of id paths)) (fewer-above id q.number (weaker id q.number above) paths)
    step false past false also (inl same) = absurd (grind (arith, nat_tests))
    step true past true also (inr less) = both-above (length (above_of q.number paths)) (length (above_of id paths)) less
    step true past false also (inr less) = absurd (grind (arith, nat_tests))
    step false past true also (inr less) =
        one-above (length (above_of q.number paths)) (length (above_of id paths)) (weaker (length (above_of q.number paths)) (length (above_of id paths)) less)
    step false past false also (inr less) = less

-- behind each of them fewer are left
pub left-fewer : (member id : ℕ) (next : Option ℕ) (paths : NumberedPaths) → next ≡ option_map (λ (q : Numbered KeptPath). q.number) (find (is_unique_over member (Some id)) paths)
    → left_from next paths < left_from (Some id) paths
left-fewer member id next paths is =
    subst (λ (o : Option ℕ). left_from o paths < suc (length (above_of id paths))) (sym is) (by (find (is_unique_over member (Some id)) paths) refl)
  where
    by : (o : Option (Numbered KeptPath)) → find (is_unique_over member (Some id)) paths ≡ o
        → left_from (option_map (λ (q : Numbered KeptPath). q.number) o) paths < suc (length (above_of id paths))
    by None found = some-above (length (above_of id paths))
    by (Some q) found =
        let passes = find-passes (is_unique_over member (Some id)) q paths found in
        let past : nat_lt id q.number ≡ true = and-second q.item.spec.unique (nat_lt id q.number) (and-second (is_over member q.item.spec) (q.item.spec.unique && nat_lt id q.number) passes) in
        let above : id < q.number = grind (arith, nat_tests) in
        both-above (length (above_of q.number paths)) (length (above_of id paths)) (less-above (is_unique_over member (Some id)) id q paths above found)

-- ---- one after the other

-- it is done of the unique paths up to a number, and the next one is known
pub record AreDoneTo (member : ℕ) (paths : NumberedPaths) (D : ℕ → KeptPath → Type 0) (next : Option ℕ) : Type 0 where
  pub after : Option ℕ
  pub next_is : next ≡ option_map (λ (q : Numbered KeptPath). q.number) (find (is_unique_over member after) paths)
  pub done : (id : ℕ) (path : KeptPath) → item_at id paths ≡ Some path → is_over member path.spec ≡ true → path.spec.unique ≡ true → is_above after id ≡ false → D id path

-- a path of this number is over the member
pub record IsPathOver (member id : ℕ) (paths : NumberedPaths) : Type 0 where
  pub path : KeptPath
  pub at : item_at id paths ≡ Some path
  pub over : is_over member path.spec ≡ true
  pub unique : path.spec.unique ≡ true

module _ (member : ℕ) (paths : NumberedPaths) (D : ℕ → KeptPath → Type 0) where
  pub done-first : (next : Option ℕ) → next ≡ option_map (λ (q : Numbered KeptPath). q.number) (find (is_unique_over member None) paths) → AreDoneTo member paths D next
  done-first next is = record { after = None; next_is = is; done = λ id path at over unique past. absurd (let e : true ≡ false = past in cc) }

  -- the next one is there
  pub next-there : (next : Option ℕ) (id : ℕ) → AreShared paths → AreDoneTo member paths D next → next ≡ Some id → IsPathOver member id paths
  next-there next id shared is number = by (find (is_unique_over member is.after) paths) refl (sym number ∙ is.next_is)
    where
      by : (o : Option (Numbered KeptPath)) → find (is_unique_over member is.after) paths ≡ o → Some id ≡ option_map (λ (q : Numbered KeptPath). q.number) o → IsPathOver member id paths
      by None found own = absurd cc
      by (Some q) found own =
          let same : q.number ≡ id = some-equal (sym own) in
          record {
            path = q.item;
            at = ap (λ (n : ℕ). item_at n paths) (sym same) ∙ find-there (is_unique_over member is.after) q paths (two-from IsBelow paths shared.ascend) found;
            over = and-first (is_over member q.item.spec) (q.item.spec.unique && is_above is.after q.number) (find-passes (is_unique_over member is.after) q paths found);
            unique = and-first q.item.spec.unique (is_above is.after q.number)
                (and-second (is_over member q.item.spec) (q.item.spec.unique && is_above is.after q.number) (find-passes (is_unique_over member is.after) q paths found));
          }

  -- those up to the one of this number are done, where it is
  done-to : (next : Option ℕ) (id : ℕ) → AreShared paths → AreDoneTo member paths D next → next ≡ Some id → ((path : KeptPath) → item_at id paths ≡ Some path → D id path)
      → (other : ℕ) (path : KeptPath) → item_at other paths ≡ Some path → is_over member path.spec ≡ true → path.spec.unique ≡ true → nat_lt id other ≡ false → D other path
  done-to next id shared is number here other path at over unique past = by (is_above is.after other) refl
    where
      least : (o : Option (Numbered KeptPath)) → find (is_unique_over member is.after) paths ≡ o → Some id ≡ option_map (λ (q : Numbered KeptPath). q.number) o
          → is_above is.after other ≡ true → id ≤ other
      least None found own above = absurd cc
      least (Some q) found own above =
          let same : q.number ≡ id = some-equal (sym own) in
          let low : q.number ≤ other =
          find-least (is_unique_over member is.after) other path q paths (two-from IsBelow paths shared.ascend) at
          (all-true (is_over member path.spec) path.spec.unique (is_above is.after other) over unique above) found in
          omega (arith, same, low)

      by : (b : Bool) → is_above is.after other ≡ b → D other path
      by false below = is.done other path at over unique below
      by true above =
          let low : id ≤ other = least (find (is_unique_over member is.after) paths) refl (sym number ∙ is.next_is) above in
          let high : other ≤ id = ltb-false id other past in
          let same : id ≡ other = omega (arith, low, high) in
          subst (λ (n : ℕ). D n path) same (here path (ap (λ (n : ℕ). item_at n paths) same ∙ at))

  pub done-next : (now next : Option ℕ) (id : ℕ) → AreShared paths → AreDoneTo member paths D now → now ≡ Some id → ((path : KeptPath) → item_at id paths ≡ Some path → D id path)
      → next ≡ option_map (λ (q : Numbered KeptPath). q.number) (find (is_unique_over member (Some id)) paths) → AreDoneTo member paths D next
  done-next now next id shared is number here next_is = record { after = Some id; next_is = next_is; done = done-to now id shared is number here }

  -- where none is left, it is done of all
  pub done-end : (next : Option ℕ) → AreDoneTo member paths D next → next ≡ None → (id : ℕ) (path : KeptPath) → item_at id paths ≡ Some path → is_over member path.spec ≡ true
      → path.spec.unique ≡ true → D id path
  done-end next is none id path at over unique = by (is_above is.after id) refl
    where
      nothing : (o : Option (Numbered KeptPath)) → find (is_unique_over member is.after) paths ≡ o → option_map (λ (q : Numbered KeptPath). q.number) o ≡ None
          → find (is_unique_over member is.after) paths ≡ None
      nothing None found own = found
      nothing (Some q) found own = absurd cc

      by : (b : Bool) → is_above is.after id ≡ b → D id path
      by false below = is.done id path at over unique below
      by true above =
          let fails : is_unique_over member is.after (under id path) ≡ false =
          find-none (is_unique_over member is.after) id path paths at (nothing (find (is_unique_over member is.after) paths) refl (sym is.next_is ∙ none)) in
          let passes : is_unique_over member is.after (under id path) ≡ true = all-true (is_over member path.spec) path.spec.unique (is_above is.after id) over unique above in
          absurd (let e : false ≡ true = sym fails ∙ passes in cc)

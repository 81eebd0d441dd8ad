-- Paths by their numbers: what holds of them where one is changed, put in its order, or taken out.
use Rattle.std.proofs.Common.{ℕ, ◌<◌, ◌≡◌, ◌≢◌, ◌==◌, ◌⊎◌, inl, inr, nat_lt, if◌then◌else◌, Bool, true, false, cond, not, [], ◌∷◌, Some, None, refl, sym, ap, arith, subst, ◌∙◌}
use Rattle.std.specs.Prelude.{Any}
use Rattle.std.specs.List.{AllByRecursion}
use Rattle.std.proofs.lemmas.Bool.{cond-false, cond-true, eqb-true}
use Rattle.std.proofs.lemmas.Bool.Decides.{nat_tests}
use Rattle.member_slots.specs.Members.{Numbered, item_at, put_item, with_item, without_item}
use Rattle.path_set.specs.KeptPaths.{KeptPath, NumberedPaths}
use Rattle.library_paths.proofs.ListLemmas.{EachTwo, any-cons, any-first, any-later, any-none, each-filter, each-of, each-two, filter-all}

pub some-equal : {A : Type 0} {a b : A} → Some a ≡ Some b → a ≡ b
some-equal e = cc

abbrev pub under : ℕ → KeptPath → Numbered KeptPath
under id item = record { number = id; item = item }

-- the numbers ascend, and no two have one specification
abbrev pub IsBelow : Numbered KeptPath → Numbered KeptPath → Type 0
IsBelow former later = former.number < later.number

abbrev pub IsAnother : Numbered KeptPath → Numbered KeptPath → Type 0
IsAnother former later = former.item.spec ≢ later.item.spec

under-is : (id : ℕ) (path : KeptPath) (p : Numbered KeptPath) → (p.number == id) ≡ true → p.item ≡ path → p ≡ under id path
under-is id path p same its = let own : p.number ≡ id = eqb-true p.number id same in λ i. record { number = own i; item = its i }

-- ---- the path of a number

pub each-at : (P : Numbered KeptPath → Type 0) (id : ℕ) (path : KeptPath) (paths : NumberedPaths) → AllByRecursion P paths → item_at id paths ≡ Some path → P (under id path)
each-at P id path [] all at = absurd cc
each-at P id path (p ∷ paths) all at =
    elim (p.number == id) as (λ b. (p.number == id) ≡ b → cond b (Some p.item) (item_at id paths) ≡ Some path → P (under id path)) [
      | true ↦ λ same e. subst P (under-is id path p same (some-equal e)) all.0
      | false ↦ λ differs e. each-at P id path paths all.1 e
    ] refl at

pub any-at : (P : Numbered KeptPath → Type 0) (id : ℕ) (path : KeptPath) (paths : NumberedPaths) → item_at id paths ≡ Some path → P (under id path) → Any P paths
any-at P id path [] at is = absurd cc
any-at P id path (p ∷ paths) at is =
    elim (p.number == id) as (λ b. (p.number == id) ≡ b → cond b (Some p.item) (item_at id paths) ≡ Some path → Any P (p ∷ paths)) [
      | true ↦ λ same e. any-first P p paths (subst P (sym (under-is id path p same (some-equal e))) is)
      | false ↦ λ differs e. any-later P p paths (any-at P id path paths e is)
    ] refl at

-- one of which it holds is found by its number
pub record IsFoundAt (P : Numbered KeptPath → Type 0) (paths : NumberedPaths) : Type 0 where
  pub id : ℕ
  pub path : KeptPath
  pub at : item_at id paths ≡ Some path
  pub holds : P (under id path)

pub at-any : (P : Numbered KeptPath → Type 0) (paths : NumberedPaths) → EachTwo IsBelow paths → Any P paths → IsFoundAt P paths
at-any P [] two any = absurd (any-none P any)
at-any P (p ∷ paths) two any =
    elim (any-cons P p paths any) [
      | inl is ↦ record {
        id = p.number;
        path = p.item;
        at = cond-true (p.number == p.number) (Some p.item) (item_at p.number paths) (let e : (p.number == p.number) ≡ true = grind (arith, nat_tests) in e);
        holds = is;
      }
      | inr rest ↦ let found = at-any P paths two.1 rest in
          let less : p.number < found.id = each-at (IsBelow p) found.id found.path paths two.0 found.at in
          record {
            id = found.id;
            path = found.path;
            at = cond-false (p.number == found.id) (Some p.item) (item_at found.id paths) (let e : (p.number == found.id) ≡ false = grind (arith, nat_tests) in e) ∙ found.at;
            holds = found.holds;
          }
    ]

-- two numbers of one specification are one
pub one-number : (id other : ℕ) (path another : KeptPath) (paths : NumberedPaths) → EachTwo IsAnother paths → item_at id paths ≡ Some path → item_at other paths ≡ Some another
    → path.spec ≡ another.spec → id ≡ other
one-number id other path another [] two at also same = absurd cc
one-number id other path another (p ∷ paths) two at also same =
    by (p.number == id) refl (p.number == other) refl at also (λ e f. one-number id other path another paths two.1 e f same)
  where
    by : (b : Bool) → (p.number == id) ≡ b → (c : Bool) → (p.number == other) ≡ c → cond b (Some p.item) (item_at id paths) ≡ Some path
        → cond c (Some p.item) (item_at other paths) ≡ Some another → (item_at id paths ≡ Some path → item_at other paths ≡ Some another → id ≡ other) → id ≡ other
    by true first true second e f rest = sym (eqb-true p.number id first) ∙ eqb-true p.number other second
    by true first false second e f rest =
        absurd (each-at (IsAnother p) other another paths two.0 f (ap (λ (k : KeptPath). k.spec) (some-equal e) ∙ same))
    by false first true second e f rest =
        absurd (each-at (IsAnother p) id path paths two.0 e (ap (λ (k : KeptPath). k.spec) (some-equal f) ∙ sym same))
    by false first false second e f rest = rest e f

-- ---- one is changed

module _ (id : ℕ) (path new : KeptPath) where
  pub each-with : (P : Numbered KeptPath → Type 0) (paths : NumberedPaths) → (P (under id path) → P (under id new)) → item_at id paths ≡ Some path → AllByRecursion P paths
      → AllByRecursion P (with_item id new paths)
  each-with P [] change at all = tt
  each-with P (p ∷ paths) change at all =
      elim (p.number == id) as (λ b. (p.number == id) ≡ b → cond b (Some p.item) (item_at id paths) ≡ Some path
      → AllByRecursion P (if b then under id new ∷ paths else p ∷ with_item id new paths)) [
        | true ↦ λ same e. (change (subst P (under-is id path p same (some-equal e)) all.0), all.1)
        | false ↦ λ differs e. (all.0, each-with P paths change e all.1)
      ] refl at

  pub any-with : (P : Numbered KeptPath → Type 0) (paths : NumberedPaths) → (P (under id path) → P (under id new)) → item_at id paths ≡ Some path → Any P paths
      → Any P (with_item id new paths)
  any-with P [] change at any = absurd (any-none P any)
  any-with P (p ∷ paths) change at any =
      by (p.number == id) refl (any-cons P p paths any) at (λ e rest. any-with P paths change e rest)
    where
      by : (b : Bool) → (p.number == id) ≡ b → (P p) ⊎ Any P paths → cond b (Some p.item) (item_at id paths) ≡ Some path
          → (item_at id paths ≡ Some path → Any P paths → Any P (with_item id new paths)) → Any P (if b then under id new ∷ paths else p ∷ with_item id new paths)
      by true same (inl is) e more = any-first P (under id new) paths (change (subst P (under-is id path p same (some-equal e)) is))
      by true same (inr rest) e more = any-later P (under id new) paths rest
      by false differs (inl is) e more = any-first P p (with_item id new paths) is
      by false differs (inr rest) e more = any-later P p (with_item id new paths) (more e rest)

  pub two-with : (R : Numbered KeptPath → Numbered KeptPath → Type 0) (paths : NumberedPaths) → ((q : Numbered KeptPath) → R (under id path) q → R (under id new) q)
      → ((q : Numbered KeptPath) → R q (under id path) → R q (under id new)) → item_at id paths ≡ Some path → EachTwo R paths → EachTwo R (with_item id new paths)
  two-with R [] first second at two = tt
  two-with R (p ∷ paths) first second at two =
      elim (p.number == id) as (λ b. (p.number == id) ≡ b → cond b (Some p.item) (item_at id paths) ≡ Some path
      → EachTwo R (if b then under id new ∷ paths else p ∷ with_item id new paths)) [
        | true ↦ λ same e. (
          each-of (R p) (R (under id new)) (λ q is. first q (subst (λ (x : Numbered KeptPath). R x q) (under-is id path p same (some-equal e)) is)) paths two.0,
          two.1,
        )
        | false ↦ λ differs e. (each-with (R p) paths (second p) e two.0, two-with R paths first second e two.1)
      ] refl at

  -- what holds of it and of those of other specifications holds of each
  pub others-with : (P : Numbered KeptPath → Type 0) (paths : NumberedPaths) → EachTwo IsAnother paths → AllByRecursion (λ (q : Numbered KeptPath). q.item.spec ≢ path.spec → P q) paths
      → P (under id new) → item_at id paths ≡ Some path → AllByRecursion P (with_item id new paths)
  others-with P [] two each own at = tt
  others-with P (p ∷ paths) two each own at =
      elim (p.number == id) as (λ b. (p.number == id) ≡ b → cond b (Some p.item) (item_at id paths) ≡ Some path
      → AllByRecursion P (if b then under id new ∷ paths else p ∷ with_item id new paths)) [
        | true ↦ λ same e. (
          own,
          each-two (IsAnother p) (λ (q : Numbered KeptPath). q.item.spec ≢ path.spec → P q) P
              (λ q differs is. is (λ equal. differs (ap (λ (k : KeptPath). k.spec) (some-equal e) ∙ sym equal))) paths two.0 each.1,
        )
        | false ↦ λ differs e. (each.0 (each-at (IsAnother p) id path paths two.0 e), others-with P paths two.1 each.1 own e)
      ] refl at

-- ---- one is put

module _ (id : ℕ) (item : KeptPath) where
  pub each-put : (P : Numbered KeptPath → Type 0) (paths : NumberedPaths) → P (under id item) → AllByRecursion P paths → AllByRecursion P (put_item id item paths)
  each-put P [] own all = (own, tt)
  each-put P (p ∷ paths) own all =
      elim (nat_lt p.number id) as (λ b. AllByRecursion P (if b then p ∷ put_item id item paths else if p.number == id then under id item ∷ paths else under id item ∷ p ∷ paths)) [
        | true ↦ (all.0, each-put P paths own all.1)
        | false ↦ elim (p.number == id) as (λ b. AllByRecursion P (if b then under id item ∷ paths else under id item ∷ p ∷ paths)) [
          | true ↦ (own, all.1)
          | false ↦ (own, all)
        ]
      ]

  pub any-put : (P : Numbered KeptPath → Type 0) (paths : NumberedPaths) → item_at id paths ≡ None → Any P paths → Any P (put_item id item paths)
  any-put P [] none any = absurd (any-none P any)
  any-put P (p ∷ paths) none any = by (p.number == id) (nat_lt p.number id) none (λ e rest. any-put P paths e rest)
    where
      by : (b less : Bool) → cond b (Some p.item) (item_at id paths) ≡ None → (item_at id paths ≡ None → Any P paths → Any P (put_item id item paths))
          → Any P (cond less (p ∷ put_item id item paths) (cond b (under id item ∷ paths) (under id item ∷ p ∷ paths)))
      by true less absent more = absurd cc
      by false true absent more =
          elim (any-cons P p paths any) [
            | inl is ↦ any-first P p (put_item id item paths) is
            | inr rest ↦ any-later P p (put_item id item paths) (more absent rest)
          ]
      by false false absent more = any-later P (under id item) (p ∷ paths) any

  pub any-new : (P : Numbered KeptPath → Type 0) (paths : NumberedPaths) → P (under id item) → Any P (put_item id item paths)
  any-new P [] own = any-first P (under id item) [] own
  any-new P (p ∷ paths) own =
      elim (nat_lt p.number id) as (λ b. Any P (if b then p ∷ put_item id item paths else if p.number == id then under id item ∷ paths else under id item ∷ p ∷ paths)) [
        | true ↦ any-later P p (put_item id item paths) (any-new P paths own)
        | false ↦ elim (p.number == id) as (λ b. Any P (if b then under id item ∷ paths else under id item ∷ p ∷ paths)) [
          | true ↦ any-first P (under id item) paths own
          | false ↦ any-first P (under id item) (p ∷ paths) own
        ]
      ]

  pub below-put : (paths : NumberedPaths) → item_at id paths ≡ None → EachTwo IsBelow paths → EachTwo IsBelow (put_item id item paths)
  below-put [] none two = (tt, tt)
  below-put (p ∷ paths) none two = by (nat_lt p.number id) refl (p.number == id) refl none (λ e. below-put paths e two.1)
    where
      by : (less : Bool) → nat_lt p.number id ≡ less → (same : Bool) → (p.number == id) ≡ same → cond same (Some p.item) (item_at id paths) ≡ None
          → (item_at id paths ≡ None → EachTwo IsBelow (put_item id item paths))
          → EachTwo IsBelow (cond less (p ∷ put_item id item paths) (cond same (under id item ∷ paths) (under id item ∷ p ∷ paths)))
      by less is true own e more = absurd cc
      by true is false own e more = (each-put (IsBelow p) paths (let lower : p.number < id = grind (arith, nat_tests) in lower) two.0, more e)
      by false is false own e more =
          let above : id < p.number = grind (arith, nat_tests) in (
            (above, each-of (IsBelow p) (IsBelow (under id item)) (λ q later. let next : p.number < q.number = later in omega (arith, above, next)) paths two.0),
            two,
          )

  pub another-put : (paths : NumberedPaths) → AllByRecursion (λ (q : Numbered KeptPath). q.item.spec ≢ item.spec) paths → EachTwo IsAnother paths → EachTwo IsAnother (put_item id item paths)
  another-put [] new two = (tt, tt)
  another-put (p ∷ paths) new two =
      elim (nat_lt p.number id) as (λ b. EachTwo IsAnother (if b then p ∷ put_item id item paths else if p.number == id then under id item ∷ paths else under id item ∷ p ∷ paths)) [
        | true ↦ (each-put (IsAnother p) paths new.0 two.0, another-put paths new.1 two.1)
        | false ↦ elim (p.number == id) as (λ b. EachTwo IsAnother (if b then under id item ∷ paths else under id item ∷ p ∷ paths)) [
          | true ↦ (turned paths new.1, two.1)
          | false ↦ (((λ same. new.0 (sym same)), turned paths new.1), two)
        ]
      ]
    where
      turned : (others : NumberedPaths) → AllByRecursion (λ (q : Numbered KeptPath). q.item.spec ≢ item.spec) others → AllByRecursion (IsAnother (under id item)) others
      turned others all = each-of (λ (q : Numbered KeptPath). q.item.spec ≢ item.spec) (IsAnother (under id item)) (λ q differs same. differs (sym same)) others all

-- ---- one is taken out

module _ (id : ℕ) (path : KeptPath) where
  pub others-without : (P : Numbered KeptPath → Type 0) (paths : NumberedPaths) → EachTwo IsAnother paths
      → AllByRecursion (λ (q : Numbered KeptPath). q.item.spec ≢ path.spec → P q) paths → item_at id paths ≡ Some path → AllByRecursion P (without_item id paths)
  others-without P [] two each at = tt
  others-without P (p ∷ paths) two each at =
      elim (p.number == id) as (λ b. (p.number == id) ≡ b → cond b (Some p.item) (item_at id paths) ≡ Some path
      → AllByRecursion P (cond (not b) (p ∷ without_item id paths) (without_item id paths))) [
        | true ↦ λ same e. each-filter (λ (q : Numbered KeptPath). not (q.number == id)) P paths
            (each-two (IsAnother p) (λ (q : Numbered KeptPath). q.item.spec ≢ path.spec → P q) P
            (λ q differs is. is (λ equal. differs (ap (λ (k : KeptPath). k.spec) (some-equal e) ∙ sym equal))) paths two.0 each.1)
        | false ↦ λ differs e. (each.0 (each-at (IsAnother p) id path paths two.0 e), others-without P paths two.1 each.1 e)
      ] refl at

  pub any-without : (P : Numbered KeptPath → Type 0) (paths : NumberedPaths) → EachTwo IsBelow paths → (P (under id path) → ⊥) → item_at id paths ≡ Some path → Any P paths
      → Any P (without_item id paths)
  any-without P [] two none at any = absurd (any-none P any)
  any-without P (p ∷ paths) two none at any =
      by (p.number == id) refl (any-cons P p paths any) at (λ e rest. any-without P paths two.1 none e rest)
    where
      left : p.number ≡ id → without_item id paths ≡ paths
      left own =
          filter-all (λ (q : Numbered KeptPath). not (q.number == id)) paths
          (each-of (IsBelow p) (λ (q : Numbered KeptPath). not (q.number == id) ≡ true)
          (λ q later. let next : p.number < q.number = later in ap (λ (b : Bool). not b) (let differs : (q.number == id) ≡ false = grind (arith, nat_tests) in differs)) paths two.0)

      by : (b : Bool) → (p.number == id) ≡ b → (P p) ⊎ Any P paths → cond b (Some p.item) (item_at id paths) ≡ Some path
          → (item_at id paths ≡ Some path → Any P paths → Any P (without_item id paths)) → Any P (cond (not b) (p ∷ without_item id paths) (without_item id paths))
      by true same (inl is) e more = absurd (none (subst P (under-is id path p same (some-equal e)) is))
      by true same (inr rest) e more = subst (Any P) (sym (left (eqb-true p.number id same))) rest
      by false differs (inl is) e more = any-first P p (without_item id paths) is
      by false differs (inr rest) e more = any-later P p (without_item id paths) (more e rest)

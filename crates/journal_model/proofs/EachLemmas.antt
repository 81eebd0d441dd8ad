-- What holds of each element of a list, by recursion; lists of numbers and their filters.
use Rattle.std.proofs.Common.{◌≡◌, ℕ, Bool, true, false, ◌&&◌, ◌||◌, ◌==◌, not, cond, List, [], ◌∷◌, ◌++◌, refl, ap, ◌∙◌, subst, arith}
use Rattle.std.specs.Prelude.{⊤}
use Rattle.std.specs.List.{filter, AllByRecursion}
use Rattle.std.proofs.lemmas.Bool.{eqb-true}
use Rattle.std.proofs.lemmas.Bool.Decides.{nat_tests}
use Rattle.journal_model.specs.Replay.{is_other}
use Rattle.journal_model.specs.Replayable.{is_one_of}

module _ {X : Type 0} where
  pub each-weaker : (P Q : X → Type 0) (xs : List X) → ((x : X) → P x → Q x) → AllByRecursion P xs → AllByRecursion Q xs
  each-weaker P Q [] w h = tt
  each-weaker P Q (x ∷ xs) w h = (w x h.0, each-weaker P Q xs w h.1)

  pub each-of : (P : X → Type 0) (xs : List X) → ((x : X) → P x) → AllByRecursion P xs
  each-of P [] w = tt
  each-of P (x ∷ xs) w = (w x, each-of P xs w)

  -- what a test keeps, and what it says of each
  pub each-filter : (P Q : X → Type 0) (p : X → Bool) (xs : List X) → ((x : X) → p x ≡ true → P x → Q x) → AllByRecursion P xs → AllByRecursion Q (filter p xs)
  each-filter P Q p [] w h = tt
  each-filter P Q p (x ∷ xs) w h = at (p x) refl (each-filter P Q p xs w h.1) where
    at : (b : Bool) → p x ≡ b → AllByRecursion Q (filter p xs) → AllByRecursion Q (cond b (x ∷ filter p xs) (filter p xs))
    at true e more = (w x e h.0, more)
    at false e more = more

  pub filter-filter : (p q r : X → Bool) (xs : List X) → ((x : X) → (p x && q x) ≡ r x) → filter p (filter q xs) ≡ filter r xs
  filter-filter p q r [] w = refl
  filter-filter p q r (x ∷ xs) w = at (q x) (p x) (r x) (w x) refl (filter-filter p q r xs w) where
    at : (b a c : Bool) → (a && b) ≡ c → p x ≡ a → filter p (filter q xs) ≡ filter r xs → filter p (cond b (x ∷ filter q xs) (filter q xs)) ≡ cond c (x ∷ filter r xs) (filter r xs)
    at true true true e f more = rw f (ap (λ ys. x ∷ ys) more)
    at true true false e f more = absurd (cc)
    at true false true e f more = absurd (cc)
    at true false false e f more = rw f more
    at false true true e f more = absurd (cc)
    at false true false e f more = more
    at false false true e f more = absurd (cc)
    at false false false e f more = more

  pub filter-all : (p : X → Bool) (xs : List X) → AllByRecursion (λ x. p x ≡ true) xs → filter p xs ≡ xs
  filter-all p [] h = refl
  filter-all p (x ∷ xs) h = rw h.0 (ap (λ ys. x ∷ ys) (filter-all p xs h.1))

-- ---- numbers

pub one_of-filter : (ns : List ℕ) (n m : ℕ) → is_one_of ns m ≡ true → m == n ≡ false → is_one_of (filter (is_other n) ns) m ≡ true
one_of-filter [] n m h d = h
one_of-filter (k ∷ ns) n m h d = at (k == n) refl (one_of-filter ns n m) where
  at : (b : Bool) → k == n ≡ b → (is_one_of ns m ≡ true → m == n ≡ false → is_one_of (filter (is_other n) ns) m ≡ true)
      → is_one_of (cond (not b) (k ∷ filter (is_other n) ns) (filter (is_other n) ns)) m ≡ true
  at true e more = more (grind (arith, nat_tests)) d
  at false e more = elim (k == m) as (λ b. b || is_one_of ns m ≡ true → b || is_one_of (filter (is_other n) ns) m ≡ true) [ true ↦ λ _. refl | false ↦ λ g. more g d ] h

pub one_of-filtered : (p : ℕ → Bool) (ns : List ℕ) (m : ℕ) → is_one_of (filter p ns) m ≡ true → is_one_of ns m ≡ true
one_of-filtered p [] m h = h
one_of-filtered p (k ∷ ns) m h = at (p k) h (one_of-filtered p ns m) where
  at : (b : Bool) → is_one_of (cond b (k ∷ filter p ns) (filter p ns)) m ≡ true → (is_one_of (filter p ns) m ≡ true → is_one_of ns m ≡ true) → (k == m) || is_one_of ns m ≡ true
  at true g more = elim (k == m) as (λ b. b || is_one_of (filter p ns) m ≡ true → b || is_one_of ns m ≡ true) [ true ↦ λ _. refl | false ↦ λ f. more f ] g
  at false g more = grind (arith, nat_tests, more g)

pub one_of-others : (ns : List ℕ) (n m : ℕ) → is_one_of (filter (is_other n) ns) m ≡ true → m == n ≡ false
one_of-others [] n m h = absurd (cc)
one_of-others (k ∷ ns) n m h = at (k == n) refl h (one_of-others ns n m) where
  at : (b : Bool) → k == n ≡ b → is_one_of (cond (not b) (k ∷ filter (is_other n) ns) (filter (is_other n) ns)) m ≡ true → (is_one_of (filter (is_other n) ns) m ≡ true → m == n ≡ false)
      → m == n ≡ false
  at true e g more = more g
  at false e g more = elim (k == m) as (λ b. k == m ≡ b → b || is_one_of (filter (is_other n) ns) m ≡ true
      → m == n ≡ false) [ true ↦ λ f _. subst (λ (i : ℕ). i == n ≡ false) (eqb-true k m f) e | false ↦ λ _ f. more f ] refl g

pub one_of-push : (ns : List ℕ) (n m : ℕ) → is_one_of (ns ++ n ∷ []) m ≡ is_one_of ns m || (n == m)
one_of-push [] n m = grind (arith, nat_tests)
one_of-push (k ∷ ns) n m = elim (k == m) as (λ b. b || is_one_of (ns ++ n ∷ []) m ≡ (b || is_one_of ns m) || (n == m)) [ true ↦ refl | false ↦ one_of-push ns n m ]

-- no number stands twice
abbrev pub Distinct : List ℕ → Type 0
Distinct [] = ⊤
Distinct (n ∷ ns) = (is_one_of ns n ≡ false) × Distinct ns

absent : (p : ℕ → Bool) (ns : List ℕ) (n : ℕ) → is_one_of ns n ≡ false → is_one_of (filter p ns) n ≡ false
absent p ns n h = at (is_one_of (filter p ns) n) refl where
  at : (b : Bool) → is_one_of (filter p ns) n ≡ b → is_one_of (filter p ns) n ≡ false
  at true e = let f = one_of-filtered p ns n e in absurd (cc)
  at false e = e

pub Distinct-filter : (p : ℕ → Bool) (ns : List ℕ) → Distinct ns → Distinct (filter p ns)
Distinct-filter p [] h = tt
Distinct-filter p (n ∷ ns) h = elim (p n) as (λ b. Distinct (cond b (n ∷ filter p ns) (filter p ns))) [ true ↦ (absent p ns n h.0, Distinct-filter p ns h.1) | false ↦ Distinct-filter p ns h.1 ]

pub Distinct-push : (ns : List ℕ) (n : ℕ) → is_one_of ns n ≡ false → Distinct ns → Distinct (ns ++ n ∷ [])
Distinct-push [] n h d = (refl, tt)
Distinct-push (k ∷ ns) n h d = (one_of-push ns n k ∙ (grind (arith, nat_tests)), Distinct-push ns n (grind (arith, nat_tests)) d.1)

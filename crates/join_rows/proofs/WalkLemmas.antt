-- Items of a list that pass two tests, of which the first is passed by neighbours alone; and those after the first.
use Rattle.std.proofs.Common.{◌≡◌, Bool, true, false, cond, ◌&&◌, Option, Some, None, List, [], ◌∷◌, ◌++◌, refl, sym, ◌∙◌, ap, subst}
use Rattle.std.specs.Prelude.{filter, find, reverse}
use Rattle.std.specs.List.{AllByRecursion, last_or}
use Rattle.std.specs.Option.{option_or}
use Rattle.std.proofs.lemmas.Bool.{cond-true, cond-false}
use Rattle.std.proofs.lemmas.List.Folds.{find-append}
use Rattle.std.proofs.lemmas.Grind.{reverse_onto}
use Rattle.file_model.proofs.PathLemmas.{all-append}
use Rattle.access_path.proofs.OrderedLemmas.{Pairwise}
use Rattle.join_rows.proofs.OptionLemmas.{none-some, some-none, some-same}

reverse-cons : {A : Type 0} (x : A) (xs : List A) → reverse (x ∷ xs) ≡ reverse xs ++ x ∷ []
reverse-cons x xs = reverse_onto xs x []

pub all-reverse : {A : Type 0} (P : A → Type 0) (xs : List A) → AllByRecursion P xs → AllByRecursion P (reverse xs)
all-reverse P [] all = tt
all-reverse P (x ∷ xs) all = subst (AllByRecursion P) (sym (reverse-cons x xs)) (all-append P (reverse xs) (x ∷ []) (all-reverse P xs all.1) (all.0, tt))

pair-append : {A : Type 0} (R : A → A → Type 0) (xs : List A) (y : A) → Pairwise R xs → AllByRecursion (λ x. R x y) xs → Pairwise R (xs ++ y ∷ [])
pair-append R [] y pairs all = (tt, tt)
pair-append R (x ∷ xs) y pairs all = (all-append (R x) xs (y ∷ []) pairs.0 (all.0, tt), pair-append R xs y pairs.1 all.1)

pub pair-reverse : {A : Type 0} (R : A → A → Type 0) (xs : List A) → Pairwise R xs → Pairwise (λ x y. R y x) (reverse xs)
pair-reverse R [] pairs = tt
pair-reverse R (x ∷ xs) pairs =
    subst (Pairwise (λ a b. R b a)) (sym (reverse-cons x xs))
    (pair-append (λ a b. R b a) (reverse xs) x (pair-reverse R xs pairs.1) (all-reverse (R x) xs pairs.0))

-- ---- the first that passes two tests

abbrev pub where_near : {A : Type 0} → (A → Bool) → Option A → Option A
where_near near None = None
where_near near (Some x) = cond (near x) (Some x) None

module _ {A : Type 0} (Before : A → A → Type 0) (near place : A → Bool) where
  abbrev both : A → Bool
  both x = near x && place x

  none-after : (a : A) (xs : List A) → ((b : A) → Before a b → near b ≡ false) → AllByRecursion (Before a) xs → find both xs ≡ None
  none-after a [] far later = refl
  none-after a (b ∷ xs) far later = cond-false (both b) (Some b) (find both xs) (ap (λ t. t && place b) (far b later.0)) ∙ none-after a xs far later.1

  and-false : (b : Bool) → (b && false) ≡ false
  and-false true = refl
  and-false false = refl

  -- what comes after an item that is at its place, and not near, isn't near
  pub found-near : ((a b : A) → place a ≡ true → near a ≡ false → Before a b → near b ≡ false) → (xs : List A) → Pairwise Before xs → where_near near (find place xs) ≡ find both xs
  found-near far [] pairs = refl
  found-near far (a ∷ xs) pairs = by (place a) refl (near a) refl (found-near far xs pairs.1)
    where
      by : (b : Bool) → place a ≡ b → (c : Bool) → near a ≡ c → where_near near (find place xs) ≡ find both xs → where_near near (find place (a ∷ xs)) ≡ find both (a ∷ xs)
      by false is c also rest =
          ap (where_near near) (cond-false (place a) (Some a) (find place xs) is)
          ∙ rest
          ∙ sym (cond-false (both a) (Some a) (find both xs) (ap (λ t. near a && t) is ∙ and-false (near a)))
      by true is true also rest =
          ap (where_near near) (cond-true (place a) (Some a) (find place xs) is)
          ∙ cond-true (near a) (Some a) None also
          ∙ sym (cond-true (both a) (Some a) (find both xs) (ap (λ t. t && place a) also ∙ is))
      by true is false also rest =
          ap (where_near near) (cond-true (place a) (Some a) (find place xs) is)
          ∙ cond-false (near a) (Some a) None also
          ∙ sym (cond-false (both a) (Some a) (find both xs) (ap (λ t. t && place a) also) ∙ none-after a xs (λ b. far a b is also) pairs.0)

-- ---- the first that passes, and the others

find-all : {A : Type 0} (P : A → Type 0) (test : A → Bool) (xs : List A) (x : A) → AllByRecursion P xs → find test xs ≡ Some x → P x
find-all P test [] x all h = none-some x h
find-all P test (y ∷ ys) x all h = by (test y) refl (find-all P test ys x all.1)
  where
    by : (b : Bool) → test y ≡ b → (find test ys ≡ Some x → P x) → P x
    by true is rest = subst P (some-same y x (sym (cond-true (test y) (Some y) (find test ys) is) ∙ h)) all.0
    by false is rest = rest (sym (cond-false (test y) (Some y) (find test ys) is) ∙ h)

pub find-none : {A : Type 0} (test : A → Bool) (xs : List A) → find test xs ≡ None → filter test xs ≡ []
find-none test [] h = refl
find-none test (y ∷ ys) h = by (test y) refl (find-none test ys)
  where
    by : (b : Bool) → test y ≡ b → (find test ys ≡ None → filter test ys ≡ []) → filter test (y ∷ ys) ≡ []
    by true is rest = some-none y (sym (cond-true (test y) (Some y) (find test ys) is) ∙ h)
    by false is rest =
        cond-false (test y) (y ∷ filter test ys) (filter test ys) is
        ∙ rest (sym (cond-false (test y) (Some y) (find test ys) is) ∙ h)

module _ {A : Type 0} (P : A → Type 0) (Before : A → A → Type 0) (test : A → Bool) (rest_of : A → A → Bool)
    (same : (a b : A) → P a → Before a b → test a ≡ true → test b ≡ rest_of a b)
    (itself : (a : A) → P a → rest_of a a ≡ false)
    (passed : (a b : A) → P b → Before a b → rest_of b a ≡ false) where
  filter-rest : (a : A) → P a → test a ≡ true → (xs : List A) → AllByRecursion (Before a) xs → filter test xs ≡ filter (rest_of a) xs
  filter-rest a here is [] later = refl
  filter-rest a here is (b ∷ xs) later =
      ap (λ (t : Bool). cond t (b ∷ filter test xs) (filter test xs)) (same a b here later.0 is)
      ∙ ap (λ w. cond (rest_of a b) (b ∷ w) w) (filter-rest a here is xs later.1)

  pub walked : (xs : List A) (x : A) → AllByRecursion P xs → Pairwise Before xs → find test xs ≡ Some x → filter test xs ≡ x ∷ filter (rest_of x) xs
  walked [] x all pairs h = none-some x h
  walked (a ∷ xs) x all pairs h = by (test a) refl (walked xs x all.1 pairs.1)
    where
      by : (b : Bool) → test a ≡ b → (find test xs ≡ Some x → filter test xs ≡ x ∷ filter (rest_of x) xs) → filter test (a ∷ xs) ≡ x ∷ filter (rest_of x) (a ∷ xs)
      by true is later =
          subst (λ (y : A). filter test (a ∷ xs) ≡ y ∷ filter (rest_of y) (a ∷ xs))
          (some-same a x (sym (cond-true (test a) (Some a) (find test xs) is) ∙ h))
          (cond-true (test a) (a ∷ filter test xs) (filter test xs) is
          ∙ ap (λ w. a ∷ w) (filter-rest a all.0 is xs pairs.0 ∙ sym (cond-false (rest_of a a) (a ∷ filter (rest_of a) xs) (filter (rest_of a) xs) (itself a all.0))))
      by false is later =
          let there : find test xs ≡ Some x = sym (cond-false (test a) (Some a) (find test xs) is) ∙ h in
          cond-false (test a) (a ∷ filter test xs) (filter test xs) is
          ∙ later there
          ∙ ap (λ w. x ∷ w)
          (sym (cond-false (rest_of x a) (a ∷ filter (rest_of x) xs) (filter (rest_of x) xs)
          (passed a x (find-all P test xs x all.1 there) (find-all (Before a) test xs x pairs.0 there))))

-- ---- the last that passes

or-none : {X : Type 0} (o : Option X) → option_or o None ≡ o
or-none None = refl
or-none (Some x) = refl

or-then : {X : Type 0} (o p q : Option X) → option_or (option_or o p) q ≡ option_or o (option_or p q)
or-then None p q = refl
or-then (Some x) p q = refl

last-find : {X : Type 0} (p : X → Bool) (o : Option X) (xs : List X) → last_or o (filter p xs) ≡ option_or (find p (reverse xs)) o
last-find p o [] = refl
last-find {X = X} p o (x ∷ xs) = by (p x) refl (λ w. last-find p w xs)
  where
    behind : (first : Option X) → find p (x ∷ []) ≡ first → option_or (find p (reverse (x ∷ xs))) o ≡ option_or (find p (reverse xs)) (option_or first o)
    behind first is =
        ap (λ w. option_or (find p w) o) (reverse-cons x xs)
        ∙ ap (λ w. option_or w o) (find-append p (reverse xs) (x ∷ []) ∙ ap (option_or (find p (reverse xs))) is)
        ∙ or-then (find p (reverse xs)) first o

    by : (b : Bool) → p x ≡ b → ((w : Option X) → last_or w (filter p xs) ≡ option_or (find p (reverse xs)) w) → last_or o (filter p (x ∷ xs)) ≡ option_or (find p (reverse (x ∷ xs))) o
    by true is rest =
        ap (last_or o) (cond-true (p x) (x ∷ filter p xs) (filter p xs) is)
        ∙ rest (Some x)
        ∙ sym (behind (Some x) (cond-true (p x) (Some x) None is))
    by false is rest =
        ap (last_or o) (cond-false (p x) (x ∷ filter p xs) (filter p xs) is)
        ∙ rest o
        ∙ sym (behind None (cond-false (p x) (Some x) None is))

pub last-reversed : {X : Type 0} (p : X → Bool) (xs : List X) → last_or None (filter p xs) ≡ find p (reverse xs)
last-reversed p xs = last-find p None xs ∙ or-none (find p (reverse xs))

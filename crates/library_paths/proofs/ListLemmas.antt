-- What holds of each item of a list, of one, and of each two.
use Rattle.std.proofs.Common.{zero, suc, ◌≡◌, ◌⊎◌, inl, inr, Bool, true, false, cond, List, [], ◌∷◌, map, refl, sym, ap, arith, subst, ◌∙◌}
use Rattle.std.specs.Prelude.{AllPairs, Any, filter}
use Rattle.std.specs.List.{AllByRecursion}
use Rattle.std.proofs.lemmas.Bool.{cond-true}
use Rattle.std.proofs.lemmas.List.Elements.{All-from_recursion, recursion_from_All}
use Rattle.std.proofs.lemmas.List.Kept.{AllPairs-cons}

-- ---- one

pub any-none : {X : Type 0} (P : X → Type 0) → Any P [] → ⊥
any-none P (k, x, low, at, is) = absurd (omega (arith, low))

pub any-first : {X : Type 0} (P : X → Type 0) (x : X) (xs : List X) → P x → Any P (x ∷ xs)
any-first P x xs is = (zero, x, (omega arith), refl, is)

pub any-later : {X : Type 0} (P : X → Type 0) (x : X) (xs : List X) → Any P xs → Any P (x ∷ xs)
any-later P x xs (k, y, low, at, is) = (suc k, y, (omega (arith, low)), at, is)

pub any-cons : {X : Type 0} (P : X → Type 0) (x : X) (xs : List X) → Any P (x ∷ xs) → (P x) ⊎ Any P xs
any-cons P x xs (zero, y, low, at, is) = inl (subst P (sym at) is)
any-cons P x xs (suc k, y, low, at, is) = inr (k, y, (omega (arith, low)), at, is)

pub any-map : {X Y : Type 0} (P : Y → Type 0) (f : X → Y) (xs : List X) → Any (λ (x : X). P (f x)) xs → Any P (map f xs)
any-map {X = X} P f [] any = absurd (any-none (λ (x : X). P (f x)) any)
any-map {X = X} P f (x ∷ xs) any =
    elim (any-cons (λ (y : X). P (f y)) x xs any) [
      | inl is ↦ any-first P (f x) (map f xs) is
      | inr rest ↦ any-later P (f x) (map f xs) (any-map P f xs rest)
    ]

-- it isn't one of those of which something else holds
pub any-apart : {X : Type 0} (P : X → Type 0) (xs : List X) → AllByRecursion (λ (x : X). P x → ⊥) xs → Any P xs → ⊥
any-apart P [] none any = any-none P any
any-apart P (x ∷ xs) none any =
    elim (any-cons P x xs any) [
      | inl is ↦ none.0 is
      | inr rest ↦ any-apart P xs none.1 rest
    ]

-- ---- each

pub each-of : {X : Type 0} (P Q : X → Type 0) → ((x : X) → P x → Q x) → (xs : List X) → AllByRecursion P xs → AllByRecursion Q xs
each-of P Q f [] all = tt
each-of P Q f (x ∷ xs) all = (f x all.0, each-of P Q f xs all.1)

pub each-two : {X : Type 0} (P Q R : X → Type 0) → ((x : X) → P x → Q x → R x) → (xs : List X) → AllByRecursion P xs → AllByRecursion Q xs → AllByRecursion R xs
each-two P Q R f [] all also = tt
each-two P Q R f (x ∷ xs) all also = (f x all.0 also.0, each-two P Q R f xs all.1 also.1)

pub each-filter : {X : Type 0} (test : X → Bool) (P : X → Type 0) (xs : List X) → AllByRecursion P xs → AllByRecursion P (filter test xs)
each-filter test P [] all = tt
each-filter test P (x ∷ xs) all =
    elim (test x) as (λ b. AllByRecursion P (cond b (x ∷ filter test xs) (filter test xs))) [
      | true ↦ (all.0, each-filter test P xs all.1)
      | false ↦ each-filter test P xs all.1
    ]

pub each-map : {X Y : Type 0} (P : Y → Type 0) (f : X → Y) (xs : List X) → AllByRecursion (λ (x : X). P (f x)) xs → AllByRecursion P (map f xs)
each-map P f [] all = tt
each-map P f (x ∷ xs) all = (all.0, each-map P f xs all.1)

-- where each passes the test
pub filter-all : {X : Type 0} (test : X → Bool) (xs : List X) → AllByRecursion (λ (x : X). test x ≡ true) xs → filter test xs ≡ xs
filter-all test [] all = refl
filter-all test (x ∷ xs) all = cond-true (test x) (x ∷ filter test xs) (filter test xs) all.0 ∙ ap (λ (w : List _). x ∷ w) (filter-all test xs all.1)

-- ---- each two

-- so it is of each item and each later one
abbrev pub EachTwo : {X : Type 0} → (X → X → Type 0) → List X → Type 0
EachTwo R [] = Unit {0}
EachTwo R (x ∷ xs) = AllByRecursion (R x) xs × EachTwo R xs

pub two-from : {X : Type 0} (R : X → X → Type 0) (xs : List X) → AllPairs R xs → EachTwo R xs
two-from R [] all = tt
two-from R (x ∷ xs) all = (
  recursion_from_All (R x) xs (λ k d low. all zero (suc k) d (omega arith) (omega (arith, low))),
  two-from R xs (λ i j d lt low. all (suc i) (suc j) d (omega (arith, lt)) (omega (arith, low))),
)

pub two-all : {X : Type 0} (R : X → X → Type 0) (xs : List X) → EachTwo R xs → AllPairs R xs
two-all R [] two = λ i j d lt low. absurd (omega (arith, low))
two-all R (x ∷ xs) two = AllPairs-cons R x xs (All-from_recursion (R x) xs two.0) (two-all R xs two.1)

pub two-filter : {X : Type 0} (test : X → Bool) (R : X → X → Type 0) (xs : List X) → EachTwo R xs → EachTwo R (filter test xs)
two-filter test R [] two = tt
two-filter test R (x ∷ xs) two =
    elim (test x) as (λ b. EachTwo R (cond b (x ∷ filter test xs) (filter test xs))) [
      | true ↦ (each-filter test (R x) xs two.0, two-filter test R xs two.1)
      | false ↦ two-filter test R xs two.1
    ]

pub two-map : {X Y : Type 0} (R : Y → Y → Type 0) (f : X → Y) (xs : List X) → EachTwo (λ (a b : X). R (f a) (f b)) xs → EachTwo R (map f xs)
two-map R f [] two = tt
two-map R f (x ∷ xs) two = (each-map (R (f x)) f xs two.0, two-map R f xs two.1)

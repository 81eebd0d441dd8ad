-- What stands in a list, and what holds of each item of it.
use Rattle.std.proofs.Common.{◌≡◌, ◌⊎◌, inl, inr, ◌∙◌, ◌||◌, cond, Bool, true, false, List, [], ◌∷◌, ◌++◌, filter, find, flat_map, map, Option, Some, None, subst, refl, sym, ap}
use Rattle.std.specs.List.{AllByRecursion, list_any}
use Rattle.std.specs.Option.{option_map}

-- it is one of the items
abbrev pub IsIn : {X : Type 0} → X → List X → Type 0
IsIn x [] = ⊥
IsIn x (y ∷ ys) = (y ≡ x) ⊎ IsIn x ys

pub all-in : {X : Type 0} (P : X → Type 0) (x : X) (xs : List X) → AllByRecursion P xs → IsIn x xs → P x
all-in P x [] all its = absurd its
all-in P x (y ∷ ys) all (inl same) = subst P same all.0
all-in P x (y ∷ ys) all (inr later) = all-in P x ys all.1 later

pub in-all : {X : Type 0} (P : X → Type 0) (xs : List X) → ((x : X) → IsIn x xs → P x) → AllByRecursion P xs
in-all P [] each = tt
in-all P (x ∷ xs) each = (each x (inl refl), in-all P xs (λ y its. each y (inr its)))

pub all-append : {X : Type 0} (P : X → Type 0) (xs ys : List X) → AllByRecursion P xs → AllByRecursion P ys → AllByRecursion P (xs ++ ys)
all-append P [] ys first second = second
all-append P (x ∷ xs) ys first second = (first.0, all-append P xs ys first.1 second)

pub all-left : {X : Type 0} (P : X → Type 0) (xs ys : List X) → AllByRecursion P (xs ++ ys) → AllByRecursion P xs
all-left P [] ys all = tt
all-left P (x ∷ xs) ys all = (all.0, all-left P xs ys all.1)

pub all-right : {X : Type 0} (P : X → Type 0) (xs ys : List X) → AllByRecursion P (xs ++ ys) → AllByRecursion P ys
all-right P [] ys all = all
all-right P (x ∷ xs) ys all = all-right P xs ys all.1

pub flat-each : {X Y : Type 0} (P : Y → Type 0) (f : X → List Y) (xs : List X) → AllByRecursion P (flat_map f xs) → AllByRecursion (λ x. AllByRecursion P (f x)) xs
flat-each P f [] all = tt
flat-each P f (x ∷ xs) all = (all-left P (f x) (flat_map f xs) all, flat-each P f xs (all-right P (f x) (flat_map f xs) all))

pub each-flat : {X Y : Type 0} (P : Y → Type 0) (f : X → List Y) (xs : List X) → AllByRecursion (λ x. AllByRecursion P (f x)) xs → AllByRecursion P (flat_map f xs)
each-flat P f [] all = tt
each-flat P f (x ∷ xs) all = all-append P (f x) (flat_map f xs) all.0 (each-flat P f xs all.1)

-- ---- where an item of another list comes from

pub in-append : {X : Type 0} (x : X) (xs ys : List X) → IsIn x (xs ++ ys) → IsIn x xs ⊎ IsIn x ys
in-append x [] ys its = inr its
in-append x (y ∷ xs) ys (inl same) = inl (inl same)
in-append x (y ∷ xs) ys (inr later) =
    elim (in-append x xs ys later) [
      | inl first ↦ inl (inr first)
      | inr second ↦ inr second
    ]

pub in-filter : {X : Type 0} (test : X → Bool) (x : X) (xs : List X) → IsIn x (filter test xs) → IsIn x xs
in-filter test x [] its = absurd its
in-filter test x (y ∷ xs) its =
    elim (test y) as (λ b. IsIn x (cond b (y ∷ filter test xs) (filter test xs)) → (y ≡ x) ⊎ IsIn x xs) [
      | true ↦ λ h. by (λ later. in-filter test x xs later) h
      | false ↦ λ h. inr (in-filter test x xs h)
    ] its
  where
    by : (IsIn x (filter test xs) → IsIn x xs) → (y ≡ x) ⊎ IsIn x (filter test xs) → (y ≡ x) ⊎ IsIn x xs
    by rest (inl same) = inl same
    by rest (inr later) = inr (rest later)

-- the item of a mapped list, and the one that it was made of
pub record WasMapped {X Y : Type 0} (f : X → Y) (xs : List X) (y : Y) : Type 0 where
  pub from : X
  pub among : IsIn from xs
  pub is : f from ≡ y

pub in-map : {X Y : Type 0} (f : X → Y) (y : Y) (xs : List X) → IsIn y (map f xs) → WasMapped f xs y
in-map f y [] its = absurd its
in-map f y (x ∷ xs) (inl same) = record { from = x; among = inl refl; is = same }
in-map f y (x ∷ xs) (inr later) = let rest = in-map f y xs later in record { from = rest.from; among = inr rest.among; is = rest.is }

-- ---- where an item comes to stand

pub left-in : {X : Type 0} (x : X) (xs ys : List X) → IsIn x xs → IsIn x (xs ++ ys)
left-in x [] ys its = absurd its
left-in x (y ∷ xs) ys (inl same) = inl same
left-in x (y ∷ xs) ys (inr later) = inr (left-in x xs ys later)

pub right-in : {X : Type 0} (x : X) (xs ys : List X) → IsIn x ys → IsIn x (xs ++ ys)
right-in x [] ys its = its
right-in x (y ∷ xs) ys its = inr (right-in x xs ys its)

pub map-in : {X Y : Type 0} (f : X → Y) (x : X) (xs : List X) → IsIn x xs → IsIn (f x) (map f xs)
map-in f x [] its = absurd its
map-in f x (y ∷ xs) (inl same) = inl (ap f same)
map-in f x (y ∷ xs) (inr later) = inr (map-in f x xs later)

pub filter-in : {X : Type 0} (test : X → Bool) (x : X) (xs : List X) → IsIn x xs → test x ≡ true → IsIn x (filter test xs)
filter-in test x [] its passes = absurd its
filter-in test x (y ∷ xs) (inl same) passes = subst (λ b. IsIn x (cond b (y ∷ filter test xs) (filter test xs))) (sym (ap test same ∙ passes)) (inl same)
filter-in test x (y ∷ xs) (inr later) passes =
    elim (test y) as (λ b. IsIn x (cond b (y ∷ filter test xs) (filter test xs))) [
      | true ↦ inr (filter-in test x xs later passes)
      | false ↦ filter-in test x xs later passes
    ]

pub filter-passes : {X : Type 0} (test : X → Bool) (x : X) (xs : List X) → IsIn x (filter test xs) → test x ≡ true
filter-passes test x [] its = absurd its
filter-passes test x (y ∷ xs) its =
    elim (test y) as (λ b. test y ≡ b → IsIn x (cond b (y ∷ filter test xs) (filter test xs)) → test x ≡ true) [
      | true ↦ λ e h. by e (λ later. filter-passes test x xs later) h
      | false ↦ λ e h. filter-passes test x xs h
    ] refl its
  where
    by : test y ≡ true → (IsIn x (filter test xs) → test x ≡ true) → (y ≡ x) ⊎ IsIn x (filter test xs) → test x ≡ true
    by e rest (inl same) = ap test (sym same) ∙ e
    by e rest (inr later) = rest later

pub flat-in : {X Y : Type 0} (f : X → List Y) (x : X) (y : Y) (xs : List X) → IsIn x xs → IsIn y (f x) → IsIn y (flat_map f xs)
flat-in f x y [] its within = absurd its
flat-in f x y (z ∷ xs) (inl same) within = left-in y (f z) (flat_map f xs) (subst (λ w. IsIn y (f w)) (sym same) within)
flat-in f x y (z ∷ xs) (inr later) within = right-in y (f z) (flat_map f xs) (flat-in f x y xs later within)

-- the item of the list of an item
pub record WasWithin {X Y : Type 0} (f : X → List Y) (xs : List X) (y : Y) : Type 0 where
  pub from : X
  pub among : IsIn from xs
  pub within : IsIn y (f from)

pub in-flat : {X Y : Type 0} (f : X → List Y) (y : Y) (xs : List X) → IsIn y (flat_map f xs) → WasWithin f xs y
in-flat f y [] its = absurd its
in-flat f y (x ∷ xs) its =
    elim (in-append y (f x) (flat_map f xs) its) [
      | inl here ↦ record { from = x; among = inl refl; within = here }
      | inr later ↦ let rest = in-flat f y xs later in record { from = rest.from; among = inr rest.among; within = rest.within }
    ]

-- ---- tests

pub any-in : {X : Type 0} (test : X → Bool) (x : X) (xs : List X) → IsIn x xs → test x ≡ true → list_any test xs ≡ true
any-in test x [] its passes = absurd its
any-in test x (y ∷ xs) (inl same) passes = ap (λ b. b || list_any test xs) (ap test same ∙ passes)
any-in test x (y ∷ xs) (inr later) passes =
    elim (test y) as (λ b. (b || list_any test xs) ≡ true) [
      | true ↦ refl
      | false ↦ any-in test x xs later passes
    ]

pub find-none : {X : Type 0} (test : X → Bool) (x : X) (xs : List X) → find test xs ≡ None → IsIn x xs → test x ≡ false
find-none test x [] none its = absurd its
find-none test x (y ∷ xs) none its =
    elim (test y) as (λ b. test y ≡ b → cond b (Some y) (find test xs) ≡ None → (y ≡ x) ⊎ IsIn x xs → test x ≡ false) [
      | true ↦ λ e h i. absurd cc
      | false ↦ λ e h i. by (λ later. find-none test x xs h later) e i
    ] refl none its
  where
    by : (IsIn x xs → test x ≡ false) → test y ≡ false → (y ≡ x) ⊎ IsIn x xs → test x ≡ false
    by rest e (inl same) = ap test (sym same) ∙ e
    by rest e (inr later) = rest later

pub filter-none : {X : Type 0} (test : X → Bool) (xs : List X) → filter test xs ≡ [] → list_any test xs ≡ false
filter-none test [] none = refl
filter-none test (x ∷ xs) none =
    elim (test x) as (λ b. cond b (x ∷ filter test xs) (filter test xs) ≡ [] → (b || list_any test xs) ≡ false) [
      | true ↦ λ h. absurd cc
      | false ↦ λ h. filter-none test xs h
    ] none

pub map-none : {X Y : Type 0} (f : X → Y) (o : Option X) → option_map f o ≡ None → o ≡ None
map-none f None none = refl
map-none f (Some x) none = absurd cc

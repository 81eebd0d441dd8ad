-- The first leaf after a position is found level by level, and so is the last before it.
use Rattle.std.proofs.Common.{◌≡◌, Bool, true, false, cond, map, Option, Some, None, List, [], ◌∷◌, ◌++◌, refl, ap, sym, ◌∙◌, append_assoc, append-nil}
use Rattle.std.specs.Prelude.{not, filter, find, flat_map, reverse}
use Rattle.std.specs.Option.{option_or, option_map}
use Rattle.std.proofs.lemmas.List.{map-append}
use Rattle.std.specs.declared.cmp.Ordering.{Ordering}
use Rattle.std.specs.declared.cmp.Ordering.TheVariants.{Less, Equal, Greater}
use Rattle.std.specs.Ordering.{ordering_then, is_lt, is_eq, is_gt}
use Rattle.std.specs.Cmp.Lexicographic.{slice_cmp}
use Rattle.std.proofs.lemmas.List.Folds.{find-append}
use Rattle.std.proofs.lemmas.Grind.{reverse_onto}
use Rattle.std.proofs.lemmas.Bool.{cond-true, cond-false}
use Rattle.join_rows.specs.Levels.{first_of, leaves, below, isnt_before, isnt_after, next_leaf, prior_leaf}
use Rattle.join_rows.proofs.OptionLemmas.{true-false}

or-none : {B : Type 0} (o : Option B) → option_or o None ≡ o
or-none None = refl
or-none (Some x) = refl

or-then : {B : Type 0} (o p q : Option B) → option_or (option_or o p) q ≡ option_or o (option_or p q)
or-then None p q = refl
or-then (Some x) p q = refl

-- ---- lists

module _ {A B : Type 0} where
  pub find-flat : (test : B → Bool) (f : A → List B) (xs : List A) → find test (flat_map f xs) ≡ first_of (λ x. find test (f x)) xs
  find-flat test f [] = refl
  find-flat test f (x ∷ xs) = find-append test (f x) (flat_map f xs) ∙ ap (option_or (find test (f x))) (find-flat test f xs)

  first_of-append : (give : A → Option B) (xs ys : List A) → first_of give (xs ++ ys) ≡ option_or (first_of give xs) (first_of give ys)
  first_of-append give [] ys = refl
  first_of-append give (x ∷ xs) ys = ap (option_or (give x)) (first_of-append give xs ys) ∙ sym (or-then (give x) (first_of give xs) (first_of give ys))

  -- items that give nothing may be left out
  pub first_of-filter : (give other : A → Option B) (keeps : A → Bool) → ((x : A) → keeps x ≡ true → give x ≡ other x) → ((x : A) → keeps x ≡ false → give x ≡ None)
      → (xs : List A) → first_of give xs ≡ first_of other (filter keeps xs)
  first_of-filter give other keeps same none [] = refl
  first_of-filter give other keeps same none (x ∷ xs) = by (keeps x) refl (first_of-filter give other keeps same none xs)
    where
      by : (b : Bool) → keeps x ≡ b → first_of give xs ≡ first_of other (filter keeps xs) → option_or (give x) (first_of give xs) ≡ first_of other (filter keeps (x ∷ xs))
      by true is rest =
          ap (λ (o : Option B). option_or o (first_of give xs)) (same x is)
          ∙ ap (option_or (other x)) rest
          ∙ sym (ap (first_of other) (cond-true (keeps x) (x ∷ filter keeps xs) (filter keeps xs) is))
      by false is rest =
          ap (λ (o : Option B). option_or o (first_of give xs)) (none x is)
          ∙ rest
          ∙ sym (ap (first_of other) (cond-false (keeps x) (x ∷ filter keeps xs) (filter keeps xs) is))

  pub first_of-none : (give : A → Option B) → ((x : A) → give x ≡ None) → (xs : List A) → first_of give xs ≡ None
  first_of-none give none [] = refl
  first_of-none give none (x ∷ xs) = ap (λ (o : Option B). option_or o (first_of give xs)) (none x) ∙ first_of-none give none xs

reverse-cons : {X : Type 0} (x : X) (xs : List X) → reverse (x ∷ xs) ≡ reverse xs ++ x ∷ []
reverse-cons x xs = reverse_onto xs x []

reverse-append : {X : Type 0} (xs ys : List X) → reverse (xs ++ ys) ≡ reverse ys ++ reverse xs
reverse-append [] ys = sym (append-nil (reverse ys))
reverse-append (x ∷ xs) ys =
    reverse-cons x (xs ++ ys)
    ∙ ap (λ w. w ++ x ∷ []) (reverse-append xs ys)
    ∙ append_assoc (reverse ys) (reverse xs) (x ∷ [])
    ∙ ap (λ w. reverse ys ++ w) (sym (reverse-cons x xs))

filter-append : {X : Type 0} (keeps : X → Bool) (xs ys : List X) → filter keeps (xs ++ ys) ≡ filter keeps xs ++ filter keeps ys
filter-append keeps [] ys = refl
filter-append keeps (x ∷ xs) ys = by (keeps x) refl (filter-append keeps xs ys)
  where
    by : (b : Bool) → keeps x ≡ b → filter keeps (xs ++ ys) ≡ filter keeps xs ++ filter keeps ys → filter keeps (x ∷ xs ++ ys) ≡ filter keeps (x ∷ xs) ++ filter keeps ys
    by true is rest =
        cond-true (keeps x) (x ∷ filter keeps (xs ++ ys)) (filter keeps (xs ++ ys)) is
        ∙ ap (λ w. x ∷ w) rest
        ∙ sym (ap (λ w. w ++ filter keeps ys) (cond-true (keeps x) (x ∷ filter keeps xs) (filter keeps xs) is))
    by false is rest =
        cond-false (keeps x) (x ∷ filter keeps (xs ++ ys)) (filter keeps (xs ++ ys)) is
        ∙ rest
        ∙ sym (ap (λ w. w ++ filter keeps ys) (cond-false (keeps x) (x ∷ filter keeps xs) (filter keeps xs) is))

pub filter-reverse : {X : Type 0} (keeps : X → Bool) (xs : List X) → filter keeps (reverse xs) ≡ reverse (filter keeps xs)
filter-reverse keeps [] = refl
filter-reverse keeps (x ∷ xs) =
    ap (filter keeps) (reverse-cons x xs)
    ∙ filter-append keeps (reverse xs) (x ∷ [])
    ∙ by (keeps x) refl (filter-reverse keeps xs)
  where
    by : (b : Bool) → keeps x ≡ b → filter keeps (reverse xs) ≡ reverse (filter keeps xs) → filter keeps (reverse xs) ++ filter keeps (x ∷ []) ≡ reverse (filter keeps (x ∷ xs))
    by true is rest =
        ap (λ w. w ++ filter keeps (x ∷ [])) rest
        ∙ ap (λ w. reverse (filter keeps xs) ++ w) (cond-true (keeps x) (x ∷ []) [] is)
        ∙ sym (reverse-cons x (filter keeps xs))
        ∙ sym (ap reverse (cond-true (keeps x) (x ∷ filter keeps xs) (filter keeps xs) is))
    by false is rest =
        ap (λ w. w ++ filter keeps (x ∷ [])) rest
        ∙ ap (λ w. reverse (filter keeps xs) ++ w) (cond-false (keeps x) (x ∷ []) [] is)
        ∙ append-nil (reverse (filter keeps xs))
        ∙ sym (ap reverse (cond-false (keeps x) (x ∷ filter keeps xs) (filter keeps xs) is))

module _ {X Y : Type 0} (f : X → Y) where
  pub map-reverse : (xs : List X) → reverse (map f xs) ≡ map f (reverse xs)
  map-reverse [] = refl
  map-reverse (x ∷ xs) =
      reverse-cons (f x) (map f xs)
      ∙ ap (λ w. w ++ f x ∷ []) (map-reverse xs)
      ∙ sym (ap (map f) (reverse-cons x xs) ∙ map-append f (reverse xs) (x ∷ []))

  pub find-map : (p : Y → Bool) (xs : List X) → find p (map f xs) ≡ option_map f (find (λ x. p (f x)) xs)
  find-map p [] = refl
  find-map p (x ∷ xs) = by (p (f x)) refl (find-map p xs)
    where
      by : (b : Bool) → p (f x) ≡ b → find p (map f xs) ≡ option_map f (find (λ y. p (f y)) xs) → find p (f x ∷ map f xs) ≡ option_map f (find (λ y. p (f y)) (x ∷ xs))
      by true is rest =
          cond-true (p (f x)) (Some (f x)) (find p (map f xs)) is
          ∙ sym (ap (option_map f) (cond-true (p (f x)) (Some x) (find (λ y. p (f y)) xs) is))
      by false is rest =
          cond-false (p (f x)) (Some (f x)) (find p (map f xs)) is
          ∙ rest
          ∙ sym (ap (option_map f) (cond-false (p (f x)) (Some x) (find (λ y. p (f y)) xs) is))

pub find-flat-back : {A B : Type 0} (test : B → Bool) (f : A → List B) (xs : List A) → find test (reverse (flat_map f xs)) ≡ first_of (λ x. find test (reverse (f x))) (reverse xs)
find-flat-back test f [] = refl
find-flat-back test f (x ∷ xs) =
    ap (find test) (reverse-append (f x) (flat_map f xs))
    ∙ find-append test (reverse (flat_map f xs)) (reverse (f x))
    ∙ ap (λ o. option_or o (find test (reverse (f x)))) (find-flat-back test f xs)
    ∙ ap (option_or (first_of (λ y. find test (reverse (f y))) (reverse xs))) (sym (or-none (find test (reverse (f x)))))
    ∙ sym (first_of-append (λ y. find test (reverse (f y))) (reverse xs) (x ∷ []))
    ∙ ap (first_of (λ y. find test (reverse (f y)))) (sym (reverse-cons x xs))

-- ---- a tree

module _ {R S M K : Type 0} (extend : R → M → R) (key : M → K) (compare : K → K → Ordering)
    (root : R → S) (keys : R → List K) (stays : (row : R) (m : M) → root (extend row m) ≡ root row) (extends : (row : R) (m : M) → keys (extend row m) ≡ keys row ++ key m ∷ []) where
  -- the keys of the levels below a row come after a position, or before it
  abbrev pub comes_after : Option (List K) → List K → Bool
  comes_after None rest = true
  comes_after (Some place) rest = is_gt (slice_cmp compare rest place)

  abbrev pub comes_before : Option (List K) → List K → Bool
  comes_before None rest = true
  comes_before (Some place) rest = is_lt (slice_cmp compare rest place)

  module _ (test : S → List K → Bool) where
    abbrev passed : R → Bool
    passed row = test (root row) (keys row)

    behind : (row : R) (m : M) (t : List K) → test (root (extend row m)) (keys (extend row m) ++ t) ≡ test (root row) (keys row ++ key m ∷ t)
    behind row m t =
        ap (λ s. test s (keys (extend row m) ++ t)) (stays row m)
        ∙ ap (λ w. test (root row) (w ++ t)) (extends row m)
        ∙ ap (test (root row)) (append_assoc (keys row) (key m ∷ []) t)

    here : (row : R) (b : Bool) → test (root row) (keys row ++ []) ≡ b → passed row ≡ b
    here row b h = ap (test (root row)) (sym (append-nil (keys row))) ∙ h

    pub none-below : (levels : List (R → List M)) (row : R) → ((t : List K) → test (root row) (keys row ++ t) ≡ false) → find (λ r. test (root r) (keys r)) (leaves extend levels row) ≡ None
    none-below [] row none = cond-false (passed row) (Some row) None (here row false (none []))
    none-below (level ∷ levels) row none =
        find-flat (λ r. test (root r) (keys r)) (λ m. leaves extend levels (extend row m)) (level row)
        ∙ first_of-none (λ m. find (λ r. test (root r) (keys r)) (leaves extend levels (extend row m)))
        (λ m. none-below levels (extend row m) (λ t. behind row m t ∙ none (key m ∷ t))) (level row)

    pub none-below-back : (levels : List (R → List M)) (row : R) → ((t : List K) → test (root row) (keys row ++ t) ≡ false) → find (λ r. test (root r) (keys r)) (reverse (leaves extend levels row)) ≡ None
    none-below-back [] row none = cond-false (passed row) (Some row) None (here row false (none []))
    none-below-back (level ∷ levels) row none =
        find-flat-back (λ r. test (root r) (keys r)) (λ m. leaves extend levels (extend row m)) (level row)
        ∙ first_of-none (λ m. find (λ r. test (root r) (keys r)) (reverse (leaves extend levels (extend row m))))
        (λ m. none-below-back levels (extend row m) (λ t. behind row m t ∙ none (key m ∷ t))) (reverse (level row))

  -- ---- the next leaf

  after-kept : (from : Option (List K)) (k : K) (t : List K) → isnt_before compare from k ≡ true → comes_after from (k ∷ t) ≡ comes_after (below compare from k) t
  after-kept None k t h = refl
  after-kept (Some []) k t h = refl
  after-kept (Some (p ∷ rest)) k t h = by (compare k p) h
    where
      by : (o : Ordering) → not (is_lt o) ≡ true → is_gt (ordering_then o (slice_cmp compare t rest)) ≡ comes_after (cond (is_eq o) (Some rest) None) t
      by Less e = true-false (sym e)
      by Equal e = refl
      by Greater e = refl

  after-dropped : (from : Option (List K)) (k : K) (t : List K) → isnt_before compare from k ≡ false → comes_after from (k ∷ t) ≡ false
  after-dropped None k t h = true-false h
  after-dropped (Some []) k t h = true-false h
  after-dropped (Some (p ∷ rest)) k t h = by (compare k p) h
    where
      by : (o : Ordering) → not (is_lt o) ≡ false → is_gt (ordering_then o (slice_cmp compare t rest)) ≡ false
      by Less e = refl
      by Equal e = true-false e
      by Greater e = true-false e

  pub next-leaf : (test : S → List K → Bool) (levels : List (R → List M)) (row : R) (from : Option (List K)) → ((t : List K) → test (root row) (keys row ++ t) ≡ comes_after from t)
      → find (λ r. test (root r) (keys r)) (leaves extend levels row) ≡ next_leaf extend key compare levels row from
  next-leaf test [] row None h = cond-true (test (root row) (keys row)) (Some row) None (here test row true (h []))
  next-leaf test [] row (Some []) h = cond-false (test (root row) (keys row)) (Some row) None (here test row false (h []))
  next-leaf test [] row (Some (p ∷ rest)) h = cond-false (test (root row) (keys row)) (Some row) None (here test row false (h []))
  next-leaf test (level ∷ levels) row from h =
      find-flat (λ r. test (root r) (keys r)) (λ m. leaves extend levels (extend row m)) (level row)
      ∙ first_of-filter (λ m. find (λ r. test (root r) (keys r)) (leaves extend levels (extend row m)))
      (λ m. next_leaf extend key compare levels (extend row m) (below compare from (key m)))
      (λ m. isnt_before compare from (key m))
      (λ m is. next-leaf test levels (extend row m) (below compare from (key m)) (λ t. behind test row m t ∙ h (key m ∷ t) ∙ after-kept from (key m) t is))
      (λ m is. none-below test levels (extend row m) (λ t. behind test row m t ∙ h (key m ∷ t) ∙ after-dropped from (key m) t is))
      (level row)

  -- ---- the last leaf before

  before-kept : (from : Option (List K)) (k : K) (t : List K) → isnt_after compare from k ≡ true → comes_before from (k ∷ t) ≡ comes_before (below compare from k) t
  before-kept None k t h = refl
  before-kept (Some []) k t h = true-false (sym h)
  before-kept (Some (p ∷ rest)) k t h = by (compare k p) h
    where
      by : (o : Ordering) → not (is_gt o) ≡ true → is_lt (ordering_then o (slice_cmp compare t rest)) ≡ comes_before (cond (is_eq o) (Some rest) None) t
      by Less e = refl
      by Equal e = refl
      by Greater e = true-false (sym e)

  before-dropped : (from : Option (List K)) (k : K) (t : List K) → isnt_after compare from k ≡ false → comes_before from (k ∷ t) ≡ false
  before-dropped None k t h = true-false h
  before-dropped (Some []) k t h = refl
  before-dropped (Some (p ∷ rest)) k t h = by (compare k p) h
    where
      by : (o : Ordering) → not (is_gt o) ≡ false → is_lt (ordering_then o (slice_cmp compare t rest)) ≡ false
      by Less e = true-false e
      by Equal e = true-false e
      by Greater e = refl

  pub prior-leaf : (test : S → List K → Bool) (levels : List (R → List M)) (row : R) (from : Option (List K)) → ((t : List K) → test (root row) (keys row ++ t) ≡ comes_before from t)
      → find (λ r. test (root r) (keys r)) (reverse (leaves extend levels row)) ≡ prior_leaf extend key compare levels row from
  prior-leaf test [] row None h = cond-true (test (root row) (keys row)) (Some row) None (here test row true (h []))
  prior-leaf test [] row (Some []) h = cond-false (test (root row) (keys row)) (Some row) None (here test row false (h []))
  prior-leaf test [] row (Some (p ∷ rest)) h = cond-true (test (root row) (keys row)) (Some row) None (here test row true (h []))
  prior-leaf test (level ∷ levels) row from h =
      find-flat-back (λ r. test (root r) (keys r)) (λ m. leaves extend levels (extend row m)) (level row)
      ∙ first_of-filter (λ m. find (λ r. test (root r) (keys r)) (reverse (leaves extend levels (extend row m))))
      (λ m. prior_leaf extend key compare levels (extend row m) (below compare from (key m)))
      (λ m. isnt_after compare from (key m))
      (λ m is. prior-leaf test levels (extend row m) (below compare from (key m)) (λ t. behind test row m t ∙ h (key m ∷ t) ∙ before-kept from (key m) t is))
      (λ m is. none-below-back test levels (extend row m) (λ t. behind test row m t ∙ h (key m ∷ t) ∙ before-dropped from (key m) t is))
      (reverse (level row))
      ∙ ap (first_of (λ m. prior_leaf extend key compare levels (extend row m) (below compare from (key m)))) (filter-reverse (λ m. isnt_after compare from (key m)) (level row))

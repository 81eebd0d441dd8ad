-- What is true of a list in an order: of all its items, of one put into it, and of one taken from it.
use Rattle.std.proofs.Common.{◌≡◌, ℕ, zero, suc, ◌<◌, length, get_or, arith, Bool, true, false, List, [], ◌∷◌, ◌++◌, refl, sym, ◌∙◌, ap, subst}
use Rattle.std.specs.Prelude.{◌≢◌, filter, Contains}
use Rattle.std.specs.List.{AllByRecursion}
use Rattle.std.specs.List.Sorted.{IsStrictlySortedBy}
use Rattle.std.specs.declared.cmp.Ordering.{Ordering}
use Rattle.std.specs.declared.cmp.Ordering.TheVariants.{Less, Equal, Greater}
use Rattle.std.specs.Ordering.{ordering_reverse, is_lt, is_gt, is_ne}
use Rattle.std.specs.Cmp.{IsTotalOrder}
use Rattle.std.proofs.lemmas.Bool.{cond_both, cond-true, cond-false}
use Rattle.key_order.specs.Sorting.{put_in_order, in_order}
use Rattle.key_order.proofs.SortLemmas.{put-before, put-behind}
use Rattle.std.proofs.lemmas.Cmp.{tied_itself}
use Rattle.std.proofs.lemmas.List.Elements.{All-contains, All-from_recursion}
use Rattle.key_order.proofs.OrderLemmas.{less-equal, greater-equal}
use Rattle.key_order.proofs.PathLemmas.{weaker, all-append}

less-equal-not : Less ≡ Greater → ⊥
less-equal-not h = cc

-- R holds of each item and each later one
abbrev pub Pairwise : {A : Type 0} → (A → A → Type 0) → List A → Type 0
Pairwise R [] = Unit {0}
Pairwise R (x ∷ xs) = AllByRecursion (R x) xs × Pairwise R xs

pub pairwise-append : {A : Type 0} (R : A → A → Type 0) (xs ys : List A) → Pairwise R xs → Pairwise R ys → AllByRecursion (λ x. AllByRecursion (R x) ys) xs → Pairwise R (xs ++ ys)
pairwise-append R [] ys all more across = more
pairwise-append R (x ∷ xs) ys all more across = (all-append (R x) xs ys all.0 across.0, pairwise-append R xs ys all.1 more across.1)

module _ {A : Type 0} (compare : A → A → Ordering) where
  all-put : (P : A → Type 0) (x : A) (xs : List A) → P x → AllByRecursion P xs → AllByRecursion P (put_in_order compare x xs)
  all-put P x [] here all = (here, tt)
  all-put P x (z ∷ xs) here all =
      let rest = all-put P x xs here all.1 in
      cond_both (is_lt (compare x z)) (x ∷ z ∷ xs) (z ∷ put_in_order compare x xs) (AllByRecursion P) (λ _. (here, all)) (λ _. (all.0, rest))

  pub all-in_order : (P : A → Type 0) (xs : List A) → AllByRecursion P xs → AllByRecursion P (in_order compare xs)
  all-in_order P [] all = tt
  all-in_order P (x ∷ xs) all = all-put P x (in_order compare xs) all.0 (all-in_order P xs all.1)

  put-strict : IsTotalOrder compare → (x : A) (xs : List A) → AllByRecursion (λ y. compare x y ≢ Equal) xs → IsStrictlySortedBy compare xs → IsStrictlySortedBy compare (put_in_order compare x xs)
  unfolding IsStrictlySortedBy
  put-strict o x [] differ sorted = (tt, tt)
  put-strict o x (z ∷ xs) differ sorted = by (compare x z) refl (put-strict o x xs differ.1 sorted.1)
    where
      by : (order : Ordering) → compare x z ≡ order → IsStrictlySortedBy compare (put_in_order compare x xs) → IsStrictlySortedBy compare (put_in_order compare x (z ∷ xs))
      by Less h rest =
          subst (IsStrictlySortedBy compare) (sym (put-before compare x z xs (ap is_lt h)))
          ((h, weaker (λ y. compare z y ≡ Less) (λ y. compare x y ≡ Less) (λ y. o.trans x z y h) xs sorted.0), sorted)
      by Equal h rest = absurd (differ.0 h)
      by Greater h rest =
          subst (IsStrictlySortedBy compare) (sym (put-behind compare x z xs (ap is_lt h)))
          (all-put (λ y. compare z y ≡ Less) x xs (o.antisymm z x ∙ ap ordering_reverse h) sorted.0, rest)

  pub in_order-strict : IsTotalOrder compare → (xs : List A) → Pairwise (λ x y. compare x y ≢ Equal) xs → IsStrictlySortedBy compare (in_order compare xs)
  unfolding IsStrictlySortedBy
  in_order-strict o [] apart = tt
  in_order-strict o (x ∷ xs) apart =
      put-strict o x (in_order compare xs) (all-in_order (λ y. compare x y ≢ Equal) xs apart.0) (in_order-strict o xs apart.1)

  -- ---- filters

  filter-none : (test : A → Bool) (xs : List A) → AllByRecursion (λ x. test x ≡ false) xs → filter test xs ≡ []
  filter-none test [] all = refl
  filter-none test (x ∷ xs) all = cond-false (test x) (x ∷ filter test xs) (filter test xs) all.0 ∙ filter-none test xs all.1

  filter-each : (test : A → Bool) (xs : List A) → AllByRecursion (λ x. test x ≡ true) xs → filter test xs ≡ xs
  filter-each test [] all = refl
  filter-each test (x ∷ xs) all = cond-true (test x) (x ∷ filter test xs) (filter test xs) all.0 ∙ ap (λ (t : List A). x ∷ t) (filter-each test xs all.1)

  -- what is put into a list can be taken from it
  pub taken-put : (x : A) (xs : List A) → compare x x ≡ Equal → AllByRecursion (λ y. compare y x ≢ Equal) xs → filter (λ y. is_ne (compare y x)) (put_in_order compare x xs) ≡ xs
  taken-put x xs itself differ = by xs differ
    where
      unequal : (o : Ordering) → o ≢ Equal → is_ne o ≡ true
      unequal Less h = refl
      unequal Equal h = absurd (h refl)
      unequal Greater h = refl

      others : (ys : List A) → AllByRecursion (λ y. compare y x ≢ Equal) ys → filter (λ y. is_ne (compare y x)) ys ≡ ys
      others ys all = filter-each (λ y. is_ne (compare y x)) ys (weaker (λ y. compare y x ≢ Equal) (λ y. is_ne (compare y x) ≡ true) (λ y. unequal (compare y x)) ys all)

      first : (ys : List A) → AllByRecursion (λ y. compare y x ≢ Equal) ys → filter (λ y. is_ne (compare y x)) (x ∷ ys) ≡ ys
      first ys all = cond-false (is_ne (compare x x)) (x ∷ filter (λ y. is_ne (compare y x)) ys) (filter (λ y. is_ne (compare y x)) ys) (ap is_ne itself) ∙ others ys all

      by : (ys : List A) → AllByRecursion (λ y. compare y x ≢ Equal) ys → filter (λ y. is_ne (compare y x)) (put_in_order compare x ys) ≡ ys
      by [] all = first [] tt
      by (z ∷ ys) all =
          let rest = by ys all.1 in
          cond_both (is_lt (compare x z)) (x ∷ z ∷ ys) (z ∷ put_in_order compare x ys) (λ w. filter (λ y. is_ne (compare y x)) w ≡ z ∷ ys)
          (λ _. first (z ∷ ys) all)
          (λ _. cond-true (is_ne (compare z x)) (z ∷ filter (λ y. is_ne (compare y x)) (put_in_order compare x ys))
          (filter (λ y. is_ne (compare y x)) (put_in_order compare x ys)) (unequal (compare z x) all.0)
          ∙ ap (λ (t : List A). z ∷ t) rest)

  -- in a list in order an item is put between the lesser and the greater ones
  pub parted-put : IsTotalOrder compare → (x : A) (xs : List A) → IsStrictlySortedBy compare xs → AllByRecursion (λ y. compare y x ≢ Equal) xs
      → filter (λ y. is_lt (compare y x)) xs ++ x ∷ filter (λ y. is_gt (compare y x)) xs ≡ put_in_order compare x xs
  unfolding IsStrictlySortedBy
  parted-put o x [] sorted differ = refl
  parted-put o x (z ∷ xs) sorted differ = by (compare z x) refl (parted-put o x xs sorted.1 differ.1)
    where
      back : (y : A) → compare x y ≡ Less → compare y x ≡ Greater
      back y h = o.antisymm y x ∙ ap ordering_reverse h

      by : (order : Ordering) → compare z x ≡ order → filter (λ y. is_lt (compare y x)) xs ++ x ∷ filter (λ y. is_gt (compare y x)) xs ≡ put_in_order compare x xs
          → filter (λ y. is_lt (compare y x)) (z ∷ xs) ++ x ∷ filter (λ y. is_gt (compare y x)) (z ∷ xs) ≡ put_in_order compare x (z ∷ xs)
      by Less h rest =
          let lesser = cond-true (is_lt (compare z x)) (z ∷ filter (λ y. is_lt (compare y x)) xs) (filter (λ y. is_lt (compare y x)) xs) (ap is_lt h) in
          let greater = cond-false (is_gt (compare z x)) (z ∷ filter (λ y. is_gt (compare y x)) xs) (filter (λ y. is_gt (compare y x)) xs) (ap is_gt h) in
          ap (λ (w : List A). w ++ x ∷ filter (λ y. is_gt (compare y x)) (z ∷ xs)) lesser
          ∙ ap (λ (w : List A). (z ∷ filter (λ y. is_lt (compare y x)) xs) ++ x ∷ w) greater
          ∙ ap (λ (w : List A). z ∷ w) rest
          ∙ sym (put-behind compare x z xs (ap is_lt (o.antisymm x z ∙ ap ordering_reverse h)))
      by Equal h rest = absurd (differ.0 h)
      by Greater h rest =
          let ahead : compare x z ≡ Less = o.antisymm x z ∙ ap ordering_reverse h in
          let later : AllByRecursion (λ y. compare y x ≡ Greater) (z ∷ xs) =
          (h, weaker (λ y. compare z y ≡ Less) (λ y. compare y x ≡ Greater) (λ y below. back y (o.trans x z y ahead below)) xs sorted.0) in
          let lesser = filter-none (λ y. is_lt (compare y x)) (z ∷ xs) (weaker (λ y. compare y x ≡ Greater) (λ y. is_lt (compare y x) ≡ false) (λ y above. ap is_lt above) (z ∷ xs) later) in
          let greater = filter-each (λ y. is_gt (compare y x)) (z ∷ xs) (weaker (λ y. compare y x ≡ Greater) (λ y. is_gt (compare y x) ≡ true) (λ y above. ap is_gt above) (z ∷ xs) later) in
          ap (λ (w : List A). w ++ x ∷ filter (λ y. is_gt (compare y x)) (z ∷ xs)) lesser
          ∙ ap (λ (w : List A). x ∷ w) greater
          ∙ sym (put-before compare x z xs (ap is_lt ahead))

  pub contains-put : (x : A) (xs : List A) → Contains (put_in_order compare x xs) x
  contains-put x [] = (0, omega arith, refl)
  contains-put x (z ∷ xs) =
      let rest = contains-put x xs in
      cond_both (is_lt (compare x z)) (x ∷ z ∷ xs) (z ∷ put_in_order compare x xs) (λ w. Contains w x)
      (λ _. (0, omega arith, refl)) (λ _. (suc rest.0, (let lt = rest.1 in omega arith), rest.2))

  -- an item that is taken from a list in order is put back where it was
  pub put-taken : IsTotalOrder compare → ((x y : A) → compare x y ≡ Equal → x ≡ y) → (x : A) (xs : List A) → IsStrictlySortedBy compare xs → Contains xs x
      → put_in_order compare x (filter (λ y. is_ne (compare y x)) xs) ≡ xs
  unfolding IsStrictlySortedBy
  put-taken o exact x [] sorted there = absurd (let lt = there.1 in omega arith)
  put-taken o exact x (z ∷ xs) sorted there = by (compare z x) refl there (λ within. put-taken o exact x xs sorted.1 within)
    where
      later : compare x z ≡ Equal → AllByRecursion (λ y. compare x y ≡ Less) xs
      later same = weaker (λ y. compare z y ≡ Less) (λ y. compare x y ≡ Less) (λ y below. o.congr x z y same ∙ below) xs sorted.0

      first : (ys : List A) → AllByRecursion (λ y. compare x y ≡ Less) ys → put_in_order compare x ys ≡ x ∷ ys
      first [] all = refl
      first (y ∷ ys) all = put-before compare x y ys (ap is_lt all.0)

      by : (order : Ordering) → compare z x ≡ order → Contains (z ∷ xs) x → (Contains xs x → put_in_order compare x (filter (λ y. is_ne (compare y x)) xs) ≡ xs)
          → put_in_order compare x (filter (λ y. is_ne (compare y x)) (z ∷ xs)) ≡ z ∷ xs
      by Equal h there rest =
          let back : compare x z ≡ Equal = o.antisymm x z ∙ ap ordering_reverse h in
          let above : AllByRecursion (λ y. compare x y ≡ Less) xs = later back in
          let gone : filter (λ y. is_ne (compare y x)) (z ∷ xs) ≡ filter (λ y. is_ne (compare y x)) xs =
          cond-false (is_ne (compare z x)) (z ∷ filter (λ y. is_ne (compare y x)) xs) (filter (λ y. is_ne (compare y x)) xs) (ap is_ne h) in
          let all : filter (λ y. is_ne (compare y x)) xs ≡ xs =
          filter-each (λ y. is_ne (compare y x)) xs (weaker (λ y. compare x y ≡ Less) (λ y. is_ne (compare y x) ≡ true) (λ y below. ap is_ne (o.antisymm y x ∙ ap ordering_reverse below)) xs above) in
          ap (put_in_order compare x) (gone ∙ all) ∙ first xs above ∙ ap (λ (t : A). t ∷ xs) (sym (exact z x h))
      by Less h there rest =
          let kept : filter (λ y. is_ne (compare y x)) (z ∷ xs) ≡ z ∷ filter (λ y. is_ne (compare y x)) xs =
          cond-true (is_ne (compare z x)) (z ∷ filter (λ y. is_ne (compare y x)) xs) (filter (λ y. is_ne (compare y x)) xs) (ap is_ne h) in
          ap (put_in_order compare x) kept
          ∙ put-behind compare x z (filter (λ y. is_ne (compare y x)) xs) (ap is_lt (o.antisymm x z ∙ ap ordering_reverse h))
          ∙ ap (λ (t : List A). z ∷ t) (rest (in-rest there.0 there.1 there.2))
        where
          in-rest : (k : ℕ) → k < length (z ∷ xs) → get_or (z ∷ xs) k x ≡ x → Contains xs x
          in-rest zero lt is = absurd (less-equal (sym h ∙ ap (λ (t : A). compare t x) is ∙ tied_itself o x))
          in-rest (suc k) lt is = (k, omega arith, is)
      by Greater h there rest = absurd (in-none there.0 there.1 there.2)
        where
          in-none : (k : ℕ) → k < length (z ∷ xs) → get_or (z ∷ xs) k x ≡ x → ⊥
          in-none zero lt is = greater-equal (sym h ∙ ap (λ (t : A). compare t x) is ∙ tied_itself o x)
          in-none (suc k) lt is =
              let below : compare z x ≡ Less = All-contains (λ y. compare z y ≡ Less) xs x (All-from_recursion (λ y. compare z y ≡ Less) xs sorted.0) (k, omega arith, is) in
              less-equal-not (sym below ∙ h)

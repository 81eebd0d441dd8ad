-- Lists in a strict total order, each item once: what putting an item in and filtering do to them.
use Rattle.std.proofs.Common.{◌≡◌, ℕ, ◌<◌, ◌≤◌, Bool, true, false, not, cond, List, [], ◌∷◌, length, get_or, refl, sym, ap, ◌∙◌, zero, suc, arith, subst}
use Rattle.std.specs.Cmp.{IsTotalOrder}
use Rattle.std.specs.List.{filter, insert, remove, AllByRecursion}
use Rattle.std.specs.List.Sorted.{IsStrictlySortedBy}
use Rattle.std.specs.Ordering.{is_eq, ordering_reverse, match_ordering}
use Rattle.std.specs.declared.cmp.Ordering.{Ordering}
use Rattle.std.specs.declared.cmp.Ordering.TheVariants.{Less, Equal, Greater}
use Rattle.std.proofs.lemmas.Cmp.{alike_right, tied_back, tied_itself}
use Rattle.std.proofs.lemmas.Map.Keys.{sorted_tail, Less-from_sorted}
use Rattle.lock_table.specs.Table.{with_item, in_order}

module _ {X : Type 0} {R : X → X → Ordering} (o : IsTotalOrder R) where
  pub Greater-back : (x y : X) → R x y ≡ Less → R y x ≡ Greater
  Greater-back x y h = o.antisymm y x ∙ ap ordering_reverse h

  pub Less-back : (x y : X) → R x y ≡ Greater → R y x ≡ Less
  Less-back x y h = o.antisymm y x ∙ ap ordering_reverse h

  -- where a search says that the item belongs
  pub with_item-insert : (x : X) (xs : List X) (i : ℕ) → i ≤ length xs → ((k : ℕ) (d : X) → k < i → R (get_or xs k d) x ≡ Less) → ((k : ℕ) (d : X) → i ≤ k → k < length xs → R (get_or xs k d) x ≡ Greater) → with_item R x xs ≡ insert xs i x
  with_item-insert x [] zero h below above = refl
  with_item-insert x [] (suc i) h below above = absurd (omega arith)
  with_item-insert x (y ∷ ys) zero h below above =
      let e : R x y ≡ Less = Less-back y x (above 0 x (omega arith) (omega arith)) in
      rw e refl
  with_item-insert x (y ∷ ys) (suc i) h below above =
      let e : R x y ≡ Greater = Greater-back y x (below 0 x (omega arith)) in
      rw e (ap (λ zs. y ∷ zs) (with_item-insert x ys i (omega arith) (λ k d l. below (suc k) d (omega arith)) (λ k d l m. above (suc k) d (omega arith) (omega arith))))

  -- where a search finds it
  pub with_item-there : (x : X) (xs : List X) (i : ℕ) → IsStrictlySortedBy R xs → i < length xs → ((d : X) → R (get_or xs i d) x ≡ Equal) → with_item R x xs ≡ xs
  with_item-there x [] i s h at = absurd (omega arith)
  with_item-there x (y ∷ ys) zero s h at = rw (tied_back o y x (at x)) refl
  with_item-there x (y ∷ ys) (suc i) s h at =
      let l : R y (get_or ys i x) ≡ Less = Less-from_sorted R (y ∷ ys) 0 (suc i) x s (omega arith) (omega arith) in
      let e : R x y ≡ Greater = Greater-back y x (sym (alike_right o (get_or ys i x) x y (at x)) ∙ l) in
      rw e (ap (λ zs. y ∷ zs) (with_item-there x ys i (sorted_tail R y ys s) (omega arith) at))

  -- what is true of the item and of each in the list
  pub each-with_item : (P : X → Type 0) (x : X) (xs : List X) → P x → AllByRecursion P xs → AllByRecursion P (with_item R x xs)
  each-with_item P x [] px h = (px, tt)
  each-with_item P x (y ∷ ys) px h =
      elim (R x y) as (λ r. AllByRecursion P (match_ordering r (x ∷ y ∷ ys) (y ∷ ys) (y ∷ with_item R x ys))) [
        | Less ↦ (px, h)
        | Equal ↦ h
        | Greater ↦ (h.0, each-with_item P x ys px h.1)
      ]

  -- what is below the first is below all
  above_all : (x y : X) (ys : List X) → R x y ≡ Less → AllByRecursion (λ z. R y z ≡ Less) ys → AllByRecursion (λ z. R x z ≡ Less) ys
  above_all x y [] h a = tt
  above_all x y (z ∷ zs) h a = (o.trans x y z h a.0, above_all x y zs h a.1)

  pub IsStrictlySortedBy-with_item : (x : X) (xs : List X) → IsStrictlySortedBy R xs → IsStrictlySortedBy R (with_item R x xs)
  unfolding IsStrictlySortedBy
  IsStrictlySortedBy-with_item x [] s = (tt, tt)
  IsStrictlySortedBy-with_item x (y ∷ ys) s =
      elim (R x y) as (λ r. R x y ≡ r → IsStrictlySortedBy R (match_ordering r (x ∷ y ∷ ys) (y ∷ ys) (y ∷ with_item R x ys))) [
        | Less ↦ λ e. ((e, above_all x y ys e s.0), s)
        | Equal ↦ λ e. s
        | Greater ↦ λ e. (each-with_item (λ z. R y z ≡ Less) x ys (Less-back x y e) s.0, IsStrictlySortedBy-with_item x ys s.1)
      ] refl

  -- an item that is below all of them comes first
  pub with_item-first : (x : X) (xs : List X) → AllByRecursion (λ z. R x z ≡ Less) xs → with_item R x xs ≡ x ∷ xs
  with_item-first x [] h = refl
  with_item-first x (y ∷ ys) h = rw h.0 refl

  pub in_order-sorted : (xs : List X) → IsStrictlySortedBy R xs → in_order R xs ≡ xs
  unfolding IsStrictlySortedBy
  in_order-sorted [] s = refl
  in_order-sorted (x ∷ xs) s = rw (in_order-sorted xs s.1) (with_item-first x xs s.0)

  pub IsStrictlySortedBy-in_order : (xs : List X) → IsStrictlySortedBy R (in_order R xs)
  unfolding IsStrictlySortedBy
  IsStrictlySortedBy-in_order [] = tt
  IsStrictlySortedBy-in_order (x ∷ xs) = IsStrictlySortedBy-with_item x (in_order R xs) (IsStrictlySortedBy-in_order xs)

  pub with_item-twice : (x : X) (xs : List X) → with_item R x (with_item R x xs) ≡ with_item R x xs
  with_item-twice x [] = rw (tied_itself o x) refl
  with_item-twice x (y ∷ ys) =
      elim (R x y) as (λ r. R x y ≡ r → with_item R x (match_ordering r (x ∷ y ∷ ys) (y ∷ ys) (y ∷ with_item R x ys)) ≡ match_ordering r (x ∷ y ∷ ys) (y ∷ ys) (y ∷ with_item R x ys)) [
        | Less ↦ λ e. rw (tied_itself o x) refl
        | Equal ↦ λ e. rw e refl
        | Greater ↦ λ e. rw (e, with_item-twice x ys) refl
      ] refl

  -- items that tie are one
  module _ (same : (x y : X) → R x y ≡ Equal → x ≡ y) where
    swap_below : (x y : X) → R x y ≡ Less → (xs : List X) → with_item R x (with_item R y xs) ≡ with_item R y (with_item R x xs)
    swap_below x y l [] = rw (l, Greater-back x y l) refl
    swap_below x y l (z ∷ zs) =
        let g : R y x ≡ Greater = Greater-back x y l in
        elim (R y z) as (λ r. R y z ≡ r → with_item R x (match_ordering r (y ∷ z ∷ zs) (z ∷ zs) (z ∷ with_item R y zs)) ≡ with_item R y (with_item R x (z ∷ zs))) [
          | Less ↦ λ e. let f : R x z ≡ Less = o.trans x y z l e in rw (l, f, g, e) refl
          | Equal ↦ λ e. let f : R x z ≡ Less = sym (alike_right o y z x e) ∙ l in rw (f, g, e) refl
          | Greater ↦ λ e.
              elim (R x z) as (λ r. R x z ≡ r → with_item R x (z ∷ with_item R y zs) ≡ with_item R y (match_ordering r (x ∷ z ∷ zs) (z ∷ zs) (z ∷ with_item R x zs))) [
                | Less ↦ λ f. rw (f, g, e) refl
                | Equal ↦ λ f. rw (f, e) refl
                | Greater ↦ λ f. rw (f, e) (ap (λ ws. z ∷ ws) (swap_below x y l zs))
              ] refl
        ] refl

    pub with_item-swap : (x y : X) (xs : List X) → with_item R x (with_item R y xs) ≡ with_item R y (with_item R x xs)
    with_item-swap x y xs =
        elim (R x y) as (λ r. R x y ≡ r → with_item R x (with_item R y xs) ≡ with_item R y (with_item R x xs)) [
          | Less ↦ λ e. swap_below x y e xs
          | Equal ↦ λ e. subst (λ z. with_item R x (with_item R z xs) ≡ with_item R z (with_item R x xs)) (same x y e) refl
          | Greater ↦ λ e. sym (swap_below y x (Less-back x y e) xs)
        ] refl

pub each-filter : {X : Type 0} (P : X → Type 0) (p : X → Bool) (xs : List X) → AllByRecursion P xs → AllByRecursion P (filter p xs)
each-filter P p [] h = tt
each-filter P p (x ∷ xs) h = elim (p x) as (λ b. AllByRecursion P (cond b (x ∷ filter p xs) (filter p xs))) [ true ↦ (h.0, each-filter P p xs h.1) | false ↦ each-filter P p xs h.1 ]

-- nothing goes where each passes
pub filter-all : {X : Type 0} (p : X → Bool) (xs : List X) → AllByRecursion (λ x. p x ≡ true) xs → filter p xs ≡ xs
filter-all p [] h = refl
filter-all p (x ∷ xs) h = rw h.0 (ap (λ ys. x ∷ ys) (filter-all p xs h.1))

module _ {X : Type 0} {R : X → X → Ordering} (o : IsTotalOrder R) (same : (x y : X) → R x y ≡ Equal → x ≡ y) where
  filter_cases : (p : X → Bool) (x y : X) (ys : List X) → R x y ≡ Greater → (a b : Bool) → cond b (y ∷ cond a (with_item R x ys) ys) (cond a (with_item R x ys) ys) ≡ cond a (with_item R x (cond b (y ∷ ys) ys)) (cond b (y ∷ ys) ys)
  filter_cases p x y ys g true true = rw g refl
  filter_cases p x y ys g true false = refl
  filter_cases p x y ys g false true = refl
  filter_cases p x y ys g false false = refl

  filter_tied : (p : X → Bool) (x y : X) (ys : List X) → R x y ≡ Equal → (a b : Bool) → a ≡ b → cond b (y ∷ ys) ys ≡ cond a (with_item R x (cond b (y ∷ ys) ys)) (cond b (y ∷ ys) ys)
  filter_tied p x y ys g true true e = rw g refl
  filter_tied p x y ys g true false e = cc
  filter_tied p x y ys g false true e = refl
  filter_tied p x y ys g false false e = refl

  pub filter-with_item : (p : X → Bool) (x : X) (xs : List X) → IsStrictlySortedBy R xs → filter p (with_item R x xs) ≡ cond (p x) (with_item R x (filter p xs)) (filter p xs)
  unfolding IsStrictlySortedBy
  filter-with_item p x [] s = refl
  filter-with_item p x (y ∷ ys) s =
      elim (R x y) as (λ r. R x y ≡ r → filter p (match_ordering r (x ∷ y ∷ ys) (y ∷ ys) (y ∷ with_item R x ys)) ≡ cond (p x) (with_item R x (filter p (y ∷ ys))) (filter p (y ∷ ys))) [
        | Less ↦ λ e. sym (ap (λ zs. cond (p x) zs (filter p (y ∷ ys))) (with_item-first o x (filter p (y ∷ ys)) (each-filter (λ z. R x z ≡ Less) p (y ∷ ys) (e, above_all o x y ys e s.0))))
        | Equal ↦ λ e. filter_tied p x y (filter p ys) e (p x) (p y) (ap p (same x y e))
        | Greater ↦ λ e. rw (filter-with_item p x ys s.1) (filter_cases p x y (filter p ys) e (p x) (p y))
      ] refl

  pub filter-in_order : (p : X → Bool) (xs : List X) → filter p (in_order R xs) ≡ in_order R (filter p xs)
  filter-in_order p [] = refl
  filter-in_order p (x ∷ xs) =
      rw (filter-with_item p x (in_order R xs) (IsStrictlySortedBy-in_order o xs), filter-in_order p xs)
      (elim (p x) as (λ b. cond b (with_item R x (in_order R (filter p xs))) (in_order R (filter p xs)) ≡ in_order R (cond b (x ∷ filter p xs) (filter p xs))) [ true ↦ refl | false ↦ refl ])

  -- a fold into which each item goes once, in any order
  pub fold-with_item : {Y : Type 0} (F : List X → List Y) (h : X → List Y → List Y) → ((x : X) (xs : List X) → F (x ∷ xs) ≡ h x (F xs)) → ((x : X) (ys : List Y) → h x (h x ys) ≡ h x ys) → ((x y : X) (zs : List Y) → h x (h y zs) ≡ h y (h x zs)) → (x : X) (xs : List X) → F (with_item R x xs) ≡ h x (F xs)
  fold-with_item F h step twice swap x [] = step x []
  fold-with_item F h step twice swap x (y ∷ ys) =
      elim (R x y) as (λ r. R x y ≡ r → F (match_ordering r (x ∷ y ∷ ys) (y ∷ ys) (y ∷ with_item R x ys)) ≡ h x (F (y ∷ ys))) [
        | Less ↦ λ e. step x (y ∷ ys)
        | Equal ↦ λ e. step y ys ∙ sym (twice y (F ys)) ∙ sym (ap (h y) (step y ys)) ∙ ap (λ z. h z (F (y ∷ ys))) (sym (same x y e))
        | Greater ↦ λ e. step y (with_item R x ys) ∙ ap (h y) (fold-with_item F h step twice swap x ys) ∙ swap y x (F ys) ∙ sym (ap (h x) (step y ys))
      ] refl

module _ {X : Type 0} {R : X → X → Ordering} (o : IsTotalOrder R) where
  not_it : (x : X) (ys : List X) → AllByRecursion (λ z. R x z ≡ Less) ys → AllByRecursion (λ z. not (is_eq (R z x)) ≡ true) ys
  not_it x [] h = tt
  not_it x (y ∷ ys) h = (ap (λ r. not (is_eq r)) (Greater-back o x y h.0), not_it x ys h.1)

  tied_below : (x y : X) (zs : List X) → R y x ≡ Equal → AllByRecursion (λ z. R y z ≡ Less) zs → AllByRecursion (λ z. R x z ≡ Less) zs
  tied_below x y [] e h = tt
  tied_below x y (z ∷ zs) e h = (sym (o.congr y x z e) ∙ h.0, tied_below x y zs e h.1)

  -- an item that a search found is taken out
  pub filter-found : (x : X) (xs : List X) (i : ℕ) → IsStrictlySortedBy R xs → i < length xs → ((d : X) → R (get_or xs i d) x ≡ Equal) → filter (λ y. not (is_eq (R y x))) xs ≡ remove xs i
  unfolding IsStrictlySortedBy
  filter-found x [] i s h at = absurd (omega arith)
  filter-found x (y ∷ ys) zero s h at = rw (at x) (filter-all (λ z. not (is_eq (R z x))) ys (not_it x ys (tied_below x y ys (at x) s.0)))
  filter-found x (y ∷ ys) (suc i) s h at =
      let l : R y (get_or ys i x) ≡ Less = Less-from_sorted R (y ∷ ys) 0 (suc i) x s (omega arith) (omega arith) in
      let e : R y x ≡ Less = sym (alike_right o (get_or ys i x) x y (at x)) ∙ l in
      rw e (ap (λ zs. y ∷ zs) (filter-found x ys i s.1 (omega arith) at))

  -- an item that is taken out and put in again
  pub with_item-filter : (x : X) (xs : List X) (i : ℕ) → IsStrictlySortedBy R xs → i < length xs → get_or xs i x ≡ x → with_item R x (filter (λ y. not (is_eq (R y x))) xs) ≡ xs
  unfolding IsStrictlySortedBy
  with_item-filter x [] i s h at = absurd (omega arith)
  with_item-filter x (y ∷ ys) zero s h at =
      let e : R y x ≡ Equal = ap (λ z. R z x) at ∙ tied_itself o x in
      let below : AllByRecursion (λ z. R x z ≡ Less) ys = tied_below x y ys e s.0 in
      rw (e, filter-all (λ z. not (is_eq (R z x))) ys (not_it x ys below), with_item-first o x ys below) (ap (λ z. z ∷ ys) (sym at))
  with_item-filter x (y ∷ ys) (suc i) s h at =
      let l : R y (get_or ys i x) ≡ Less = Less-from_sorted R (y ∷ ys) 0 (suc i) x s (omega arith) (omega arith) in
      let e : R y x ≡ Less = sym (ap (R y) at) ∙ l in
      rw (e, Greater-back o y x e) (ap (λ zs. y ∷ zs) (with_item-filter x ys i s.1 (omega arith) at))

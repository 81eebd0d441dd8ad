-- Lists in strict order around one of their items: what putting an item in and filtering do on its two sides.
use Rattle.std.proofs.Common.{◌≡◌, Bool, true, false, not, List, [], ◌∷◌, ◌++◌, length, refl, sym, ap, ◌∙◌, arith}
use Rattle.std.specs.Cmp.{IsTotalOrder}
use Rattle.std.specs.List.{filter, AllByRecursion}
use Rattle.std.specs.List.Sorted.{IsStrictlySortedBy}
use Rattle.std.specs.Ordering.{is_eq, match_ordering}
use Rattle.std.specs.declared.cmp.Ordering.{Ordering}
use Rattle.std.specs.declared.cmp.Ordering.TheVariants.{Less, Equal, Greater}
use Rattle.std.proofs.lemmas.Cmp.{alike_right, tied_back}
use Rattle.std.proofs.lemmas.List.{append-nil}
use Rattle.std.proofs.lemmas.List.Elements.{filter-append}
use Rattle.lock_table.specs.Table.{with_item}
use Rattle.lock_table.proofs.InOrder.{Greater-back, Less-back, filter-all}

module _ {X : Type 0} where
  pub each_map : (P Q : X → Type 0) → ((x : X) → P x → Q x) → (xs : List X) → AllByRecursion P xs → AllByRecursion Q xs
  each_map P Q f [] h = tt
  each_map P Q f (x ∷ xs) h = (f x h.0, each_map P Q f xs h.1)

  pub each_front : (P : X → Type 0) (xs ys : List X) → AllByRecursion P (xs ++ ys) → AllByRecursion P xs
  each_front P [] ys h = tt
  each_front P (x ∷ xs) ys h = (h.0, each_front P xs ys h.1)

  pub each_back : (P : X → Type 0) (xs ys : List X) → AllByRecursion P (xs ++ ys) → AllByRecursion P ys
  each_back P [] ys h = h
  each_back P (x ∷ xs) ys h = each_back P xs ys h.1

  pub filter-out : (p : X → Bool) (xs : List X) → AllByRecursion (λ x. p x ≡ false) xs → filter p xs ≡ []
  filter-out p [] h = refl
  filter-out p (x ∷ xs) h = rw h.0 (filter-out p xs h.1)

  filter-first : (p : X → Bool) (x : X) (xs : List X) → p x ≡ true → filter p (x ∷ xs) ≡ x ∷ filter p xs
  filter-first p x xs h = rw h refl

  -- what a test keeps that the item doesn't pass, nor what is on one side of it
  pub filter-left : (p : X → Bool) (left : List X) (x : X) (right : List X) → p x ≡ false → AllByRecursion (λ y. p y ≡ false) right → filter p (left ++ x ∷ right) ≡ filter p left
  filter-left p left x right h out =
      filter-append p left (x ∷ right) ∙ ap (λ zs. filter p left ++ zs) (filter-out p (x ∷ right) (h, out)) ∙ append-nil (filter p left)

  pub filter-right : (p : X → Bool) (left : List X) (x : X) (right : List X) → AllByRecursion (λ y. p y ≡ false) left → p x ≡ false → filter p (left ++ x ∷ right) ≡ filter p right
  filter-right p left x right out h =
      let rest : filter p (x ∷ right) ≡ filter p right = rw h refl in
      filter-append p left (x ∷ right) ∙ ap (λ zs. zs ++ filter p (x ∷ right)) (filter-out p left out) ∙ rest

  pub filter-here : (p : X → Bool) (left : List X) (x : X) (right : List X) → p x ≡ true → filter p (left ++ x ∷ right) ≡ filter p left ++ x ∷ filter p right
  filter-here p left x right h = filter-append p left (x ∷ right) ∙ ap (λ zs. filter p left ++ zs) (filter-first p x right h)

module _ {X : Type 0} (R : X → X → Ordering) where
  -- both sides of an item are in order, one below it and one above
  pub record AreSides (left : List X) (x : X) (right : List X) : Type 0 where
    pub first : IsStrictlySortedBy R left
    pub second : IsStrictlySortedBy R right
    pub below : AllByRecursion (λ y. R y x ≡ Less) left
    pub above : AllByRecursion (λ y. R x y ≡ Less) right

  pub sides : (left : List X) (x : X) (right : List X) → IsStrictlySortedBy R (left ++ x ∷ right) → AreSides left x right
  unfolding IsStrictlySortedBy
  sides [] x right s = record { first = tt; second = s.1; below = tt; above = s.0 }
  sides (y ∷ ys) x right s =
      let more : AreSides ys x right = sides ys x right s.1 in
      let later : AllByRecursion (λ z. R y z ≡ Less) (x ∷ right) = each_back (λ z. R y z ≡ Less) ys (x ∷ right) s.0 in
      record {
        first = (each_front (λ z. R y z ≡ Less) ys (x ∷ right) s.0, more.first);
        second = more.second;
        below = (later.0, more.below);
        above = more.above;
      }

  -- where no item is added, the list is as it was
  pub with_item-same : (item : X) (xs : List X) → length (with_item R item xs) ≡ length xs → with_item R item xs ≡ xs
  with_item-same item [] h = absurd (omega arith)
  with_item-same item (y ∷ ys) h =
      elim (R item y) as (λ r. length (match_ordering r (item ∷ y ∷ ys) (y ∷ ys) (y ∷ with_item R item ys)) ≡ length (y ∷ ys) → match_ordering r (item ∷ y ∷ ys) (y ∷ ys) (y ∷ with_item R item ys) ≡ y ∷ ys) [
        | Less ↦ λ k. absurd (omega arith)
        | Equal ↦ λ k. refl
        | Greater ↦ λ k. ap (λ zs. y ∷ zs) (with_item-same item ys (omega arith))
      ] h

module _ {X : Type 0} {R : X → X → Ordering} (o : IsTotalOrder R) where
  pub with_item-left : (item : X) (left : List X) (x : X) (right : List X) → R item x ≡ Less → with_item R item (left ++ x ∷ right) ≡ with_item R item left ++ x ∷ right
  with_item-left item [] x right h = rw h refl
  with_item-left item (y ∷ ys) x right h =
      elim (R item y) as (λ r. match_ordering r (item ∷ y ∷ (ys ++ x ∷ right)) (y ∷ (ys ++ x ∷ right)) (y ∷ with_item R item (ys ++ x ∷ right)) ≡ match_ordering r (item ∷ y ∷ ys) (y ∷ ys) (y ∷ with_item R item ys) ++ x ∷ right) [
        | Less ↦ refl
        | Equal ↦ refl
        | Greater ↦ ap (λ zs. y ∷ zs) (with_item-left item ys x right h)
      ]

  pub with_item-right : (item : X) (left : List X) (x : X) (right : List X) → AllByRecursion (λ y. R y x ≡ Less) left → R item x ≡ Greater → with_item R item (left ++ x ∷ right) ≡ left ++ x ∷ with_item R item right
  with_item-right item [] x right b h = rw h refl
  with_item-right item (y ∷ ys) x right b h =
      let e : R item y ≡ Greater = Greater-back o y item (o.trans y x item b.0 (Less-back o item x h)) in
      rw e (ap (λ zs. y ∷ zs) (with_item-right item ys x right b.1 h))

  pub with_item-here : (item : X) (left : List X) (x : X) (right : List X) → AllByRecursion (λ y. R y x ≡ Less) left → R item x ≡ Equal → with_item R item (left ++ x ∷ right) ≡ left ++ x ∷ right
  with_item-here item [] x right b h = rw h refl
  with_item-here item (y ∷ ys) x right b h =
      let l : R y item ≡ Less = sym (alike_right o x item y (tied_back o item x h)) ∙ b.0 in
      let e : R item y ≡ Greater = Greater-back o y item l in
      rw e (ap (λ zs. y ∷ zs) (with_item-here item ys x right b.1 h))

  -- the same of the list without the item
  abbrev other_than : X → X → Bool
  other_than item y = not (is_eq (R y item))

  is_other : (item y : X) (r : Ordering) → is_eq r ≡ false → R y item ≡ r → not (is_eq (R y item)) ≡ true
  is_other item y r h e = rw (e, h) refl

  above_other : (item x : X) → R item x ≡ Less → (right : List X) → AllByRecursion (λ y. R x y ≡ Less) right → AllByRecursion (λ y. not (is_eq (R y item)) ≡ true) right
  above_other item x h right above =
      each_map (λ y. R x y ≡ Less) (λ y. not (is_eq (R y item)) ≡ true) (λ y e. is_other item y Greater refl (Greater-back o item y (o.trans item x y h e))) right above

  below_other : (item x : X) → R x item ≡ Less → (left : List X) → AllByRecursion (λ y. R y x ≡ Less) left → AllByRecursion (λ y. not (is_eq (R y item)) ≡ true) left
  below_other item x h left below =
      each_map (λ y. R y x ≡ Less) (λ y. not (is_eq (R y item)) ≡ true) (λ y e. is_other item y Less refl (o.trans y x item e h)) left below

  pub without-left : (item : X) (left : List X) (x : X) (right : List X) → AllByRecursion (λ y. R x y ≡ Less) right → R item x ≡ Less → filter (λ y. not (is_eq (R y item))) (left ++ x ∷ right) ≡ filter (λ y. not (is_eq (R y item))) left ++ x ∷ right
  without-left item left x right above h =
      filter-append (λ y. not (is_eq (R y item))) left (x ∷ right)
      ∙ ap (λ zs. filter (λ y. not (is_eq (R y item))) left ++ zs)
      (filter-all (λ y. not (is_eq (R y item))) (x ∷ right) (is_other item x Greater refl (Greater-back o item x h), above_other item x h right above))

  pub without-right : (item : X) (left : List X) (x : X) (right : List X) → AllByRecursion (λ y. R y x ≡ Less) left → R item x ≡ Greater → filter (λ y. not (is_eq (R y item))) (left ++ x ∷ right) ≡ left ++ x ∷ filter (λ y. not (is_eq (R y item))) right
  without-right item left x right below h =
      let l : R x item ≡ Less = Less-back o item x h in
      filter-here (λ y. not (is_eq (R y item))) left x right (is_other item x Less refl l)
      ∙ ap (λ zs. zs ++ x ∷ filter (λ y. not (is_eq (R y item))) right) (filter-all (λ y. not (is_eq (R y item))) left (below_other item x l left below))

  pub without-here : (item : X) (left : List X) (x : X) (right : List X) → AllByRecursion (λ y. R y x ≡ Less) left → AllByRecursion (λ y. R x y ≡ Less) right → R item x ≡ Equal → filter (λ y. not (is_eq (R y item))) (left ++ x ∷ right) ≡ left ++ right
  without-here item left x right below above h =
      let back : R x item ≡ Equal = tied_back o item x h in
      let ahead : AllByRecursion (λ y. not (is_eq (R y item)) ≡ true) left =
      each_map (λ y. R y x ≡ Less) (λ y. not (is_eq (R y item)) ≡ true) (λ y e. is_other item y Less refl (sym (alike_right o x item y back) ∙ e)) left below
      in
      let behind : AllByRecursion (λ y. not (is_eq (R y item)) ≡ true) right =
      each_map (λ y. R x y ≡ Less) (λ y. not (is_eq (R y item)) ≡ true) (λ y e. is_other item y Greater refl (Greater-back o item y (o.congr item x y h ∙ e))) right above
      in
      let gone : filter (λ y. not (is_eq (R y item))) (x ∷ right) ≡ filter (λ y. not (is_eq (R y item))) right = rw back refl in
      filter-append (λ y. not (is_eq (R y item))) left (x ∷ right)
      ∙ ap (λ zs. zs ++ filter (λ y. not (is_eq (R y item))) (x ∷ right)) (filter-all (λ y. not (is_eq (R y item))) left ahead)
      ∙ ap (λ zs. left ++ zs) (gone ∙ filter-all (λ y. not (is_eq (R y item))) right behind)

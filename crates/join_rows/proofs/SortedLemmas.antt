-- A list in order, mapped and filtered, and the same list by another order that agrees.
use Rattle.std.proofs.Common.{◌≡◌, Bool, true, false, cond, List, [], ◌∷◌, map, refl, ap, sym, ◌∙◌, subst}
use Rattle.std.specs.Prelude.{filter}
use Rattle.std.specs.List.{AllByRecursion}
use Rattle.std.specs.declared.cmp.Ordering.{Ordering}
use Rattle.std.specs.declared.cmp.Ordering.TheVariants.{Less, Equal, Greater}
use Rattle.std.specs.Ordering.{ordering_reverse, is_lt}
use Rattle.std.specs.Cmp.{IsTotalOrder}
use Rattle.std.proofs.lemmas.Bool.{cond-true, cond-false, cond_both}
use Rattle.file_model.specs.Sorting.{put_in_order, in_order}
use Rattle.file_model.proofs.SortLemmas.{put-before, put-behind}
use Rattle.file_model.proofs.PathLemmas.{weaker, all-filter}
use Rattle.access_path.proofs.OrderedLemmas.{all-in_order}
use Rattle.join_rows.proofs.OptionLemmas.{true-false}

-- ---- mapped

module _ {A B : Type 0} (compare : B → B → Ordering) (f : A → B) where
  put-map : (x : A) (ys : List A) → put_in_order compare (f x) (map f ys) ≡ map f (put_in_order (λ a b. compare (f a) (f b)) x ys)
  put-map x [] = refl
  put-map x (y ∷ ys) = by (is_lt (compare (f x) (f y))) refl (put-map x ys)
    where
      by : (b : Bool) → is_lt (compare (f x) (f y)) ≡ b → put_in_order compare (f x) (map f ys) ≡ map f (put_in_order (λ a b. compare (f a) (f b)) x ys)
          → put_in_order compare (f x) (f y ∷ map f ys) ≡ map f (put_in_order (λ a b. compare (f a) (f b)) x (y ∷ ys))
      by true is rest =
          put-before compare (f x) (f y) (map f ys) is ∙ sym (ap (map f) (put-before (λ a b. compare (f a) (f b)) x y ys is))
      by false is rest =
          put-behind compare (f x) (f y) (map f ys) is ∙ ap (λ w. f y ∷ w) rest ∙ sym (ap (map f) (put-behind (λ a b. compare (f a) (f b)) x y ys is))

  pub in_order-map : (xs : List A) → in_order compare (map f xs) ≡ map f (in_order (λ a b. compare (f a) (f b)) xs)
  in_order-map [] = refl
  in_order-map (x ∷ xs) = ap (put_in_order compare (f x)) (in_order-map xs) ∙ put-map x (in_order (λ a b. compare (f a) (f b)) xs)

-- ---- by another order

module _ {A : Type 0} (compare other : A → A → Ordering) (P : A → Type 0) (agree : (a b : A) → P a → P b → compare a b ≡ other a b) where
  put-same : (x : A) (ys : List A) → P x → AllByRecursion P ys → put_in_order compare x ys ≡ put_in_order other x ys
  put-same x [] here all = refl
  put-same x (y ∷ ys) here all =
      ap (λ o. cond (is_lt o) (x ∷ y ∷ ys) (y ∷ put_in_order compare x ys)) (agree x y here all.0)
      ∙ ap (λ w. cond (is_lt (other x y)) (x ∷ y ∷ ys) (y ∷ w)) (put-same x ys here all.1)

  pub in_order-same : (xs : List A) → AllByRecursion P xs → in_order compare xs ≡ in_order other xs
  in_order-same [] all = refl
  in_order-same (x ∷ xs) all =
      put-same x (in_order compare xs) all.0 (all-in_order compare P xs all.1)
      ∙ ap (put_in_order other x) (in_order-same xs all.1)

-- ---- filtered

module _ {A : Type 0} (compare : A → A → Ordering) (o : IsTotalOrder compare) where
  -- no item is greater than one after it
  abbrev Rises : List A → Type 0
  Rises [] = Unit {0}
  Rises (x ∷ xs) = AllByRecursion (λ y. is_lt (compare y x) ≡ false) xs × Rises xs

  less-above : (x y z : A) → compare x y ≡ Less → is_lt (compare z y) ≡ false → compare x z ≡ Less
  less-above x y z less upto = by (compare z y) refl upto
    where
      by : (r : Ordering) → compare z y ≡ r → is_lt r ≡ false → compare x z ≡ Less
      by Less is out = true-false out
      by Equal is out = o.antisymm x z ∙ ap ordering_reverse (o.congr z y x is ∙ o.antisymm y x ∙ ap ordering_reverse less)
      by Greater is out = o.trans x y z less (o.antisymm y z ∙ ap ordering_reverse is)

  isnt-below : (x z : A) → compare x z ≡ Less → is_lt (compare z x) ≡ false
  isnt-below x z less = ap is_lt (o.antisymm z x ∙ ap ordering_reverse less)

  less-of : (x y : A) → is_lt (compare x y) ≡ true → compare x y ≡ Less
  less-of x y h = by (compare x y) refl h
    where
      by : (r : Ordering) → compare x y ≡ r → is_lt r ≡ true → compare x y ≡ Less
      by Less is stays = is
      by Equal is stays = true-false (sym stays)
      by Greater is stays = true-false (sym stays)

  all-put : (P : A → Type 0) (x : A) (xs : List A) → P x → AllByRecursion P xs → AllByRecursion P (put_in_order compare x xs)
  all-put P x [] here all = (here, tt)
  all-put P x (z ∷ xs) here all =
      let rest = all-put P x xs here all.1 in
      cond_both (is_lt (compare x z)) (x ∷ z ∷ xs) (z ∷ put_in_order compare x xs) (AllByRecursion P) (λ _. (here, all)) (λ _. (all.0, rest))

  put-rises : (x : A) (xs : List A) → Rises xs → Rises (put_in_order compare x xs)
  put-rises x [] rises = (tt, tt)
  put-rises x (z ∷ xs) rises = by (is_lt (compare x z)) refl (put-rises x xs rises.1)
    where
      by : (b : Bool) → is_lt (compare x z) ≡ b → Rises (put_in_order compare x xs) → Rises (put_in_order compare x (z ∷ xs))
      by true is rest =
          subst Rises (sym (put-before compare x z xs is)) (
            (
              isnt-below x z (less-of x z is),
              weaker (λ y. is_lt (compare y z) ≡ false) (λ y. is_lt (compare y x) ≡ false) (λ y h. isnt-below x y (less-above x z y (less-of x z is) h)) xs rises.0,
            ),
            rises,
          )
      by false is rest =
          subst Rises (sym (put-behind compare x z xs is))
          (all-put (λ y. is_lt (compare y z) ≡ false) x xs is rises.0, rest)

  in_order-rises : (xs : List A) → Rises (in_order compare xs)
  in_order-rises [] = tt
  in_order-rises (x ∷ xs) = put-rises x (in_order compare xs) (in_order-rises xs)

  put-first : (x : A) (xs : List A) → AllByRecursion (λ y. compare x y ≡ Less) xs → put_in_order compare x xs ≡ x ∷ xs
  put-first x [] all = refl
  put-first x (y ∷ xs) all = put-before compare x y xs (ap is_lt all.0)

  module _ (keeps : A → Bool) where
    kept : (x : A) (xs : List A) → keeps x ≡ true → filter keeps (x ∷ xs) ≡ x ∷ filter keeps xs
    kept x xs is = cond-true (keeps x) (x ∷ filter keeps xs) (filter keeps xs) is

    dropped : (x : A) (xs : List A) → keeps x ≡ false → filter keeps (x ∷ xs) ≡ filter keeps xs
    dropped x xs is = cond-false (keeps x) (x ∷ filter keeps xs) (filter keeps xs) is

    filter-put-other : (x : A) (xs : List A) → keeps x ≡ false → filter keeps (put_in_order compare x xs) ≡ filter keeps xs
    filter-put-other x [] out = dropped x [] out
    filter-put-other x (z ∷ xs) out = by (is_lt (compare x z)) refl (keeps z) refl (filter-put-other x xs out)
      where
        by : (b : Bool) → is_lt (compare x z) ≡ b → (c : Bool) → keeps z ≡ c → filter keeps (put_in_order compare x xs) ≡ filter keeps xs → filter keeps (put_in_order compare x (z ∷ xs)) ≡ filter keeps (z ∷ xs)
        by true is c also rest = ap (filter keeps) (put-before compare x z xs is) ∙ dropped x (z ∷ xs) out
        by false is true also rest = ap (filter keeps) (put-behind compare x z xs is) ∙ kept z (put_in_order compare x xs) also ∙ ap (λ w. z ∷ w) rest ∙ sym (kept z xs also)
        by false is false also rest = ap (filter keeps) (put-behind compare x z xs is) ∙ dropped z (put_in_order compare x xs) also ∙ rest ∙ sym (dropped z xs also)

    filter-put : (x : A) (xs : List A) → keeps x ≡ true → Rises xs → filter keeps (put_in_order compare x xs) ≡ put_in_order compare x (filter keeps xs)
    filter-put x [] stays rises = kept x [] stays
    filter-put x (z ∷ xs) stays rises = by (is_lt (compare x z)) refl (keeps z) refl (filter-put x xs stays rises.1)
      where
        by : (b : Bool) → is_lt (compare x z) ≡ b → (c : Bool) → keeps z ≡ c → filter keeps (put_in_order compare x xs) ≡ put_in_order compare x (filter keeps xs)
            → filter keeps (put_in_order compare x (z ∷ xs)) ≡ put_in_order compare x (filter keeps (z ∷ xs))
        by true is c also rest =
            let less : AllByRecursion (λ y. compare x y ≡ Less) (z ∷ xs) =
            (less-of x z is, weaker (λ y. is_lt (compare y z) ≡ false) (λ y. compare x y ≡ Less) (λ y h. less-above x z y (less-of x z is) h) xs rises.0) in
            ap (filter keeps) (put-before compare x z xs is)
            ∙ kept x (z ∷ xs) stays
            ∙ sym (put-first x (filter keeps (z ∷ xs)) (all-filter (λ y. compare x y ≡ Less) keeps (z ∷ xs) less))
        by false is true also rest =
            ap (filter keeps) (put-behind compare x z xs is)
            ∙ kept z (put_in_order compare x xs) also
            ∙ ap (λ w. z ∷ w) rest
            ∙ sym (put-behind compare x z (filter keeps xs) is)
            ∙ sym (ap (put_in_order compare x) (kept z xs also))
        by false is false also rest =
            ap (filter keeps) (put-behind compare x z xs is)
            ∙ dropped z (put_in_order compare x xs) also
            ∙ rest
            ∙ sym (ap (put_in_order compare x) (dropped z xs also))

    pub filter-in_order : (xs : List A) → filter keeps (in_order compare xs) ≡ in_order compare (filter keeps xs)
    filter-in_order [] = refl
    filter-in_order (x ∷ xs) = by (keeps x) refl (filter-in_order xs)
      where
        by : (b : Bool) → keeps x ≡ b → filter keeps (in_order compare xs) ≡ in_order compare (filter keeps xs) → filter keeps (in_order compare (x ∷ xs)) ≡ in_order compare (filter keeps (x ∷ xs))
        by true is rest =
            filter-put x (in_order compare xs) is (in_order-rises xs)
            ∙ ap (put_in_order compare x) rest
            ∙ sym (ap (in_order compare) (kept x xs is))
        by false is rest =
            filter-put-other x (in_order compare xs) is
            ∙ rest
            ∙ sym (ap (in_order compare) (dropped x xs is))

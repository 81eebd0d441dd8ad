-- What is true of a list in an order.
use Rattle.std.specs.Prelude.{◌≡◌, ◌≢◌, List, [], ◌∷◌, ◌++◌, Bool, true, false, All}
use mathlib.Core.Path.{refl, sym, ◌∙◌, ap}
use mathlib.Core.Bool.{true≢false}
use Rattle.std.specs.declared.cmp.Ordering.{Ordering}
use Rattle.std.specs.declared.cmp.Ordering.TheVariants.{Less, Equal, Greater}
use Rattle.std.specs.Ordering.{ordering_reverse, is_lt}
use Rattle.std.specs.Cmp.{IsTotalOrder}
use Rattle.std.proofs.lemmas.List.Elements.{All-head, All-tail}
use Rattle.std.proofs.lemmas.Bool.{cond-true, cond-false}
use Rattle.file_model.specs.Sorting.{put_in_order, in_order}

less-of : (o : Ordering) → is_lt o ≡ true → o ≡ Less
less-of Less h = refl
less-of Equal h = absurd (true≢false (sym h))
less-of Greater h = absurd (true≢false (sym h))

module _ {A : Type 0} (compare : A → A → Ordering) where
  pub put-before : (x z : A) (l : List A) → is_lt (compare x z) ≡ true → put_in_order compare x (z ∷ l) ≡ x ∷ z ∷ l
  put-before x z l h = cond-true (is_lt (compare x z)) (x ∷ z ∷ l) (z ∷ put_in_order compare x l) h

  pub put-behind : (x z : A) (l : List A) → is_lt (compare x z) ≡ false → put_in_order compare x (z ∷ l) ≡ z ∷ put_in_order compare x l
  put-behind x z l h = cond-false (is_lt (compare x z)) (x ∷ z ∷ l) (z ∷ put_in_order compare x l) h

  -- which of two items is put first makes no difference
  put-swap : IsTotalOrder compare → (x y : A) → compare x y ≡ Less → (l : List A) → put_in_order compare x (put_in_order compare y l) ≡ put_in_order compare y (put_in_order compare x l)
  put-swap o x y less [] = put-before x y [] (ap is_lt less) ∙ sym (put-behind y x [] (ap is_lt (o.antisymm y x ∙ ap ordering_reverse less)))
  put-swap o x y less (z ∷ l) = by (is_lt (compare x z)) refl (is_lt (compare y z)) refl (put-swap o x y less l)
    where
      behind : is_lt (compare y x) ≡ false
      behind = ap is_lt (o.antisymm y x ∙ ap ordering_reverse less)

      by : (b : Bool) → is_lt (compare x z) ≡ b → (c : Bool) → is_lt (compare y z) ≡ c
          → put_in_order compare x (put_in_order compare y l) ≡ put_in_order compare y (put_in_order compare x l)
          → put_in_order compare x (put_in_order compare y (z ∷ l)) ≡ put_in_order compare y (put_in_order compare x (z ∷ l))
      by true xz true yz rest =
          ap (put_in_order compare x) (put-before y z l yz) ∙ put-before x y (z ∷ l) (ap is_lt less)
          ∙ sym (ap (put_in_order compare y) (put-before x z l xz) ∙ put-behind y x (z ∷ l) behind ∙ ap (λ t. x ∷ t) (put-before y z l yz))
      by true xz false yz rest =
          ap (put_in_order compare x) (put-behind y z l yz) ∙ put-before x z (put_in_order compare y l) xz
          ∙ sym (ap (put_in_order compare y) (put-before x z l xz) ∙ put-behind y x (z ∷ l) behind ∙ ap (λ t. x ∷ t) (put-behind y z l yz))
      by false xz true yz rest =
          absurd (true≢false (sym (ap is_lt (o.trans x y z less (less-of (compare y z) yz))) ∙ xz))
      by false xz false yz rest =
          ap (put_in_order compare x) (put-behind y z l yz) ∙ put-behind x z (put_in_order compare y l) xz ∙ ap (λ t. z ∷ t) rest
          ∙ sym (ap (put_in_order compare y) (put-behind x z l xz) ∙ put-behind y z (put_in_order compare x l) yz)

  put-commutes : IsTotalOrder compare → (x y : A) → compare x y ≢ Equal → (l : List A) → put_in_order compare x (put_in_order compare y l) ≡ put_in_order compare y (put_in_order compare x l)
  put-commutes o x y differ l = by (compare x y) refl
    where
      by : (order : Ordering) → compare x y ≡ order → put_in_order compare x (put_in_order compare y l) ≡ put_in_order compare y (put_in_order compare x l)
      by Less h = put-swap o x y h l
      by Equal h = absurd (differ h)
      by Greater h = sym (put-swap o y x (o.antisymm y x ∙ ap ordering_reverse h) l)

  -- an item that differs from those before it may as well come last
  pub in_order-middle : IsTotalOrder compare → (front : List A) (item : A) (back : List A) → All (λ x. compare x item ≢ Equal) front
      → in_order compare (front ++ item ∷ back) ≡ put_in_order compare item (in_order compare (front ++ back))
  in_order-middle o [] item back differ = refl
  in_order-middle o (x ∷ front) item back differ =
      ap (put_in_order compare x) (in_order-middle o front item back (All-tail (λ x. compare x item ≢ Equal) x front differ))
      ∙ put-commutes o x item (All-head (λ x. compare x item ≢ Equal) x front differ) (in_order compare (front ++ back))

-- Which entries a list has after an insert or a removal, and that lists in order with the same entries are one.
use Rattle.std.proofs.Common.{◌≡◌, ◌≢◌, ◌⊎◌, ◌↔◌, suc, Bool, true, false, cond, List, [], ◌∷◌, ◌++◌, filter, Contains, refl, ap, sym, ◌∙◌, subst, arith, inl, inr}
use Rattle.std.specs.declared.cmp.Ordering.{Ordering}
use Rattle.std.specs.declared.cmp.Ordering.TheVariants.{Less, Equal, Greater}
use Rattle.std.specs.Cmp.{IsTotalOrder}
use Rattle.std.specs.Ordering.{is_lt, is_gt, is_ne}
use Rattle.std.specs.List.Sorted.{IsStrictlySortedBy}
use Rattle.std.proofs.lemmas.Cmp.{tied_itself}
use Rattle.std.proofs.lemmas.Map.Lookups.{CmpEqualImpliesEq}
use Rattle.std.proofs.lemmas.Map.Keys.{sorted_head, sorted_tail}
use Rattle.std.proofs.lemmas.List.Elements.{All-from_recursion, All-contains, All-contains_itself, All-filter, filter_passes, Contains-append_cases, Contains-append_left, Contains-append_right, Contains-push_cases}
use Rattle.key_pages.proofs.OrderLemmas.{Greater-from_Less}

module _ {X : Type 0} where
  in_none : (x : X) → Contains [] x → ⊥
  in_none x there = omega (arith, there.1)

  at_head : (x : X) (xs : List X) → Contains (x ∷ xs) x
  at_head x xs = (0, omega arith, refl)

  in_tail : (x : X) (xs : List X) (y : X) → Contains xs y → Contains (x ∷ xs) y
  in_tail x xs y there = (suc there.0, omega (arith, there.1), there.2)

  head_or_tail : (x : X) (xs : List X) (y : X) → Contains (x ∷ xs) y → (x ≡ y) ⊎ Contains xs y
  head_or_tail x xs y there =
      elim (Contains-append_cases (x ∷ []) xs y there) [
        | inl first ↦ elim (Contains-push_cases [] x y first) [ inl none ↦ absurd (in_none y none) | inr same ↦ inl same ]
        | inr later ↦ inr later
      ]

  module _ (p : X → Bool) where
    -- what a filter keeps is of the list, and passes
    from_filter : (xs : List X) (y : X) → Contains (filter p xs) y → Contains xs y
    from_filter xs y there = All-contains (Contains xs) (filter p xs) y (All-filter p (Contains xs) xs (All-contains_itself xs)) there

    filter_kept : (b : Bool) (x : X) (xs : List X) (y : X) → p x ≡ b → Contains (filter p xs) y → Contains (filter p (x ∷ xs)) y
    filter_kept true x xs y is there =
        let kept : filter p (x ∷ xs) ≡ x ∷ filter p xs = ap (λ t. cond t (x ∷ filter p xs) (filter p xs)) is in
        subst (λ l. Contains l y) (sym kept) (in_tail x (filter p xs) y there)
    filter_kept false x xs y is there =
        let kept : filter p (x ∷ xs) ≡ filter p xs = ap (λ t. cond t (x ∷ filter p xs) (filter p xs)) is in
        subst (λ l. Contains l y) (sym kept) there

    -- and it keeps each that passes
    to_filter : (xs : List X) (y : X) → p y ≡ true → Contains xs y → Contains (filter p xs) y
    to_filter [] y passes there = there
    to_filter (x ∷ xs) y passes there =
        elim (head_or_tail x xs y there) [
          | inl same ↦
              let kept : filter p (x ∷ xs) ≡ x ∷ filter p xs = ap (λ t. cond t (x ∷ filter p xs) (filter p xs)) (ap p same ∙ passes) in
              subst (λ l. Contains l y) (sym kept) (subst (λ z. Contains (x ∷ filter p xs) z) same (at_head x (filter p xs)))
          | inr later ↦ filter_kept (p x) x xs y refl (to_filter xs y passes later)
        ]

module _ {K : Type 0} (c : K → K → Ordering) (o : IsTotalOrder c) (exact : CmpEqualImpliesEq c) where
  -- an insert adds one
  pub insert_members : (e : K) (xs : List K) (y : K) → Contains (filter (λ x. is_lt (c x e)) xs ++ e ∷ filter (λ x. is_gt (c x e)) xs) y ↔ (Contains xs y ⊎ (y ≡ e))
  insert_members e xs y =
      let lesser = filter (λ x. is_lt (c x e)) xs in
      let greater = filter (λ x. is_gt (c x e)) xs in
      let itself : Contains (lesser ++ e ∷ greater) e = Contains-append_right lesser (e ∷ greater) e (at_head e greater) in (
        λ there. elim (Contains-append_cases lesser (e ∷ greater) y there) [
          | inl front ↦ inl (from_filter (λ x. is_lt (c x e)) xs y front)
          | inr back ↦ elim (head_or_tail e greater y back) [ inl same ↦ inr (sym same) | inr later ↦ inl (from_filter (λ x. is_gt (c x e)) xs y later) ]
        ],
        λ either. elim either [
          | inl there ↦ elim (c y e) as (λ r. c y e ≡ r → Contains (lesser ++ e ∷ greater) y) [
            | Less ↦ λ is. Contains-append_left lesser (e ∷ greater) y (to_filter (λ x. is_lt (c x e)) xs y (ap is_lt is) there)
            | Equal ↦ λ is. subst (λ z. Contains (lesser ++ e ∷ greater) z) (sym (exact y e is)) itself
            | Greater ↦ λ is. Contains-append_right lesser (e ∷ greater) y (in_tail e greater y (to_filter (λ x. is_gt (c x e)) xs y (ap is_gt is) there))
          ] refl
          | inr same ↦ subst (λ z. Contains (lesser ++ e ∷ greater) z) (sym same) itself
        ],
      )

  -- a removal takes one away
  pub remove_members : (e : K) (xs : List K) (y : K) → Contains (filter (λ x. is_ne (c x e)) xs) y ↔ (Contains xs y × (y ≢ e))
  remove_members e xs y = (
    λ there. (
      from_filter (λ x. is_ne (c x e)) xs y there,
      λ same.
          let passes = All-contains (λ x. is_ne (c x e) ≡ true) (filter (λ x. is_ne (c x e)) xs) y (filter_passes (λ x. is_ne (c x e)) xs) there in
          let tied : is_ne (c y e) ≡ false = ap is_ne (ap (λ z. c z e) same ∙ tied_itself o e) in
          cc,
    ),
    λ both. to_filter (λ x. is_ne (c x e)) xs y
        (elim (c y e) as (λ r. c y e ≡ r → is_ne r ≡ true) [ Less ↦ λ _. refl | Equal ↦ λ is. absurd (both.1 (exact y e is)) | Greater ↦ λ _. refl ] refl)
        both.0,
  )

  -- the head is below what the tail has
  head_below : (x : K) (xs : List K) (y : K) → IsStrictlySortedBy c (x ∷ xs) → Contains xs y → c x y ≡ Less
  head_below x xs y sorted there = All-contains (λ z. c x z ≡ Less) xs y (All-from_recursion (λ z. c x z ≡ Less) xs (sorted_head c x xs sorted)) there

  -- so its heads are one where each is in the other list
  same_head : (x : K) (xs : List K) (y : K) (ys : List K) → IsStrictlySortedBy c (x ∷ xs) → IsStrictlySortedBy c (y ∷ ys) → Contains (y ∷ ys) x → Contains (x ∷ xs) y → x ≡ y
  same_head x xs y ys sorted also there back =
      elim (head_or_tail y ys x there) [
        | inl same ↦ sym same
        | inr later ↦ elim (head_or_tail x xs y back) [
          | inl same ↦ same
          | inr later' ↦
              let above = head_below y ys x also later in
              let below = Greater-from_Less c o x y (head_below x xs y sorted later') in
              cc
        ]
      ]

  -- what one tail has the other has too
  tail_within : (x : K) (xs : List K) (y : K) (ys : List K) → x ≡ y → IsStrictlySortedBy c (x ∷ xs) → ((z : K) → Contains (x ∷ xs) z → Contains (y ∷ ys) z) → (z : K) → Contains xs z → Contains ys z
  tail_within x xs y ys same sorted into z there =
      elim (head_or_tail y ys z (into z (in_tail x xs z there))) [
        | inl first ↦
            let below = head_below x xs z sorted there in
            let tied : c x z ≡ Equal = ap (λ w. c x w) (sym (same ∙ first)) ∙ tied_itself o x in
            cc
        | inr later ↦ later
      ]

  pub one_list : (xs ys : List K) → IsStrictlySortedBy c xs → IsStrictlySortedBy c ys → ((z : K) → Contains xs z → Contains ys z) → ((z : K) → Contains ys z → Contains xs z) → xs ≡ ys
  one_list [] [] sorted also into back = refl
  one_list [] (y ∷ ys) sorted also into back = absurd (in_none y (back y (at_head y ys)))
  one_list (x ∷ xs) [] sorted also into back = absurd (in_none x (into x (at_head x xs)))
  one_list (x ∷ xs) (y ∷ ys) sorted also into back =
      let same = same_head x xs y ys sorted also (into x (at_head x xs)) (back y (at_head y ys)) in
      let rest = one_list xs ys (sorted_tail c x xs sorted) (sorted_tail c y ys also) (tail_within x xs y ys same sorted into) (tail_within y ys x xs (sym same) also back) in
      ap (λ h. h ∷ xs) same ∙ ap (λ t. y ∷ t) rest

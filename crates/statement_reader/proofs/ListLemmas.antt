-- What each of a list gives, one after another.
use Rattle.std.proofs.Common.{◌≡◌, List, [], ◌∷◌, ◌++◌, length, Option, Some, None, refl, sym, ap, ◌∙◌, append_assoc, append-nil, arith}
use Rattle.statement_reader.specs.Lists.{onto_others, each, not_empty, with_front}

module _ {A : Type 0} where
  pub with_front_onto : (front : List A) (next : A) (others : Option (List A)) → with_front front (onto_others (Some next) others) ≡ with_front (front ++ next ∷ []) others
  with_front_onto front next None = refl
  with_front_onto front next (Some others) = ap (λ list. Some list) (sym (append_assoc front (next ∷ []) others))

  pub with_front_end : (front : List A) → with_front front (Some []) ≡ Some front
  with_front_end front = ap (λ list. Some list) (append-nil front)

  pub with_front_nil : (others : Option (List A)) → with_front [] others ≡ others
  with_front_nil None = refl
  with_front_nil (Some others) = refl

  -- one more thing in front
  pub taken : (front longer : List A) (next : A) (here there all : Option (List A)) → longer ≡ front ++ next ∷ [] → here ≡ onto_others (Some next) there → with_front front here ≡ all → with_front longer there ≡ all
  taken front longer next here there all pushed first so_far =
      ap (λ list. with_front list there) pushed ∙ sym (with_front_onto front next there) ∙ ap (with_front front) (sym first) ∙ so_far

  pub not_empty_some : (list : List A) → (length list ≡ 0 → ⊥) → not_empty (Some list) ≡ Some list
  not_empty_some [] some = absurd (some refl)
  not_empty_some (x ∷ xs) some = refl

  pub not_empty_none : (list : List A) → length list ≡ 0 → not_empty (Some list) ≡ None
  not_empty_none [] none = refl
  not_empty_none (x ∷ xs) none = absurd (omega arith)

module _ {A B : Type 0} (f : A → Option B) where
  -- one that gives nothing
  pub each_stop : (front : List B) (left : List A) (x : A) (xs all : List A) → left ≡ x ∷ xs → None ≡ f x → with_front front (each f left) ≡ each f all → None ≡ not_empty (each f all)
  each_stop front left x xs all first none here =
      ap not_empty (sym (ap (λ y. with_front front (onto_others y (each f xs))) (sym none)) ∙ ap (λ list. with_front front (each f list)) (sym first) ∙ here)

  -- nothing left
  each_end : (front : List B) (left all : List A) → left ≡ [] → with_front front (each f left) ≡ each f all → each f all ≡ Some front
  each_end front left all nothing here = sym here ∙ ap (λ list. with_front front (each f list)) nothing ∙ with_front_end front

  pub each_empty : (front list : List B) (left all : List A) → left ≡ [] → list ≡ front → length list ≡ 0 → with_front front (each f left) ≡ each f all → None ≡ not_empty (each f all)
  each_empty front list left all nothing made empty here =
      sym (ap not_empty (each_end front left all nothing here ∙ ap (λ l. Some l) (sym made)) ∙ not_empty_none list empty)

  pub each_some : (front list : List B) (left all : List A) → left ≡ [] → list ≡ front → (length list ≡ 0 → ⊥) → with_front front (each f left) ≡ each f all → Some list ≡ not_empty (each f all)
  each_some front list left all nothing made some here =
      sym (ap not_empty (each_end front left all nothing here ∙ ap (λ l. Some l) (sym made)) ∙ not_empty_some list some)

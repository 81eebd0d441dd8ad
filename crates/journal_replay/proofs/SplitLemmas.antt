-- How a list with one element more at its end is split, and what holds at each of its splits.
use Rattle.std.proofs.Common.{◌≡◌, List, [], ◌∷◌, ◌++◌, refl, sym, ap, ◌∙◌, subst, ◌⊎◌, inl, inr}
use Rattle.std.proofs.lemmas.List.{append_assoc}

module _ {A : Type 0} where
  first_of : A → List A → A
  first_of other [] = other
  first_of other (x ∷ xs) = x

  rest_of : List A → List A
  rest_of [] = []
  rest_of (x ∷ xs) = xs

  heads : (x y : A) (xs ys : List A) → x ∷ xs ≡ y ∷ ys → x ≡ y
  unfolding first_of
  heads x y xs ys h = ap (first_of x) h

  tails : (x y : A) (xs ys : List A) → x ∷ xs ≡ y ∷ ys → xs ≡ ys
  unfolding rest_of
  tails x y xs ys h = ap rest_of h

  cons_same : (x y : A) (xs ys : List A) → x ≡ y → xs ≡ ys → x ∷ xs ≡ y ∷ ys
  cons_same x y xs ys h t = ap (λ z. z ∷ xs) h ∙ ap (λ zs. y ∷ zs) t

  not_empty : (front rest : List A) (x : A) → [] ≡ front ++ x ∷ rest → ⊥
  not_empty [] rest x h = absurd cc
  not_empty (f ∷ front) rest x h = absurd cc

  empty_front : (front rest : List A) → [] ≡ front ++ rest → front ≡ []
  empty_front [] rest h = refl
  empty_front (f ∷ front) rest h = absurd cc

  pub last_split : (xs front rest : List A) (e x : A) → xs ++ e ∷ [] ≡ front ++ x ∷ rest → ((front ≡ xs) × (x ≡ e)) ⊎ ((more : List A) × (xs ≡ front ++ x ∷ more))
  last_split [] [] rest e x h = inl (refl, sym (heads e x [] rest h))
  last_split [] (f ∷ front) rest e x h = absurd (not_empty front rest x (tails e f [] (front ++ x ∷ rest) h))
  last_split (y ∷ xs) [] rest e x h = inr (xs, ap (λ z. z ∷ xs) (heads y x (xs ++ e ∷ []) rest h))
  last_split (y ∷ xs) (f ∷ front) rest e x h =
      let same = heads y f (xs ++ e ∷ []) (front ++ x ∷ rest) h in
      elim (last_split xs front rest e x (tails y f (xs ++ e ∷ []) (front ++ x ∷ rest) h)) [
        | inl s ↦ inl (cons_same f y front xs (sym same) s.0, s.1)
        | inr s ↦ inr (s.0, cons_same y f xs (front ++ x ∷ s.0) same s.1)
      ]

  pub front_split : (xs front rest : List A) (e : A) → xs ++ e ∷ [] ≡ front ++ rest → ((more : List A) × (xs ≡ front ++ more)) ⊎ (front ≡ xs ++ e ∷ [])
  front_split [] [] rest e h = inl ([], refl)
  front_split [] (f ∷ front) rest e h = inr (cons_same f e front [] (sym (heads e f [] (front ++ rest) h)) (empty_front front rest (tails e f [] (front ++ rest) h)))
  front_split (y ∷ xs) [] rest e h = inl (y ∷ xs, refl)
  front_split (y ∷ xs) (f ∷ front) rest e h =
      let same = heads y f (xs ++ e ∷ []) (front ++ rest) h in
      elim (front_split xs front rest e (tails y f (xs ++ e ∷ []) (front ++ rest) h)) [
        | inl s ↦ inl (s.0, cons_same y f xs (front ++ s.0) same s.1)
        | inr s ↦ inr (cons_same f y front (xs ++ e ∷ []) (sym same) s)
      ]

  -- at each element, of what stands before it and of it
  abbrev pub AtEach : (List A → A → Type 0) → List A → Type 0
  AtEach Q xs = (front rest : List A) (x : A) → xs ≡ front ++ x ∷ rest → Q front x

  pub at_each-push : (Q : List A → A → Type 0) (xs : List A) (e : A) → AtEach Q xs → Q xs e → AtEach Q (xs ++ e ∷ [])
  at_each-push Q xs e each here front rest x h = elim (last_split xs front rest e x h) [
    | inl s ↦ subst (λ (f : List A). Q f x) (sym s.0) (subst (λ (y : A). Q xs y) (sym s.1) here)
    | inr s ↦ each front s.0 x s.1
  ]

  pub at_each-front : (Q : List A → A → Type 0) (xs : List A) (e : A) → AtEach Q (xs ++ e ∷ []) → AtEach Q xs
  at_each-front Q xs e each front rest x h = each front (rest ++ e ∷ []) x (ap (λ (l : List A). l ++ e ∷ []) h ∙ append_assoc front (x ∷ rest) (e ∷ []))

  pub at_each-last : (Q : List A → A → Type 0) (xs : List A) (e : A) → AtEach Q (xs ++ e ∷ []) → Q xs e
  at_each-last Q xs e each = each xs [] e refl

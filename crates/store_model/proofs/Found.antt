-- Lists in which some element is wanted, with one element more.
use Rattle.std.proofs.Common.{◌≡◌, ◌⊎◌, inl, inr, ℕ, ◌+◌, ◌<◌, List, [], ◌∷◌, ◌++◌, length, get_or, take, sym, ◌∙◌, ap, subst, arith, length-append}
use Rattle.std.proofs.lemmas.Bool.{cases_lt}
use Rattle.std.proofs.lemmas.List.{get_or_append_left, get_or_at, take_more}
use Rattle.std.proofs.lemmas.List.Quantifiers.{Any-push}
use Rattle.std.specs.List.{Any}

module _ {X : Type 0} (P : X → Type 0) (xs pushed : List X) (x : X) (push : pushed ≡ xs ++ x ∷ []) where
  -- it was there
  pub any_still : Any P xs → Any P pushed
  any_still any =
      let k = any.0 in
      let y = any.1 in
      subst (λ (l : List X). Any P l) (sym push) (k, y, omega (arith, any.2, length-append xs (x ∷ [])), get_or_append_left xs (x ∷ []) y k any.2 ∙ any.3, any.4)

  -- it is the new one
  pub any_new : P x → Any P pushed
  any_new here = subst (λ (l : List X). Any P l) (sym push) (Any-push P xs x here)

any_cases : {X : Type 0} (P : X → Type 0) (xs : List X) (x : X) → Any P (xs ++ x ∷ []) → Any P xs ⊎ P x
any_cases {X} P xs x any =
    let k = any.0 in
    let y = any.1 in
    elim (cases_lt k (length xs)) [
      | inl below ↦ inl (k, y, below, sym (get_or_append_left xs (x ∷ []) y k below) ∙ any.3, any.4)
      | inr above ↦
          let last : length xs ≡ k = omega (arith, any.2, above, length-append xs (x ∷ [])) in
          let same : y ≡ x = sym any.3 ∙ get_or_at xs x [] y k last in
          inr (subst P same any.4)
    ]

-- one element further in a list that is walked
pub any_further : {X : Type 0} (P : X → Type 0) (xs : List X) (i : ℕ) (x : X) → i < length xs → x ≡ get_or xs i x → Any P (take (i + 1) xs) → Any P (take i xs) ⊎ P x
any_further {X} P xs i x below is any = any_cases P (take i xs) x (subst (λ (l : List X). Any P l) (take_more xs i x below ∙ ap (λ (y : X). take i xs ++ y ∷ []) (sym is)) any)

-- A list in two parts: what an entry between them is in the whole.
use Rattle.std.proofs.Common.{◌≡◌, ℕ, List, [], ◌∷◌, ◌++◌, length, ap, sym, ◌∙◌, refl}
use Rattle.std.specs.Prelude.{insert}

module _ {X : Type 0} where
  cut_at : (front back : List X) (e : X) → insert (front ++ back) (length front) e ≡ front ++ e ∷ back
  cut_at [] back e = refl
  cut_at (x ∷ front) back e = ap (λ xs. x ∷ xs) (cut_at front back e)

  pub insert-cut : (all front back : List X) (i : ℕ) (e : X) → front ++ back ≡ all → length front ≡ i → front ++ e ∷ back ≡ insert all i e
  insert-cut all front back i e whole long = sym (cut_at front back e) ∙ ap (λ n. insert (front ++ back) n e) long ∙ ap (λ xs. insert xs i e) whole

-- A name that has no place in a list stands nowhere in it.
use Rattle.std.proofs.Common.{◌≡◌, ◌+◌, ◌<◌, Bool, true, false, cond, not, ◌||◌, ltb, List, [], ◌∷◌, length, Some, None, ap, arith, ⊎_elim}
use Rattle.std.specs.List.{list_any, position, position_or_len}
use Rattle.std.proofs.lemmas.Bool.{cases_Bool}
use Rattle.std.proofs.lemmas.Bool.Decides.{nat_tests}

module _ {A : Type 0} (p : A → Bool) where
  within : (xs : List A) → list_any p xs ≡ true → position_or_len p xs < length xs
  within [] some = absurd cc
  within (x ∷ xs) some =
      let others = within xs in
      let decided : (v : Bool) → (v || list_any p xs) ≡ true → cond (not v) (1 + position_or_len p xs) 0 < length (x ∷ xs) =
      λ v. elim v as (λ w. (w || list_any p xs) ≡ true → cond (not w) (1 + position_or_len p xs) 0 < length (x ∷ xs)) [ true ↦ λ _. omega arith | false ↦ λ here. omega (arith, others here) ] in
      decided (p x) some

  pub absent_nowhere : (xs : List A) → position p xs ≡ None → list_any p xs ≡ false
  absent_nowhere xs absent = ⊎_elim
      (λ some. absurd (let found = within xs some in let here : ltb (position_or_len p xs) (length xs) ≡ true = grind (arith, nat_tests) in let place = ap (λ v. cond v (Some (position_or_len p xs)) None) here in cc))
      (λ none. none)
      (cases_Bool (list_any p xs))

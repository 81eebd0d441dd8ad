-- The last element that passes a test, and the elements of a mapped list.
use Rattle.std.proofs.Common.{◌≡◌, Bool, true, false, Option, Some, None, List, [], ◌∷◌, ◌++◌, map, refl, ap, sym, ◌∙◌}
use Rattle.std.specs.Prelude.{filter, find, reverse}
use Rattle.std.specs.List.{last_or}
use Rattle.std.specs.Option.{option_or, option_map}
use Rattle.std.proofs.lemmas.List.Folds.{find-append}
use Rattle.std.proofs.lemmas.Grind.{reverse_onto}
use Rattle.std.proofs.lemmas.List.{map-append}
use Rattle.std.proofs.lemmas.Bool.{cond-true, cond-false}

module _ {X : Type 0} where
  or-none : (o : Option X) → option_or o None ≡ o
  or-none None = refl
  or-none (Some x) = refl

  or-then : (o p q : Option X) → option_or (option_or o p) q ≡ option_or o (option_or p q)
  or-then None p q = refl
  or-then (Some x) p q = refl

  pub reverse-cons : (x : X) (xs : List X) → reverse (x ∷ xs) ≡ reverse xs ++ x ∷ []
  reverse-cons x xs = reverse_onto xs x []

  last-find : (p : X → Bool) (o : Option X) (xs : List X) → last_or o (filter p xs) ≡ option_or (find p (reverse xs)) o
  last-find p o [] = refl
  last-find p o (x ∷ xs) = by (p x) refl (λ w. last-find p w xs)
    where
      behind : (first : Option X) → find p (x ∷ []) ≡ first → option_or (find p (reverse (x ∷ xs))) o ≡ option_or (find p (reverse xs)) (option_or first o)
      behind first is =
          ap (λ w. option_or (find p w) o) (reverse-cons x xs)
          ∙ ap (λ w. option_or w o) (find-append p (reverse xs) (x ∷ []) ∙ ap (option_or (find p (reverse xs))) is)
          ∙ or-then (find p (reverse xs)) first o

      by : (b : Bool) → p x ≡ b → ((w : Option X) → last_or w (filter p xs) ≡ option_or (find p (reverse xs)) w) → last_or o (filter p (x ∷ xs)) ≡ option_or (find p (reverse (x ∷ xs))) o
      by true is rest =
          ap (last_or o) (cond-true (p x) (x ∷ filter p xs) (filter p xs) is)
          ∙ rest (Some x)
          ∙ sym (behind (Some x) (cond-true (p x) (Some x) None is))
      by false is rest =
          ap (last_or o) (cond-false (p x) (x ∷ filter p xs) (filter p xs) is)
          ∙ rest o
          ∙ sym (behind None (cond-false (p x) (Some x) None is))

  pub last-reversed : (p : X → Bool) (xs : List X) → last_or None (filter p xs) ≡ find p (reverse xs)
  last-reversed p xs = last-find p None xs ∙ or-none (find p (reverse xs))

  pub find-same : (p q : X → Bool) → ((x : X) → p x ≡ q x) → (xs : List X) → find p xs ≡ find q xs
  find-same p q same xs = ap (λ (test : X → Bool). find test xs) (λ i x. same x i)

module _ {X Y : Type 0} (f : X → Y) where
  pub map-reverse : (xs : List X) → reverse (map f xs) ≡ map f (reverse xs)
  map-reverse [] = refl
  map-reverse (x ∷ xs) =
      reverse-cons (f x) (map f xs)
      ∙ ap (λ w. w ++ f x ∷ []) (map-reverse xs)
      ∙ sym (ap (map f) (reverse-cons x xs) ∙ map-append f (reverse xs) (x ∷ []))

  pub find-map : (p : Y → Bool) (xs : List X) → find p (map f xs) ≡ option_map f (find (λ x. p (f x)) xs)
  find-map p [] = refl
  find-map p (x ∷ xs) = by (p (f x)) refl (find-map p xs)
    where
      by : (b : Bool) → p (f x) ≡ b → find p (map f xs) ≡ option_map f (find (λ x. p (f x)) xs) → find p (f x ∷ map f xs) ≡ option_map f (find (λ x. p (f x)) (x ∷ xs))
      by true is rest =
          cond-true (p (f x)) (Some (f x)) (find p (map f xs)) is
          ∙ sym (ap (option_map f) (cond-true (p (f x)) (Some x) (find (λ x. p (f x)) xs) is))
      by false is rest =
          cond-false (p (f x)) (Some (f x)) (find p (map f xs)) is
          ∙ rest
          ∙ sym (ap (option_map f) (cond-false (p (f x)) (Some x) (find (λ x. p (f x)) xs) is))

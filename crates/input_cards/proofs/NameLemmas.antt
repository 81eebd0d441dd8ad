-- The first places of names.
use Rattle.std.proofs.Common.{◌≡◌, ℕ, suc, ◌+◌, ◌<◌, ◌||◌, Bool, true, false, cond, List, [], ◌∷◌, ◌++◌, Option, Some, None, length, refl, sym, ap, ◌∙◌, arith, ⊎_elim, add-zero}
use Rattle.std.specs.List.{list_any, position, position_from}
use Rattle.std.specs.Map.{lookup}
use Rattle.std.specs.Option.{is_some}
use Rattle.std.proofs.lemmas.Bool.{cases_Bool}
use Rattle.std.proofs.lemmas.Iterator.Adapters.{position_from-zero}
use Rattle.std.proofs.lemmas.Slice.Eq.{bytes_eq-Decides}
use Rattle.std.specs.Prelude.{IfSome}
use Rattle.std.proofs.lemmas.List.Quantifiers.{position-Some}
use Rattle.library_model.specs.Named.{Named, named, same_name}
use Rattle.input_cards.specs.Names.{with_first, AreFirstPlaces}

-- a place, or another where there is none
abbrev or_else : Option ℕ → Option ℕ → Option ℕ
or_else None other = other
or_else (Some place) other = Some place

module _ {A : Type 0} (p : A → Bool) where
  position_from-push : (i : ℕ) (xs : List A) (x : A) → position_from p i (xs ++ x ∷ []) ≡ or_else (position_from p i xs) (cond (p x) (Some (i + length xs)) None)
  position_from-push i [] x = ap (λ n. cond (p x) (Some n) None) (sym (add-zero i))
  position_from-push i (y ∷ ys) x =
      let place : (i + 1) + length ys ≡ i + suc (length ys) = omega arith in
      let others = position_from-push (i + 1) ys x ∙ ap (λ n. or_else (position_from p (i + 1) ys) (cond (p x) (Some n) None)) place in
      elim (p y) as (λ v. cond v (Some i) (position_from p (i + 1) (ys ++ x ∷ [])) ≡ or_else (cond v (Some i) (position_from p (i + 1) ys)) (cond (p x) (Some (i + suc (length ys))) None))
      [ true ↦ refl | false ↦ others ]

  position-push : (xs : List A) (x : A) → position p (xs ++ x ∷ []) ≡ or_else (position p xs) (cond (p x) (Some (length xs)) None)
  position-push xs x =
      let start : 0 + length xs ≡ length xs = omega arith in
      position_from-zero p (xs ++ x ∷ []) ∙ position_from-push 0 xs x ∙ ap (λ n. or_else (position_from p 0 xs) (cond (p x) (Some n) None)) start
      ∙ ap (λ o. or_else o (cond (p x) (Some (length xs)) None)) (sym (position_from-zero p xs))

  position_from-some : (i : ℕ) (xs : List A) → is_some (position_from p i xs) ≡ list_any p xs
  position_from-some i [] = refl
  position_from-some i (x ∷ xs) =
      let others = position_from-some (i + 1) xs in
      elim (p x) as (λ v. is_some (cond v (Some i) (position_from p (i + 1) xs)) ≡ (v || list_any p xs)) [ true ↦ refl | false ↦ others ]

  -- what has a place is there
  pub position-some : (xs : List A) → is_some (position p xs) ≡ list_any p xs
  position-some xs = ap (λ o. is_some o) (position_from-zero p xs) ∙ position_from-some 0 xs

  lookup-push : (things : List (A × ℕ)) (key : A) (n : ℕ) → lookup p (things ++ (key, n) ∷ []) ≡ or_else (lookup p things) (cond (p key) (Some n) None)
  lookup-push [] key n = refl
  lookup-push (thing ∷ things) key n =
      let others = lookup-push things key n in
      elim (p thing.0) as (λ v. cond v (Some thing.1) (lookup p (things ++ (key, n) ∷ [])) ≡ or_else (cond v (Some thing.1) (lookup p things)) (cond (p key) (Some n) None))
      [ true ↦ refl | false ↦ others ]

same_is : (q name : List ℕ) → same_name q name ≡ true → q ≡ name
same_is q name same = (bytes_eq-Decides q name).0 same

-- a name that has a place already
again : (names : List (List ℕ)) (places : Named ℕ) (name q : List ℕ) (i n : ℕ) → AreFirstPlaces names places → named name places ≡ Some i → (found : Option ℕ) → position (same_name q) names ≡ found
    → found ≡ or_else found (cond (same_name q name) (Some n) None)
again names places name q i n first some (Some place) here = refl
again names places name q i n first some None here = ⊎_elim
    (λ same.
    let there : position (same_name name) names ≡ Some i = sym (first name) ∙ some in
    let none : position (same_name name) names ≡ None = ap (λ k. position (same_name k) names) (sym (same_is q name same)) ∙ here in
    absurd (let both : None ≡ Some i = sym none ∙ there in cc))
    (λ other. ap (λ v. cond v (Some n) None) (sym other))
    (cases_Bool (same_name q name))

-- one name more
pub first_places-more : (names : List (List ℕ)) (places : Named ℕ) (name : List ℕ) → AreFirstPlaces names places → AreFirstPlaces (names ++ name ∷ []) (with_first name (length names) places)
first_places-more names places name first = λ q. decided q (named name places) refl
  where
    decided : (q : List ℕ) (found : Option ℕ) → named name places ≡ found
        → named q (cond (is_some (named name places)) places (places ++ (name, length names) ∷ [])) ≡ position (same_name q) (names ++ name ∷ [])
    decided q (Some i) some =
        ap (λ o. named q (cond (is_some o) places (places ++ (name, length names) ∷ []))) some
        ∙ first q ∙ again names places name q i (length names) first some (position (same_name q) names) refl ∙ sym (position-push (same_name q) names name)
    decided q None none =
        ap (λ o. named q (cond (is_some o) places (places ++ (name, length names) ∷ []))) none
        ∙ lookup-push (same_name q) places name (length names)
        ∙ ap (λ o. or_else o (cond (same_name q name) (Some (length names)) None)) (first q) ∙ sym (position-push (same_name q) names name)

-- where a name stands
pub position-within : (names : List (List ℕ)) (name : List ℕ) (found : Option ℕ) → found ≡ position (same_name name) names → IfSome found (λ place. place < length names)
position-within names name None is = tt
position-within names name (Some place) is = (position-Some (same_name name) names place [] (sym is)).0

-- Closed ranges one behind the other.
use Rattle.std.proofs.Common.{◌≡◌, ℕ, Bool, true, ◌&&◌, ◌||◌, List, [], ◌∷◌, ◌++◌, Option, Some, None, IsTrue, refl, ap, ◌∙◌, arith}
use Rattle.std.specs.List.{list_any, list_all, filter_map, cons_option}
use Rattle.std.proofs.lemmas.Bool.Decides.{nat_tests}
use Rattle.journal_model.specs.Acts.{Act, Change, change_of, changes}
use Rattle.journal_model.specs.Closed.{begins, ends, is_whole, is_closed}

module _ {X Y : Type 0} where
  pub filter_map-append : (h : X → Option Y) (xs ys : List X) → filter_map h (xs ++ ys) ≡ filter_map h xs ++ filter_map h ys
  filter_map-append h [] ys = refl
  filter_map-append h (x ∷ xs) ys = joined (h x) (filter_map-append h xs ys) where
    joined : (o : Option Y) → filter_map h (xs ++ ys) ≡ filter_map h xs ++ filter_map h ys → cons_option o (filter_map h (xs ++ ys)) ≡ cons_option o (filter_map h xs) ++ filter_map h ys
    joined None e = e
    joined (Some y) e = ap (λ zs. y ∷ zs) e

module _ {X : Type 0} (p : X → Bool) where
  pub list_any-append : (xs ys : List X) → list_any p (xs ++ ys) ≡ list_any p xs || list_any p ys
  list_any-append [] ys = refl
  list_any-append (x ∷ xs) ys = grind (arith, nat_tests, list_any-append xs ys)

  pub list_all-append : (xs ys : List X) → list_all p (xs ++ ys) ≡ list_all p xs && list_all p ys
  list_all-append [] ys = refl
  list_all-append (x ∷ xs) ys = grind (arith, nat_tests, list_all-append xs ys)

pub list_all-weaker : {X : Type 0} (p q : X → Bool) (xs : List X) → ((x : X) → p x ≡ true → q x ≡ true) → list_all p xs ≡ true → list_all q xs ≡ true
list_all-weaker p q [] w h = refl
list_all-weaker p q (x ∷ xs) w h = grind (arith, nat_tests, w x, list_all-weaker p q xs w)

-- two tests that hold of either part of a list
in_front : (p q : Act → Bool) (xs ys : List Act) → list_any p xs && list_any q xs ≡ true → list_any p (xs ++ ys) && list_any q (xs ++ ys) ≡ true
in_front p q xs ys h = rw (list_any-append p xs ys, list_any-append q xs ys) (grind (arith, nat_tests))

behind : (p q : Act → Bool) (xs ys : List Act) → list_any p ys && list_any q ys ≡ true → list_any p (xs ++ ys) && list_any q (xs ++ ys) ≡ true
behind p q xs ys h = rw (list_any-append p xs ys, list_any-append q xs ys) (grind (arith, nat_tests))

is_whole-front : (range rest : List Act) (cycle : Option ℕ) → is_whole range cycle ≡ true → is_whole (range ++ rest) cycle ≡ true
is_whole-front range rest None h = refl
is_whole-front range rest (Some n) h = in_front (begins n) (ends n) range rest h

is_whole-back : (range rest : List Act) (cycle : Option ℕ) → is_whole rest cycle ≡ true → is_whole (range ++ rest) cycle ≡ true
is_whole-back range rest None h = refl
is_whole-back range rest (Some n) h = behind (begins n) (ends n) range rest h

pub changes-append : (xs ys : List Act) → changes (xs ++ ys) ≡ changes xs ++ changes ys
changes-append xs ys = filter_map-append change_of xs ys

pub is_closed-append : (range rest : List Act) → IsTrue (is_closed range) → IsTrue (is_closed rest) → IsTrue (is_closed (range ++ rest))
is_closed-append range rest p q =
    let whole = λ (c : Change). is_whole (range ++ rest) c.cycle in
    let front : list_all whole (changes range) ≡ true = list_all-weaker (λ (c : Change). is_whole range c.cycle) whole (changes range) (λ c. is_whole-front range rest c.cycle) p in
    let back : list_all whole (changes rest) ≡ true = list_all-weaker (λ (c : Change). is_whole rest c.cycle) whole (changes rest) (λ c. is_whole-back range rest c.cycle) q in
    ap (list_all whole) (changes-append range rest) ∙ list_all-append whole (changes range) (changes rest) ∙ ap (λ b. b && list_all whole (changes rest)) front ∙ back

-- What a number finds among numbered items, one of which changes, comes or goes.
use Rattle.std.proofs.Common.{ℕ, ◌≡◌, ◌≢◌, ◌==◌, Bool, true, false, cond, List, [], ◌∷◌, Some, None, IsSome, refl, arith, ◌∙◌}
use Rattle.std.proofs.lemmas.Bool.{cond-true, cond-false}
use Rattle.std.proofs.lemmas.Bool.Decides.{nat_tests}
use Rattle.member_slots.specs.Members.{Numbered, item_at, with_item, put_item, without_item}

pub at-with_same : {A : Type 0} (number : ℕ) (item : A) (entries : List (Numbered A)) → IsSome (item_at number entries) → item_at number (with_item number item entries) ≡ Some item
at-with_same number item [] there = absurd cc
at-with_same number item (entry ∷ entries) there = by (entry.number == number) refl there (at-with_same number item entries)
  where
    itself : (number == number) ≡ true
    itself = grind (arith, nat_tests)

    by : (b : Bool) → (entry.number == number) ≡ b → IsSome (cond b (Some entry.item) (item_at number entries))
        → (IsSome (item_at number entries) → item_at number (with_item number item entries) ≡ Some item)
        → item_at number (cond b (record { number = number; item = item } ∷ entries) (entry ∷ with_item number item entries)) ≡ Some item
    by true is found rest = cond-true (number == number) (Some item) (item_at number entries) itself
    by false is found rest = cond-false (entry.number == number) (Some entry.item) (item_at number (with_item number item entries)) is ∙ rest found

pub at-with_other : {A : Type 0} (number other : ℕ) (item : A) (entries : List (Numbered A)) → other ≢ number → item_at other (with_item number item entries) ≡ item_at other entries
at-with_other number other item [] differs = refl
at-with_other number other item (entry ∷ entries) differs = grind (arith, nat_tests, at-with_other number other item entries differs)

pub at-put_same : {A : Type 0} (number : ℕ) (item : A) (entries : List (Numbered A)) → item_at number (put_item number item entries) ≡ Some item
at-put_same number item [] = grind (arith, nat_tests)
at-put_same number item (entry ∷ entries) = grind (arith, nat_tests, at-put_same number item entries)

pub at-put_other : {A : Type 0} (number : ℕ) (item : A) (entries : List (Numbered A)) (other : ℕ) → other ≢ number → item_at other (put_item number item entries) ≡ item_at other entries
at-put_other number item [] other differs = grind (arith, nat_tests)
at-put_other number item (entry ∷ entries) other differs = grind (arith, nat_tests, at-put_other number item entries other differs)

pub at-without_same : {A : Type 0} (number : ℕ) (entries : List (Numbered A)) → item_at number (without_item number entries) ≡ None
at-without_same number [] = refl
at-without_same number (entry ∷ entries) = grind (arith, nat_tests, at-without_same number entries)

pub at-without_other : {A : Type 0} (number : ℕ) (entries : List (Numbered A)) (other : ℕ) → other ≢ number → item_at other (without_item number entries) ≡ item_at other entries
at-without_other number [] other differs = refl
at-without_other number (entry ∷ entries) other differs = grind (arith, nat_tests, at-without_other number entries other differs)

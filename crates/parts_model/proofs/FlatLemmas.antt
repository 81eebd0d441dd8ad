-- Lists of lists: what holds of all of their items holds of those of one place.
use Rattle.std.proofs.Common.{◌≡◌, ℕ, zero, suc, ◌<◌, ◌≤◌, List, [], ◌∷◌, ◌++◌, drop, length, slice_get, Some, refl, subst, arith}
use Rattle.std.specs.Prelude.{flat_map}
use Rattle.std.specs.List.{AllByRecursion}
use Rattle.library_paths.proofs.LogicalLawsListLemmas.{each-append}
use Rattle.lawful_states.proofs.NameLemmas.{some-equal}

pub each-flat : {A B : Type 0} (Q : B → Type 0) (f : A → List B) (xs : List A) → AllByRecursion (λ (x : A). AllByRecursion Q (f x)) xs → AllByRecursion Q (flat_map f xs)
each-flat Q f [] all = tt
each-flat Q f (x ∷ xs) all = each-append Q (f x) (flat_map f xs) all.0 (each-flat Q f xs all.1)

each-front : {B : Type 0} (Q : B → Type 0) (xs ys : List B) → AllByRecursion Q (xs ++ ys) → AllByRecursion Q xs
each-front Q [] ys all = tt
each-front Q (x ∷ xs) ys all = (all.0, each-front Q xs ys all.1)

each-back : {B : Type 0} (Q : B → Type 0) (xs ys : List B) → AllByRecursion Q (xs ++ ys) → AllByRecursion Q ys
each-back Q [] ys all = all
each-back Q (x ∷ xs) ys all = each-back Q xs ys all.1

-- what holds of all of them holds of those of one place
pub flat-at : {A B : Type 0} (Q : B → Type 0) (f : A → List B) (xs : List A) (place : ℕ) (x : A) → AllByRecursion Q (flat_map f xs) → slice_get xs place ≡ Some x → AllByRecursion Q (f x)
flat-at Q f [] place x all at = absurd cc
flat-at {A = A} Q f (y ∷ xs) zero x all at = subst (λ (z : A). AllByRecursion Q (f z)) (some-equal at) (each-front Q (f y) (flat_map f xs) all)
flat-at Q f (y ∷ xs) (suc place) x all at = flat-at Q f xs place x (each-back Q (f y) (flat_map f xs) all) at

pub some-at : {A : Type 0} (xs : List A) (place : ℕ) → place < length xs → (x : A) × (slice_get xs place ≡ Some x)
some-at [] place low = absurd (omega (arith, low))
some-at (x ∷ xs) zero low = (x, refl)
some-at (x ∷ xs) (suc place) low = some-at xs place (omega (arith, low))

pub none-behind : {A : Type 0} (xs : List A) (place : ℕ) → length xs ≤ place → drop place xs ≡ []
none-behind [] zero all = refl
none-behind [] (suc place) all = refl
none-behind (x ∷ xs) zero all = absurd (omega (arith, all))
none-behind (x ∷ xs) (suc place) all = none-behind xs place (omega (arith, all))

-- What holds of each item of a list holds of each of what is made of them, and of each in an order.
use Rattle.std.proofs.Common.{Bool, List, [], ◌∷◌, ◌++◌, map, filter, Contains}
use Rattle.std.specs.List.{AllByRecursion, flat_map}
use Rattle.std.specs.declared.cmp.Ordering.{Ordering}
use Rattle.std.specs.Ordering.{is_lt}
use Rattle.std.proofs.lemmas.Bool.{cond_both}
use Rattle.std.proofs.lemmas.List.Elements.{All-from_recursion, All-contains}
use Rattle.file_model.specs.Sorting.{put_in_order, in_order}

pub each-contained : {A : Type 0} (P : A → Type 0) (xs : List A) (x : A) → AllByRecursion P xs → Contains xs x → P x
each-contained P xs x all there = All-contains P xs x (All-from_recursion P xs all) there

pub each-weaker : {A : Type 0} (P Q : A → Type 0) → ((x : A) → P x → Q x) → (xs : List A) → AllByRecursion P xs → AllByRecursion Q xs
each-weaker P Q so [] all = tt
each-weaker P Q so (x ∷ xs) all = (so x all.0, each-weaker P Q so xs all.1)

pub each-append : {A : Type 0} (P : A → Type 0) (xs ys : List A) → AllByRecursion P xs → AllByRecursion P ys → AllByRecursion P (xs ++ ys)
each-append P [] ys all more = more
each-append P (x ∷ xs) ys all more = (all.0, each-append P xs ys all.1 more)

pub each-map : {A B : Type 0} (P : B → Type 0) (f : A → B) (xs : List A) → AllByRecursion (λ x. P (f x)) xs → AllByRecursion P (map f xs)
each-map P f [] all = tt
each-map P f (x ∷ xs) all = (all.0, each-map P f xs all.1)

pub each-filter : {A : Type 0} (P : A → Type 0) (test : A → Bool) (xs : List A) → AllByRecursion P xs → AllByRecursion P (filter test xs)
each-filter P test [] all = tt
each-filter P test (x ∷ xs) all =
    let rest = each-filter P test xs all.1 in
    cond_both (test x) (x ∷ filter test xs) (filter test xs) (AllByRecursion P) (λ _. (all.0, rest)) (λ _. rest)

pub each-flat : {A B : Type 0} (P : A → Type 0) (Q : B → Type 0) (f : A → List B) → ((x : A) → P x → AllByRecursion Q (f x)) → (xs : List A) → AllByRecursion P xs → AllByRecursion Q (flat_map f xs)
each-flat P Q f so [] all = tt
each-flat P Q f so (x ∷ xs) all = each-append Q (f x) (flat_map f xs) (so x all.0) (each-flat P Q f so xs all.1)

pub always-flat : {A B : Type 0} (Q : B → Type 0) (f : A → List B) → ((x : A) → AllByRecursion Q (f x)) → (xs : List A) → AllByRecursion Q (flat_map f xs)
always-flat Q f so [] = tt
always-flat Q f so (x ∷ xs) = each-append Q (f x) (flat_map f xs) (so x) (always-flat Q f so xs)

each-put : {A : Type 0} (compare : A → A → Ordering) (P : A → Type 0) (x : A) (xs : List A) → P x → AllByRecursion P xs → AllByRecursion P (put_in_order compare x xs)
each-put compare P x [] here all = (here, tt)
each-put compare P x (z ∷ xs) here all =
    let rest = each-put compare P x xs here all.1 in
    cond_both (is_lt (compare x z)) (x ∷ z ∷ xs) (z ∷ put_in_order compare x xs) (AllByRecursion P) (λ _. (here, all)) (λ _. (all.0, rest))

pub each-in_order : {A : Type 0} (compare : A → A → Ordering) (P : A → Type 0) (xs : List A) → AllByRecursion P xs → AllByRecursion P (in_order compare xs)
each-in_order compare P [] all = tt
each-in_order compare P (x ∷ xs) all = each-put compare P x (in_order compare xs) all.0 (each-in_order compare P xs all.1)

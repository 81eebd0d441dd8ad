-- What holds of each item of a list, and what of one: after filters and maps, and of an item that is there.
use Rattle.std.proofs.Common.{◌≡◌, ℕ, zero, suc, ◌||◌, not, cond, Bool, true, false, filter, map, List, [], ◌∷◌, ◌++◌, Some, slice_get, refl, ap, subst}
use Rattle.std.specs.List.{All, AllByRecursion, list_any}
use Rattle.std.proofs.lemmas.List.Elements.{All-head, All-tail}
use Rattle.locks_kept.proofs.TestLemmas.{not_true, or_true}

pub all-weaker : {X : Type 0} (P Q : X → Type 0) (xs : List X) → ((x : X) → P x → Q x) → AllByRecursion P xs → AllByRecursion Q xs
all-weaker P Q [] widens all = tt
all-weaker P Q (x ∷ xs) widens all = (widens x all.0, all-weaker P Q xs widens all.1)

pub all-both : {X : Type 0} (P Q R : X → Type 0) (xs : List X) → ((x : X) → P x → Q x → R x) → AllByRecursion P xs → AllByRecursion Q xs → AllByRecursion R xs
all-both P Q R [] joins one other = tt
all-both P Q R (x ∷ xs) joins one other = (joins x one.0 other.0, all-both P Q R xs joins one.1 other.1)

pub all-each : {X : Type 0} (P : X → Type 0) (xs : List X) → ((x : X) → P x) → AllByRecursion P xs
all-each P [] each = tt
all-each P (x ∷ xs) each = (each x, all-each P xs each)

pub all-append : {X : Type 0} (P : X → Type 0) (xs ys : List X) → AllByRecursion P xs → AllByRecursion P ys → AllByRecursion P (xs ++ ys)
all-append P [] ys all more = more
all-append P (x ∷ xs) ys all more = (all.0, all-append P xs ys all.1 more)

pub all-filter : {X : Type 0} (P Q : X → Type 0) (test : X → Bool) (xs : List X) → ((x : X) → test x ≡ true → P x → Q x) → AllByRecursion P xs → AllByRecursion Q (filter test xs)
all-filter P Q test [] each all = tt
all-filter P Q test (x ∷ xs) each all =
    elim (test x) as (λ b. test x ≡ b → AllByRecursion Q (cond b (x ∷ filter test xs) (filter test xs))) [
      | true ↦ λ e. (each x e all.0, all-filter P Q test xs each all.1)
      | false ↦ λ e. all-filter P Q test xs each all.1
    ] refl

pub all-map : {X Y : Type 0} (P : X → Type 0) (Q : Y → Type 0) (f : X → Y) (xs : List X) → ((x : X) → P x → Q (f x)) → AllByRecursion P xs → AllByRecursion Q (map f xs)
all-map P Q f [] each all = tt
all-map P Q f (x ∷ xs) each all = (each x all.0, all-map P Q f xs each all.1)

pub all-from : {X : Type 0} (P : X → Type 0) (xs : List X) → All P xs → AllByRecursion P xs
all-from P [] all = tt
all-from P (x ∷ xs) all = (All-head P x xs all, all-from P xs (All-tail P x xs all))

pub all-freed : {X : Type 0} (P Q : X → Type 0) (gone : X → Bool) (xs : List X) → ((x : X) → gone x ≡ false → P x → Q x) → AllByRecursion P xs → AllByRecursion Q (filter (λ x. not (gone x)) xs)
all-freed P Q gone xs each all = all-filter P Q (λ x. not (gone x)) xs (λ x left holds. each x (not_true (gone x) left) holds) all

pub any-filter : {X : Type 0} (test spared : X → Bool) (xs : List X) → ((x : X) → test x ≡ true → spared x ≡ true) → list_any test xs ≡ true → list_any test (filter spared xs) ≡ true
any-filter test spared [] each some = absurd cc
any-filter test spared (x ∷ xs) each some =
    elim (test x) as (λ b. test x ≡ b → (b || list_any test xs) ≡ true → list_any test (cond (spared x) (x ∷ filter spared xs) (filter spared xs)) ≡ true) [
      | true ↦ λ e h. rw (each x e, e) refl
      | false ↦ λ e h. elim (spared x) as (λ c. list_any test (cond c (x ∷ filter spared xs) (filter spared xs)) ≡ true) [
        | true ↦ or_true (test x) (list_any test (filter spared xs)) (any-filter test spared xs each h)
        | false ↦ any-filter test spared xs each h
      ]
    ] refl some

-- each of a list is found in it by whatever test it passes
pub each-there : {X : Type 0} (xs : List X) → AllByRecursion (λ x. (test : X → Bool) → test x ≡ true → list_any test xs ≡ true) xs
each-there [] = tt
each-there {X = X} (x ∷ xs) = (
  λ test passes. ap (λ b. b || list_any test xs) passes,
  all-weaker (λ y. (test : X → Bool) → test y ≡ true → list_any test xs ≡ true) (λ y. (test : X → Bool) → test y ≡ true → list_any test (x ∷ xs) ≡ true) xs
      (λ y there test passes. or_true (test x) (list_any test xs) (there test passes)) (each-there xs),
)

pub any-none : {X : Type 0} (test : X → Bool) (xs : List X) → list_any test xs ≡ false → AllByRecursion (λ x. test x ≡ false) xs
any-none test [] none = tt
any-none test (x ∷ xs) none =
    elim (test x) as (λ b. test x ≡ b → (b || list_any test xs) ≡ false → AllByRecursion (λ y. test y ≡ false) (x ∷ xs)) [
      | true ↦ λ e h. absurd cc
      | false ↦ λ e h. (e, any-none test xs h)
    ] refl none

-- a wider test is passed, of items of which something holds
pub any-wider_of : {X : Type 0} (P : X → Type 0) (test wider : X → Bool) (xs : List X) → ((x : X) → P x → test x ≡ true → wider x ≡ true) → AllByRecursion P xs → list_any test xs ≡ true
    → list_any wider xs ≡ true
any-wider_of P test wider [] widens all some = absurd cc
any-wider_of P test wider (x ∷ xs) widens all some =
    elim (test x) as (λ b. test x ≡ b → (b || list_any test xs) ≡ true → (wider x || list_any wider xs) ≡ true) [
      | true ↦ λ e h. ap (λ b. b || list_any wider xs) (widens x all.0 e)
      | false ↦ λ e h. or_true (wider x) (list_any wider xs) (any-wider_of P test wider xs widens all.1 h)
    ] refl some

-- an open that isn't under commitment control has no number of one that is
pub none-any : {X : Type 0} (test : X → Bool) (xs : List X) → AllByRecursion (λ x. test x ≡ false) xs → list_any test xs ≡ false
none-any test [] all = refl
none-any test (x ∷ xs) all = rw all.0 (none-any test xs all.1)

-- one that passes, with what holds of each
pub witness : {X : Type 0} (test : X → Bool) (P : X → Type 0) (xs : List X) → list_any test xs ≡ true → AllByRecursion P xs → (x : X) × (test x ≡ true) × P x
witness test P [] some all = absurd cc
witness test P (x ∷ xs) some all =
    elim (test x) as (λ b. test x ≡ b → (b || list_any test xs) ≡ true → (y : _) × (test y ≡ true) × P y) [
      | true ↦ λ e h. (x, e, all.0)
      | false ↦ λ e h. witness test P xs h all.1
    ] refl some

pub none-filter : {X : Type 0} (test : X → Bool) (xs : List X) → AllByRecursion (λ x. test x ≡ false) xs → filter test xs ≡ []
none-filter test [] all = refl
none-filter test (x ∷ xs) all = rw all.0 (none-filter test xs all.1)

-- what holds of each holds at a place
pub at-place : {X : Type 0} (P : X → Type 0) (xs : List X) (place : ℕ) (x : X) → slice_get xs place ≡ Some x → AllByRecursion P xs → P x
at-place P [] place x at all = absurd cc
at-place P (y ∷ ys) zero x at all = let same : y ≡ x = cc in subst P same all.0
at-place P (y ∷ ys) (suc place) x at all = at-place P ys place x at all.1

-- What a read finds among entries or rows that are all so, is so.
use Rattle.std.proofs.Common.{◌≡◌, ℕ, ◌==◌, Bool, true, false, cond, if◌then◌else◌, List, [], ◌∷◌, reverse, Option, Some, None, IfSome, subst}
use Rattle.std.specs.List.{AllByRecursion, find}
use Rattle.std.specs.Ordering.{is_gt, is_lt}
use Rattle.file_model.specs.KeyOrder.{KeyValue, begins_with}
use Rattle.file_model.specs.Positions.{Reading, Position, side_of, next_from, prior_from, next_equal, prior_equal, where_equal, chain_key, chain_number}
use Rattle.library_kept.proofs.ListLemmas.{each-reverse}

pub if-some : {A : Type 0} (P : A → Type 0) (o : Option A) (a : A) → o ≡ Some a → IfSome o P → P a
if-some P o a is holds = subst (λ (x : Option _). IfSome x P) is holds

module _ {A : Type 0} (P : A → Type 0) where
  find-holds : (test : A → Bool) (xs : List A) → AllByRecursion P xs → IfSome (find test xs) P
  find-holds test [] all = tt
  find-holds test (x ∷ xs) all =
      elim (test x) as (λ b. IfSome (cond b (Some x) (find test xs)) P) [
        | true ↦ all.0
        | false ↦ find-holds test xs all.1
      ]

  equal-holds : (reading : Reading A) (values : List KeyValue) (item : Option A) → IfSome item P → IfSome (where_equal reading values item) P
  equal-holds reading values None holds = tt
  equal-holds reading values (Some item) holds =
      elim (begins_with values (reading.entry item).key) as (λ b. IfSome (if b then Some item else None) P) [ true ↦ holds | false ↦ tt ]

  pub next_from-holds : (reading : Reading A) (position : Position A) → AllByRecursion P reading.items → IfSome (next_from reading position) P
  next_from-holds reading position all = find-holds (λ item. is_gt (side_of reading position item)) reading.items all

  pub prior_from-holds : (reading : Reading A) (position : Position A) → AllByRecursion P reading.items → IfSome (prior_from reading position) P
  prior_from-holds reading position all = find-holds (λ item. is_lt (side_of reading position item)) (reverse reading.items) (each-reverse P reading.items all)

  pub next_equal-holds : (reading : Reading A) (values : List KeyValue) (position : Position A) → AllByRecursion P reading.items → IfSome (next_equal reading values position) P
  next_equal-holds reading values position all = equal-holds reading values (next_from reading position) (next_from-holds reading position all)

  pub prior_equal-holds : (reading : Reading A) (values : List KeyValue) (position : Position A) → AllByRecursion P reading.items → IfSome (prior_equal reading values position) P
  prior_equal-holds reading values position all = equal-holds reading values (prior_from reading position) (prior_from-holds reading position all)

  pub chain_key-holds : (reading : Reading A) (values : List KeyValue) → AllByRecursion P reading.items → IfSome (chain_key reading values) P
  chain_key-holds reading values all = find-holds (λ item. begins_with values (reading.entry item).key) reading.items all

  pub chain_number-holds : (reading : Reading A) (number : ℕ) → AllByRecursion P reading.items → IfSome (chain_number reading number) P
  chain_number-holds reading number all = find-holds (λ item. (reading.entry item).rrn == number) reading.items all

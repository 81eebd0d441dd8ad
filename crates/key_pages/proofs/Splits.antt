-- A list that a test cuts in two: what a filter keeps, what a search finds, and the last element that passes.
use Rattle.std.proofs.Common.{◌≡◌, ℕ, suc, zero, ◌<◌, Bool, true, false, cond, Option, Some, List, [], ◌∷◌, ◌++◌, length, get_or, take, drop, refl, ap, ◌∙◌, arith}
use Rattle.std.specs.Prelude.{filter, find, remove}
use Rattle.std.specs.List.{AllWithin, last_or, slice_get}

module _ {X : Type 0} (p : X → Bool) where
  -- the test gives this answer at each place from low up to high
  abbrev pub Answers : Bool → List X → ℕ → ℕ → Type 0
  Answers b xs low high = AllWithin (λ x. p x ≡ b) xs low high

  -- of a list, of its first element and of its tail
  first : (b : Bool) (x : X) (xs : List X) (high : ℕ) → Answers b (x ∷ xs) 0 (suc high) → p x ≡ b
  first b x xs high all = all 0 x (omega arith) (omega arith)

  front_tail : (b : Bool) (x : X) (xs : List X) (high : ℕ) → Answers b (x ∷ xs) 0 (suc high) → Answers b xs 0 high
  front_tail b x xs high all = λ k d from upto. all (suc k) d (omega arith) (omega arith)

  back_tail : (b : Bool) (x : X) (xs : List X) (low high : ℕ) → Answers b (x ∷ xs) (suc low) (suc high) → Answers b xs low high
  back_tail b x xs low high all = λ k d from upto. all (suc k) d (omega arith) (omega arith)

  filter_first : (b : Bool) (x : X) (xs : List X) → p x ≡ b → filter p (x ∷ xs) ≡ cond b (x ∷ filter p xs) (filter p xs)
  filter_first b x xs is = ap (λ t. cond t (x ∷ filter p xs) (filter p xs)) is

  find_first : (b : Bool) (x : X) (xs : List X) → p x ≡ b → find p (x ∷ xs) ≡ cond b (Some x) (find p xs)
  find_first b x xs is = ap (λ t. cond t (Some x) (find p xs)) is

  more : (x : X) (xs ys : List X) → xs ≡ ys → x ∷ xs ≡ x ∷ ys
  more x xs ys same = ap {B = List X} (λ r. x ∷ r) same

  pub filter-none : (xs : List X) → Answers false xs 0 (length xs) → filter p xs ≡ []
  filter-none [] none = refl
  filter-none (x ∷ xs) none =
      filter_first false x xs (first false x xs (length xs) none) ∙ filter-none xs (front_tail false x xs (length xs) none)

  pub filter-all : (xs : List X) → Answers true xs 0 (length xs) → filter p xs ≡ xs
  filter-all [] each = refl
  filter-all (x ∷ xs) each =
      filter_first true x xs (first true x xs (length xs) each)
      ∙ more x (filter p xs) xs (filter-all xs (front_tail true x xs (length xs) each))

  -- the front passes and the rest does not
  pub filter-front : (xs : List X) (i : ℕ) → Answers true xs 0 i → Answers false xs i (length xs) → filter p xs ≡ take i xs
  filter-front xs zero front back = filter-none xs back
  filter-front [] (suc i) front back = refl
  filter-front (x ∷ xs) (suc i) front back =
      filter_first true x xs (first true x xs i front)
      ∙ more x (filter p xs) (take i xs) (filter-front xs i (front_tail true x xs i front) (back_tail false x xs i (length xs) back))

  -- the rest passes and the front does not
  pub filter-back : (xs : List X) (i : ℕ) → Answers false xs 0 i → Answers true xs i (length xs) → filter p xs ≡ drop i xs
  filter-back xs zero front back = filter-all xs back
  filter-back [] (suc i) front back = refl
  filter-back (x ∷ xs) (suc i) front back =
      filter_first false x xs (first false x xs i front)
      ∙ filter-back xs i (front_tail false x xs i front) (back_tail true x xs i (length xs) back)

  -- one element alone does not pass
  pub filter-but : (xs : List X) (i : ℕ) → i < length xs → Answers true xs 0 i → ((d : X) → p (get_or xs i d) ≡ false) → Answers true xs (suc i) (length xs) → filter p xs ≡ remove xs i
  filter-but [] i within front here back = absurd (omega arith)
  filter-but (x ∷ xs) zero within front here back =
      filter_first false x xs (here x) ∙ filter-all xs (back_tail true x xs zero (length xs) back)
  filter-but (x ∷ xs) (suc i) within front here back =
      filter_first true x xs (first true x xs i front)
      ∙ more x (filter p xs) (remove xs i) (filter-but xs i (omega arith) (front_tail true x xs i front) here (back_tail true x xs (suc i) (length xs) back))

  -- the first that passes stands at the cut
  pub find-split : (xs : List X) (i : ℕ) → Answers false xs 0 i → Answers true xs i (length xs) → find p xs ≡ slice_get xs i
  find-split [] i front back = refl
  find-split (x ∷ xs) zero front back = find_first true x xs (first true x xs (length xs) back)
  find-split (x ∷ xs) (suc i) front back =
      find_first false x xs (first false x xs i front)
      ∙ find-split xs i (front_tail false x xs i front) (back_tail true x xs i (length xs) back)

module _ {X : Type 0} where
  pub last_or-take : (o : Option X) (xs : List X) (i : ℕ) → i < length xs → last_or o (take (suc i) xs) ≡ slice_get xs i
  last_or-take o [] i within = absurd (omega arith)
  last_or-take o (x ∷ xs) zero within = refl
  last_or-take o (x ∷ xs) (suc i) within = last_or-take (Some x) xs i (omega arith)

  pub last_or-append : (o : Option X) (xs : List X) (y : X) → last_or o (xs ++ y ∷ []) ≡ Some y
  last_or-append o [] y = refl
  last_or-append o (x ∷ xs) y = last_or-append (Some x) xs y

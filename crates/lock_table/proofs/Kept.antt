-- What filters keep: of filtered lists, of lists put in order, and of a run between two places.
use Rattle.std.proofs.Common.{◌≡◌, ℕ, ◌+◌, ◌-◌, ◌<◌, ◌≤◌, Bool, true, false, not, ◌&&◌, ◌||◌, ◌⊎◌, inl, inr, cond, List, [], ◌∷◌, length, get_or, take, drop, map, refl, sym, ap, ◌∙◌, zero, suc, arith, subst}
use Rattle.std.specs.List.{filter, All, Contains, list_any}
use Rattle.std.specs.List.Sorted.{IsStrictlySortedBy, IsPartitionedBy}
use Rattle.std.specs.Ordering.{match_ordering}
use Rattle.std.specs.declared.cmp.Ordering.{Ordering}
use Rattle.std.specs.declared.cmp.Ordering.TheVariants.{Less, Equal, Greater}
use Rattle.std.proofs.lemmas.List.Elements.{All-head, All-tail, All-cons, All-nil}
use Rattle.std.proofs.lemmas.Map.Keys.{Less-from_sorted}
use Rattle.lock_table.specs.Table.{with_item, in_order}

module _ {X : Type 0} where
  pub filter-filter : (p q : X → Bool) (xs : List X) → filter q (filter p xs) ≡ filter (λ x. p x && q x) xs
  filter-filter p q [] = refl
  filter-filter p q (x ∷ xs) =
      elim (p x) as (λ b. filter q (cond b (x ∷ filter p xs) (filter p xs)) ≡ cond (b && q x) (x ∷ filter (λ y. p y && q y) xs) (filter (λ y. p y && q y) xs)) [
        | true ↦ ap (λ ys. cond (q x) (x ∷ ys) ys) (filter-filter p q xs)
        | false ↦ filter-filter p q xs
      ]

  -- what a narrower test keeps is not lost by a wider one
  pub filter-wider : (p q : X → Bool) → ((x : X) → p x ≡ true → q x ≡ true) → (xs : List X) → filter p (filter q xs) ≡ filter p xs
  filter-wider p q wider [] = refl
  filter-wider p q wider (x ∷ xs) =
      elim (q x) as (λ b. q x ≡ b → filter p (cond b (x ∷ filter q xs) (filter q xs)) ≡ cond (p x) (x ∷ filter p xs) (filter p xs)) [
        | true ↦ λ e. ap (λ ys. cond (p x) (x ∷ ys) ys) (filter-wider p q wider xs)
        | false ↦ λ e.
            elim (p x) as (λ c. p x ≡ c → filter p (filter q xs) ≡ cond c (x ∷ filter p xs) (filter p xs)) [
              | true ↦ λ f. absurd (let g : q x ≡ true = wider x f in cc)
              | false ↦ λ f. filter-wider p q wider xs
            ] refl
      ] refl

  pub filter-swap : (p q : X → Bool) (xs : List X) → filter p (filter q xs) ≡ filter q (filter p xs)
  filter-swap p q [] = refl
  filter-swap p q (x ∷ xs) =
      elim (p x) as (λ a. p x ≡ a → filter p (cond (q x) (x ∷ filter q xs) (filter q xs)) ≡ filter q (cond a (x ∷ filter p xs) (filter p xs))) [
        | true ↦ λ e. elim (q x) as (λ b. q x ≡ b → filter p (cond b (x ∷ filter q xs) (filter q xs)) ≡ cond b (x ∷ filter q (filter p xs)) (filter q (filter p xs))) [ true ↦ λ f. rw e (ap (λ ys. x ∷ ys) (filter-swap p q xs)) | false ↦ λ f. filter-swap p q xs ] refl
        | false ↦ λ e. elim (q x) as (λ b. filter p (cond b (x ∷ filter q xs) (filter q xs)) ≡ filter q (filter p xs)) [ true ↦ rw e (filter-swap p q xs) | false ↦ filter-swap p q xs ]
      ] refl

  -- where the test keeps nothing, its contrary keeps all
  pub filter-contrary : (p : X → Bool) (xs : List X) → filter p xs ≡ [] → filter (λ x. not (p x)) xs ≡ xs
  filter-contrary p [] h = refl
  filter-contrary p (x ∷ xs) none =
      elim (p x) as (λ b. cond b (x ∷ filter p xs) (filter p xs) ≡ [] → cond (not b) (x ∷ filter (λ y. not (p y)) xs) (filter (λ y. not (p y)) xs) ≡ x ∷ xs) [
        | true ↦ λ h. absurd (cc)
        | false ↦ λ h. ap (λ ys. x ∷ ys) (filter-contrary p xs h)
      ] none

  pub map-untouched : (p : X → Bool) (f : X → X) (xs : List X) → filter p xs ≡ [] → map (λ x. cond (p x) (f x) x) xs ≡ xs
  map-untouched p f [] h = refl
  map-untouched p f (x ∷ xs) none =
      elim (p x) as (λ b. cond b (x ∷ filter p xs) (filter p xs) ≡ [] → cond b (f x) x ∷ map (λ y. cond (p y) (f y) y) xs ≡ x ∷ xs) [
        | true ↦ λ h. absurd (cc)
        | false ↦ λ h. ap (λ ys. x ∷ ys) (map-untouched p f xs h)
      ] none

  pub filter-none : (p : X → Bool) (xs : List X) → list_any p xs ≡ false → filter p xs ≡ []
  filter-none p [] h = refl
  filter-none p (x ∷ xs) none =
      elim (p x) as (λ b. (b || list_any p xs) ≡ false → cond b (x ∷ filter p xs) (filter p xs) ≡ []) [
        | true ↦ λ h. absurd (cc)
        | false ↦ λ h. filter-none p xs h
      ] none

  pub none-filter : (p : X → Bool) (xs : List X) → filter p xs ≡ [] → list_any p xs ≡ false
  none-filter p [] h = refl
  none-filter p (x ∷ xs) none =
      elim (p x) as (λ b. cond b (x ∷ filter p xs) (filter p xs) ≡ [] → (b || list_any p xs) ≡ false) [
        | true ↦ λ h. absurd (cc)
        | false ↦ λ h. none-filter p xs h
      ] none

  pub list_any-filter : (p t : X → Bool) (xs : List X) → list_any t (filter p xs) ≡ list_any (λ x. p x && t x) xs
  list_any-filter p t [] = refl
  list_any-filter p t (x ∷ xs) =
      elim (p x) as (λ b. list_any t (cond b (x ∷ filter p xs) (filter p xs)) ≡ ((b && t x) || list_any (λ y. p y && t y) xs)) [
        | true ↦ ap (λ c. t x || c) (list_any-filter p t xs)
        | false ↦ list_any-filter p t xs
      ]

  pub list_any-map : {Y : Type 0} (t : Y → Bool) (f : X → Y) (xs : List X) → list_any t (map f xs) ≡ list_any (λ x. t (f x)) xs
  list_any-map t f [] = refl
  list_any-map t f (x ∷ xs) = ap (λ c. t (f x) || c) (list_any-map t f xs)

  pub length-filter-≤ : (p : X → Bool) (xs : List X) → length (filter p xs) ≤ length xs
  length-filter-≤ p [] = omega arith
  length-filter-≤ p (x ∷ xs) =
      let h : length (filter p xs) ≤ length xs = length-filter-≤ p xs in
      elim (p x) as (λ b. length (cond b (x ∷ filter p xs) (filter p xs)) ≤ length (x ∷ xs)) [ true ↦ omega arith | false ↦ omega arith ]

  pub length-filter-< : (p : X → Bool) (x : X) (xs : List X) (i : ℕ) → i < length xs → get_or xs i x ≡ x → p x ≡ false → length (filter p xs) < length xs
  length-filter-< p x [] i h at out = absurd (omega arith)
  length-filter-< p x (y ∷ ys) zero h at out =
      let e : p y ≡ false = ap p at ∙ out in
      let l : length (filter p ys) ≤ length ys = length-filter-≤ p ys in
      rw e (omega arith)
  length-filter-< p x (y ∷ ys) (suc i) h at out =
      let l : length (filter p ys) < length ys = length-filter-< p x ys i (omega arith) at out in
      elim (p y) as (λ b. length (cond b (y ∷ filter p ys) (filter p ys)) < length (y ∷ ys)) [ true ↦ omega arith | false ↦ omega arith ]

  -- what is kept of a list that has x, where x passes
  kept_at : (p : X → Bool) (x : X) (xs : List X) (i : ℕ) → i < length xs → get_or xs i x ≡ x → p x ≡ true → Contains (filter p xs) x
  kept_at p x [] i l at passed = absurd (omega arith)
  kept_at p x (y ∷ ys) zero l at passed = let e : p y ≡ true = ap p at ∙ passed in rw e (0, (omega arith), at)
  kept_at p x (y ∷ ys) (suc i) l at passed =
      let c : Contains (filter p ys) x = kept_at p x ys i (omega arith) at passed in
      elim (p y) as (λ b. Contains (cond b (y ∷ filter p ys) (filter p ys)) x) [ true ↦ (suc c.0, (omega (arith, c.1)), c.2) | false ↦ c ]

  pub filter-has : (p : X → Bool) (x : X) (xs : List X) → Contains xs x → p x ≡ true → Contains (filter p xs) x
  filter-has p x xs h passed = kept_at p x xs h.0 h.1 h.2 passed

module _ {X : Type 0} (R : X → X → Ordering) where
  pub length-with_item : (x : X) (xs : List X) → length (with_item R x xs) ≤ length xs + 1
  length-with_item x [] = omega arith
  length-with_item x (y ∷ ys) =
      let h : length (with_item R x ys) ≤ length ys + 1 = length-with_item x ys in
      elim (R x y) as (λ r. length (match_ordering r (x ∷ y ∷ ys) (y ∷ ys) (y ∷ with_item R x ys)) ≤ length (y ∷ ys) + 1) [ Less ↦ omega arith | Equal ↦ omega arith | Greater ↦ omega arith ]

  pub length-in_order : (xs : List X) → length (in_order R xs) ≤ length xs
  length-in_order [] = omega arith
  length-in_order (x ∷ xs) =
      let h : length (in_order R xs) ≤ length xs = length-in_order xs in
      let l : length (with_item R x (in_order R xs)) ≤ length (in_order R xs) + 1 = length-with_item x (in_order R xs) in
      omega arith

  pub All-with_item : (P : X → Type 0) (x : X) (xs : List X) → P x → All P xs → All P (with_item R x xs)
  All-with_item P x [] px h = All-cons P x [] px (All-nil P)
  All-with_item P x (y ∷ ys) px h =
      elim (R x y) as (λ r. All P (match_ordering r (x ∷ y ∷ ys) (y ∷ ys) (y ∷ with_item R x ys))) [
        | Less ↦ All-cons P x (y ∷ ys) px h
        | Equal ↦ h
        | Greater ↦ All-cons P y (with_item R x ys) (All-head P y ys h) (All-with_item P x ys px (All-tail P y ys h))
      ]

  pub All-in_order : (P : X → Type 0) (xs : List X) → All P xs → All P (in_order R xs)
  All-in_order P [] h = h
  All-in_order P (x ∷ xs) h = All-with_item P x (in_order R xs) (All-head P x xs h) (All-in_order P xs (All-tail P x xs h))

  or_moved : (a b c : Bool) → (a || (b || c)) ≡ (b || (a || c))
  or_moved true true c = refl
  or_moved true false c = refl
  or_moved false b c = refl

  or_twice : (b c : Bool) → (b || c) ≡ (b || (b || c))
  or_twice true c = refl
  or_twice false c = refl

  pub list_any-with_item : ((x y : X) → R x y ≡ Equal → x ≡ y) → (t : X → Bool) (x : X) (xs : List X) → list_any t (with_item R x xs) ≡ (t x || list_any t xs)
  list_any-with_item same t x [] = refl
  list_any-with_item same t x (y ∷ ys) =
      elim (R x y) as (λ r. R x y ≡ r → list_any t (match_ordering r (x ∷ y ∷ ys) (y ∷ ys) (y ∷ with_item R x ys)) ≡ (t x || (t y || list_any t ys))) [
        | Less ↦ λ e. refl
        | Equal ↦ λ e. subst (λ z. (t y || list_any t ys) ≡ (t z || (t y || list_any t ys))) (sym (same x y e)) (or_twice (t y) (list_any t ys))
        | Greater ↦ λ e. ap (λ c. t y || c) (list_any-with_item same t x ys) ∙ or_moved (t y) (t x) (list_any t ys)
      ] refl

  pub list_any-in_order : ((x y : X) → R x y ≡ Equal → x ≡ y) → (t : X → Bool) (xs : List X) → list_any t (in_order R xs) ≡ list_any t xs
  list_any-in_order same t [] = refl
  list_any-in_order same t (x ∷ xs) = list_any-with_item same t x (in_order R xs) ∙ ap (λ c. t x || c) (list_any-in_order same t xs)

  before_or_at : (i j : ℕ) → i ≤ j → (i < j) ⊎ (i ≡ j)
  before_or_at i j h = grind arith

  -- a test that passes what stands before an item that passes
  pub IsPartitionedBy-sorted : (p : X → Bool) → ((x y : X) → R x y ≡ Less → p y ≡ true → p x ≡ true) → (xs : List X) → IsStrictlySortedBy R xs → IsPartitionedBy p xs
  IsPartitionedBy-sorted p falls xs s i j d le lt passed =
      elim (before_or_at i j le) [
        | inl l ↦ falls (get_or xs i d) (get_or xs j d) (Less-from_sorted R xs i j d s l lt) passed
        | inr e ↦ rw e passed
      ]

-- a run: the items at places from i up to j pass the test, and no others do
module _ {X : Type 0} (inside : X → Bool) where
  nothing_inside : (xs : List X) → ((k : ℕ) (d : X) → k < length xs → inside (get_or xs k d) ≡ false) → filter inside xs ≡ []
  nothing_inside [] out = refl
  nothing_inside (x ∷ xs) out = rw (out 0 x (omega arith)) (nothing_inside xs (λ k d l. out (suc k) d (omega arith)))

  run_from_start : (xs : List X) (j : ℕ) → ((k : ℕ) (d : X) → k < j → k < length xs → inside (get_or xs k d) ≡ true) → ((k : ℕ) (d : X) → j ≤ k → k < length xs → inside (get_or xs k d) ≡ false) → filter inside xs ≡ take j xs
  run_from_start [] zero within out = refl
  run_from_start [] (suc j) within out = refl
  run_from_start (x ∷ xs) zero within out = nothing_inside (x ∷ xs) (λ k d l. out k d (omega arith) l)
  run_from_start (x ∷ xs) (suc j) within out =
      rw (within 0 x (omega arith) (omega arith)) (ap (λ ys. x ∷ ys) (run_from_start xs j (λ k d l m. within (suc k) d (omega arith) (omega arith)) (λ k d l m. out (suc k) d (omega arith) (omega arith))))

  pub filter-run : (xs : List X) (i j : ℕ) → i ≤ j → ((k : ℕ) (d : X) → k < i → k < length xs → inside (get_or xs k d) ≡ false) → ((k : ℕ) (d : X) → i ≤ k → k < j → k < length xs → inside (get_or xs k d) ≡ true) → ((k : ℕ) (d : X) → j ≤ k → k < length xs → inside (get_or xs k d) ≡ false) → filter inside xs ≡ take (j - i) (drop i xs)
  filter-run xs zero j le before within after = let e : j - 0 ≡ j = omega arith in rw e (run_from_start xs j (λ k d l m. within k d (omega arith) l m) after)
  filter-run [] (suc i) j le before within after = run_from_start [] (j - suc i) (λ k d l m. absurd (omega arith)) (λ k d l m. absurd (omega arith))
  filter-run (x ∷ xs) (suc i) zero le before within after = absurd (omega arith)
  filter-run (x ∷ xs) (suc i) (suc j) le before within after =
      let e : suc j - suc i ≡ j - i = omega arith in
      rw (e, before 0 x (omega arith) (omega arith))
      (filter-run xs i j (omega arith) (λ k d l m. before (suc k) d (omega arith) (omega arith)) (λ k d l m n. within (suc k) d (omega arith) (omega arith) (omega arith)) (λ k d l m. after (suc k) d (omega arith) (omega arith)))

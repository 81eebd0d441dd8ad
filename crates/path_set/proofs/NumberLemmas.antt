-- The numbers of those that pass a test, where one comes, goes or changes.
use Rattle.std.proofs.Common.{ℕ, zero, suc, ◌<◌, ◌≤◌, ◌≡◌, ◌==◌, nat_lt, Bool, true, false, cond, List, [], ◌∷◌, length, map, filter, set, get_or, insert, refl, sym, ap, ◌∙◌, arith}
use Rattle.std.specs.List.{AllByRecursion}
use Rattle.std.proofs.lemmas.Bool.{cond-true, cond-false}
use Rattle.std.proofs.lemmas.Bool.Decides.{nat_tests}
use Rattle.path_set.specs.ByMember.{with_number}

-- ---- a number among ascending ones

with-first : (n : ℕ) (ks : List ℕ) → AllByRecursion (λ k. n < k) ks → with_number n ks ≡ n ∷ ks
with-first n [] above = refl
with-first n (k ∷ ks) above =
    cond-false (nat_lt k n) (k ∷ with_number n ks) (cond (k == n) (k ∷ ks) (n ∷ k ∷ ks)) (let a = above.0 in let e : nat_lt k n ≡ false = grind (arith, nat_tests) in e)
    ∙ cond-false (k == n) (k ∷ ks) (n ∷ k ∷ ks) (let a = above.0 in let e : (k == n) ≡ false = grind (arith, nat_tests) in e)

with-later : (n k : ℕ) (ks : List ℕ) → k < n → with_number n (k ∷ ks) ≡ k ∷ with_number n ks
with-later n k ks below =
    cond-true (nat_lt k n) (k ∷ with_number n ks) (cond (k == n) (k ∷ ks) (n ∷ k ∷ ks)) (let e : nat_lt k n ≡ true = grind (arith, nat_tests) in e)

with-same : (n k : ℕ) (ks : List ℕ) → k ≡ n → with_number n (k ∷ ks) ≡ k ∷ ks
with-same n k ks same =
    cond-false (nat_lt k n) (k ∷ with_number n ks) (cond (k == n) (k ∷ ks) (n ∷ k ∷ ks)) (let e : nat_lt k n ≡ false = grind (arith, nat_tests) in e)
    ∙ cond-true (k == n) (k ∷ ks) (n ∷ k ∷ ks) (let e : (k == n) ≡ true = grind (arith, nat_tests) in e)

-- it is put once
pub with-twice : (n : ℕ) (ks : List ℕ) → with_number n (with_number n ks) ≡ with_number n ks
with-twice n [] = with-same n n [] refl
with-twice n (k ∷ ks) = by (nat_lt k n) (k == n) refl refl (with-twice n ks)
  where
    by : (b c : Bool) → nat_lt k n ≡ b → (k == n) ≡ c → with_number n (with_number n ks) ≡ with_number n ks
        → with_number n (cond b (k ∷ with_number n ks) (cond c (k ∷ ks) (n ∷ k ∷ ks))) ≡ cond b (k ∷ with_number n ks) (cond c (k ∷ ks) (n ∷ k ∷ ks))
    by true c lt eq rest =
        with-later n k (with_number n ks) (let e : k < n = grind (arith, nat_tests) in e) ∙ ap (λ (w : List ℕ). k ∷ w) rest
    by false true lt eq rest = with-same n k ks (let e : k ≡ n = grind (arith, nat_tests) in e)
    by false false lt eq rest = with-same n n (k ∷ ks) refl

-- ---- those that pass

module _ {X : Type 0} (id : X → ℕ) (p : X → Bool) where
  skip : (e : X) (xs : List X) (i : ℕ) → p e ≡ false → map id (filter p (insert xs i e)) ≡ map id (filter p xs)
  skip e [] zero is = ap (λ (b : Bool). map id (cond b (e ∷ []) [])) is
  skip e [] (suc i) is = ap (λ (b : Bool). map id (cond b (e ∷ []) [])) is
  skip e (x ∷ xs) zero is = ap (λ (b : Bool). map id (cond b (e ∷ filter p (x ∷ xs)) (filter p (x ∷ xs)))) is
  skip e (x ∷ xs) (suc i) is = by (p x) (skip e xs i is)
    where
      by : (b : Bool) → map id (filter p (insert xs i e)) ≡ map id (filter p xs)
          → map id (cond b (x ∷ filter p (insert xs i e)) (filter p (insert xs i e))) ≡ map id (cond b (x ∷ filter p xs) (filter p xs))
      by true rest = ap (λ (w : List ℕ). id x ∷ w) rest
      by false rest = rest

  all-above : (n : ℕ) (xs : List X) → ((k : ℕ) (d : X) → k < length xs → p (get_or xs k d) ≡ true → n < id (get_or xs k d)) → AllByRecursion (λ k. n < k) (map id (filter p xs))
  all-above n [] above = tt
  all-above n (x ∷ xs) above = by (p x) refl (all-above n xs (λ k d low. above (suc k) d (omega arith)))
    where
      by : (b : Bool) → p x ≡ b → AllByRecursion (λ k. n < k) (map id (filter p xs)) → AllByRecursion (λ k. n < k) (map id (cond b (x ∷ filter p xs) (filter p xs)))
      by true is rest = (above zero x (omega arith) is, rest)
      by false is rest = rest

  put : (e : X) (xs : List X) (i : ℕ) → p e ≡ true → ((k : ℕ) (d : X) → k < i → k < length xs → p (get_or xs k d) ≡ true → id (get_or xs k d) < id e)
      → ((k : ℕ) (d : X) → i ≤ k → k < length xs → p (get_or xs k d) ≡ true → id e < id (get_or xs k d))
      → map id (filter p (insert xs i e)) ≡ with_number (id e) (map id (filter p xs))
  put e [] zero is before after = ap (λ (b : Bool). map id (cond b (e ∷ []) [])) is
  put e [] (suc i) is before after = ap (λ (b : Bool). map id (cond b (e ∷ []) [])) is
  put e (x ∷ xs) zero is before after =
      ap (λ (b : Bool). map id (cond b (e ∷ filter p (x ∷ xs)) (filter p (x ∷ xs)))) is
      ∙ sym (with-first (id e) (map id (filter p (x ∷ xs))) (all-above (id e) (x ∷ xs) (λ k d low. after k d (omega arith) low)))
  put e (x ∷ xs) (suc i) is before after =
      by (p x) refl (put e xs i is (λ k d lt low. before (suc k) d (omega arith) (omega arith)) (λ k d le low. after (suc k) d (omega arith) (omega arith)))
    where
      by : (b : Bool) → p x ≡ b → map id (filter p (insert xs i e)) ≡ with_number (id e) (map id (filter p xs))
          → map id (cond b (x ∷ filter p (insert xs i e)) (filter p (insert xs i e))) ≡ with_number (id e) (map id (cond b (x ∷ filter p xs) (filter p xs)))
      by true own rest =
          ap (λ (w : List ℕ). id x ∷ w) rest ∙ sym (with-later (id e) (id x) (map id (filter p xs)) (before zero x (omega arith) (omega arith) own))
      by false own rest = rest

  -- one that comes
  pub numbers-put : (e : X) (xs : List X) (i : ℕ) → (p e ≡ true → (k : ℕ) (d : X) → k < i → k < length xs → p (get_or xs k d) ≡ true → id (get_or xs k d) < id e)
      → (p e ≡ true → (k : ℕ) (d : X) → i ≤ k → k < length xs → p (get_or xs k d) ≡ true → id e < id (get_or xs k d))
      → map id (filter p (insert xs i e)) ≡ cond (p e) (with_number (id e) (map id (filter p xs))) (map id (filter p xs))
  numbers-put e xs i before after = by (p e) refl
    where
      by : (b : Bool) → p e ≡ b → map id (filter p (insert xs i e)) ≡ cond b (with_number (id e) (map id (filter p xs))) (map id (filter p xs))
      by true is = put e xs i is (before is) (after is)
      by false is = skip e xs i is

  there : (e : X) (xs : List X) (i : ℕ) → p e ≡ true → i < length xs → ((d : X) → get_or xs i d ≡ e)
      → ((k : ℕ) (d : X) → k < i → p (get_or xs k d) ≡ true → id (get_or xs k d) < id e) → map id (filter p xs) ≡ with_number (id e) (map id (filter p xs))
  there e [] i is low here before = absurd (omega arith)
  there e (x ∷ xs) zero is low here before = by (p x) refl
    where
      by : (b : Bool) → p x ≡ b → map id (cond b (x ∷ filter p xs) (filter p xs)) ≡ with_number (id e) (map id (cond b (x ∷ filter p xs) (filter p xs)))
      by true own = sym (with-same (id e) (id x) (map id (filter p xs)) (ap id (here x)))
      by false own = absurd (let t : false ≡ true = sym own ∙ ap p (here x) ∙ is in cc)
  there e (x ∷ xs) (suc i) is low here before = by (p x) refl (there e xs i is (omega arith) here (λ k d lt. before (suc k) d (omega arith)))
    where
      by : (b : Bool) → p x ≡ b → map id (filter p xs) ≡ with_number (id e) (map id (filter p xs))
          → map id (cond b (x ∷ filter p xs) (filter p xs)) ≡ with_number (id e) (map id (cond b (x ∷ filter p xs) (filter p xs)))
      by true own rest =
          ap (λ (w : List ℕ). id x ∷ w) rest ∙ sym (with-later (id e) (id x) (map id (filter p xs)) (before zero x (omega arith) own))
      by false own rest = rest

  -- one that is there already
  pub numbers-there : (e : X) (xs : List X) (i : ℕ) → i < length xs → ((d : X) → get_or xs i d ≡ e)
      → (p e ≡ true → (k : ℕ) (d : X) → k < i → p (get_or xs k d) ≡ true → id (get_or xs k d) < id e)
      → map id (filter p xs) ≡ cond (p e) (with_number (id e) (map id (filter p xs))) (map id (filter p xs))
  numbers-there e xs i low here before = by (p e) refl
    where
      by : (b : Bool) → p e ≡ b → map id (filter p xs) ≡ cond b (with_number (id e) (map id (filter p xs))) (map id (filter p xs))
      by true is = there e xs i is low here (before is)
      by false is = refl

  -- those that go
  pub numbers-kept : (q : ℕ → Bool) (xs : List X) → map id (filter p (filter (λ x. q (id x)) xs)) ≡ filter q (map id (filter p xs))
  numbers-kept q [] = refl
  numbers-kept q (x ∷ xs) = by (p x) (q (id x)) refl refl (numbers-kept q xs)
    where
      by : (b c : Bool) → p x ≡ b → q (id x) ≡ c → map id (filter p (filter (λ y. q (id y)) xs)) ≡ filter q (map id (filter p xs))
          → map id (filter p (cond c (x ∷ filter (λ y. q (id y)) xs) (filter (λ y. q (id y)) xs))) ≡ filter q (map id (cond b (x ∷ filter p xs) (filter p xs)))
      by true true own kept rest =
          ap (λ (b : Bool). map id (cond b (x ∷ filter p (filter (λ y. q (id y)) xs)) (filter p (filter (λ y. q (id y)) xs)))) own
          ∙ ap (λ (w : List ℕ). id x ∷ w) rest
          ∙ sym (cond-true (q (id x)) (id x ∷ filter q (map id (filter p xs))) (filter q (map id (filter p xs))) kept)
      by true false own kept rest = rest ∙ sym (cond-false (q (id x)) (id x ∷ filter q (map id (filter p xs))) (filter q (map id (filter p xs))) kept)
      by false true own kept rest =
          ap (λ (b : Bool). map id (cond b (x ∷ filter p (filter (λ y. q (id y)) xs)) (filter p (filter (λ y. q (id y)) xs)))) own ∙ rest
      by false false own kept rest = rest

  -- one that changes in what has no part in it
  pub numbers-set : (xs : List X) (i : ℕ) (new : X) → ((d : X) → id new ≡ id (get_or xs i d)) → ((d : X) → p new ≡ p (get_or xs i d)) → map id (filter p (set xs i new)) ≡ map id (filter p xs)
  numbers-set [] i new same alike = refl
  numbers-set (x ∷ xs) zero new same alike =
      ap (λ (b : Bool). map id (cond b (new ∷ filter p xs) (filter p xs))) (alike x) ∙ by (p x)
    where
      by : (b : Bool) → map id (cond b (new ∷ filter p xs) (filter p xs)) ≡ map id (cond b (x ∷ filter p xs) (filter p xs))
      by true = ap (λ (n : ℕ). n ∷ map id (filter p xs)) (same x)
      by false = refl
  numbers-set (x ∷ xs) (suc i) new same alike = by (p x) (numbers-set xs i new same alike)
    where
      by : (b : Bool) → map id (filter p (set xs i new)) ≡ map id (filter p xs)
          → map id (cond b (x ∷ filter p (set xs i new)) (filter p (set xs i new))) ≡ map id (cond b (x ∷ filter p xs) (filter p xs))
      by true rest = ap (λ (w : List ℕ). id x ∷ w) rest
      by false rest = rest

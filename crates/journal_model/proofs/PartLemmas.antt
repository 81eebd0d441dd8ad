-- The closed part of a range is closed, and no longer part is.
use Rattle.std.proofs.Common.{◌≡◌, ℕ, zero, suc, ◌-◌, ◌<◌, ◌≤◌, Bool, true, false, cond, List, [], ◌∷◌, length, take, drop, refl, ap, ◌∙◌, arith, inl, inr, IsTrue, IsFalse}
use Rattle.std.proofs.lemmas.Bool.{cases_eq}
use Rattle.std.proofs.Math.Seq.{drop-length}
use Rattle.journal_model.specs.Acts.{Act}
use Rattle.journal_model.specs.Closed.{greatest, is_closed, closed_prefix, closed_suffix, last}

module _ (passes : ℕ → Bool) where
  greatest-passes : (n : ℕ) → passes 0 ≡ true → passes (greatest passes n) ≡ true
  greatest-passes zero h = h
  greatest-passes (suc n) h = at (passes (suc n)) refl (greatest-passes n h) where
    at : (b : Bool) → passes (suc n) ≡ b → passes (greatest passes n) ≡ true → passes (cond b (suc n) (greatest passes n)) ≡ true
    at true e more = e
    at false e more = more

  greatest-most : (n k : ℕ) → greatest passes n < k → k ≤ n → passes k ≡ false
  greatest-most zero k below within = absurd (omega arith)
  greatest-most (suc n) k below within = at (passes (suc n)) refl below (greatest-most n k) where
    at : (b : Bool) → passes (suc n) ≡ b → cond b (suc n) (greatest passes n) < k → (greatest passes n < k → k ≤ n → passes k ≡ false) → passes k ≡ false
    at true e g more = absurd (omega arith)
    at false e g more = elim (cases_eq k (suc n)) [ inl same ↦ ap passes same ∙ e | inr differs ↦ more g (omega arith) ]

  pub greatest-whole : (n : ℕ) → passes n ≡ true → greatest passes n ≡ n
  greatest-whole zero h = refl
  greatest-whole (suc n) h = rw h refl

  pub greatest-within : (n : ℕ) → greatest passes n ≤ n
  greatest-within zero = omega arith
  greatest-within (suc n) = elim (passes (suc n)) as (λ b. cond b (suc n) (greatest passes n) ≤ suc n) [ true ↦ omega arith | false ↦ omega (arith, greatest-within n) ]

none_last : (range : List Act) → is_closed (last 0 range) ≡ true
none_last range = let e : length range - 0 ≡ length range = omega arith in ap (λ (n : ℕ). is_closed (drop n range)) e ∙ ap is_closed (drop-length range)

none_first : (range : List Act) → is_closed (take 0 range) ≡ true
none_first [] = refl
none_first (a ∷ range) = refl

pub closed_prefix-closed : (range : List Act) → IsTrue (is_closed (take (closed_prefix range) range))
closed_prefix-closed range = greatest-passes (λ n. is_closed (take n range)) (length range) (none_first range)

pub closed_prefix-most : (range : List Act) (n : ℕ) → closed_prefix range < n → n ≤ length range → IsFalse (is_closed (take n range))
closed_prefix-most range n below within = greatest-most (λ n. is_closed (take n range)) (length range) n below within

pub closed_suffix-closed : (range : List Act) → IsTrue (is_closed (last (closed_suffix range) range))
closed_suffix-closed range = greatest-passes (λ n. is_closed (last n range)) (length range) (none_last range)

pub closed_suffix-most : (range : List Act) (n : ℕ) → closed_suffix range < n → n ≤ length range → IsFalse (is_closed (last n range))
closed_suffix-most range n below within = greatest-most (λ n. is_closed (last n range)) (length range) n below within

-- a range that is closed is its own part
drop_none : (n : ℕ) (range : List Act) → n ≡ 0 → drop n range ≡ range
drop_none n range e = ap (λ (m : ℕ). drop m range) e ∙ at range where
  at : (range : List Act) → drop 0 range ≡ range
  at [] = refl
  at (a ∷ range) = refl

pub last-whole : (range : List Act) → last (length range) range ≡ range
last-whole range = drop_none (length range - length range) range (omega arith)

pub closed_suffix-whole : (range : List Act) → IsTrue (is_closed range) → closed_suffix range ≡ length range
closed_suffix-whole range h = greatest-whole (λ n. is_closed (last n range)) (length range) (ap is_closed (last-whole range) ∙ h)

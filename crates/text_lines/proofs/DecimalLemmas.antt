-- Digits one by one: each is one more, and a number that has passed the limit stays past it.
use Rattle.std.proofs.Common.{◌≡◌, ℕ, ◌+◌, ◌-◌, ◌*◌, ◌<◌, true, false, cond, List, [], ◌∷◌, length, drop, get_or, None, refl, ap, ◌∙◌, arith, drop-cons, suc}
use Rattle.std.proofs.lemmas.Bool.Decides.{nat_tests}
use Rattle.text_lines.specs.Decimal.{digits_from, is_digit}

-- past the limit there is no number
pub digits_from-past : (limit n : ℕ) (digits : List ℕ) → limit < n → digits_from limit n digits ≡ None
digits_from-past limit n [] past = grind (arith, nat_tests)
digits_from-past limit n (d ∷ ds) past =
    elim (is_digit d) as (λ v. cond v (digits_from limit (10 * n + (d - 48)) ds) None ≡ None) [ true ↦ digits_from-past limit (10 * n + (d - 48)) ds (omega arith) | false ↦ refl ]

-- a digit that passes the limit leaves no number
pub digits_from-ends : (limit n i : ℕ) (digits : List ℕ) → i < length digits → is_digit (get_or digits i 0) ≡ true → limit < 10 * n + (get_or digits i 0 - 48) → digits_from limit n (drop i digits) ≡ None
digits_from-ends limit n i digits within digit past =
    rw (drop-cons digits i 0) (ap (λ v. cond v (digits_from limit (10 * n + (get_or digits i 0 - 48)) (drop (suc i) digits)) None) digit ∙ digits_from-past limit (10 * n + (get_or digits i 0 - 48)) (drop (suc i) digits) past)

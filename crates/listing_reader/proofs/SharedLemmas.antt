-- How many lines two texts begin with alike: at most as many as either has characters. And whether two texts are the same.
use Rattle.std.proofs.Common.{◌≡◌, ◌≢◌, ℕ, suc, ◌≤◌, true, false, cond, ◌==◌, List, [], ◌∷◌, length, sym, ap, ◌∙◌, nat_eq, arith}
use Rattle.std.specs.Cmp.Lexicographic.{pointwise}
use Rattle.std.proofs.lemmas.Bool.{false≢true}
use Rattle.listing_reader.specs.FirstBad.{shared_lines}
use Rattle.listing_reader.proofs.ParameterLemmas.{same-words}

pub shared-within : (text others : List ℕ) → shared_lines text others ≤ length text
shared-within [] others = omega arith
shared-within (c ∷ text) [] = omega arith
shared-within (c ∷ text) (d ∷ others) =
    let rest = shared-within text others in
    elim (c == d) as (λ v. cond v (cond (c == 10) (suc (shared_lines text others)) (shared_lines text others)) 0 ≤ suc (length text)) [
      | true ↦ elim (c == 10) as (λ v. cond v (suc (shared_lines text others)) (shared_lines text others) ≤ suc (length text)) [ true ↦ omega (arith, rest) | false ↦ omega (arith, rest) ]
      | false ↦ omega arith
    ]

pub other-texts : (a b : List ℕ) → pointwise nat_eq a b ≡ false → a ≢ b
other-texts a b tested same = absurd (false≢true (sym tested ∙ (ap (pointwise nat_eq a) (sym same) ∙ same-words a)))

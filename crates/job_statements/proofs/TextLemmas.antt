-- The texts of lines, one line more: it is skipped, it goes on with the next, or it ends its statement.
use Rattle.std.proofs.Common.{◌≡◌, ℕ, ◌+◌, ◌-◌, ◌<◌, ◌≤◌, true, false, Option, Some, None, List, ◌∷◌, length, reverse, get_or, eqb, sym, ap, ◌∙◌, arith, subst, cond}
use Rattle.std.proofs.lemmas.Bool.{ne_eqb, cond-true, cond-false}
use Rattle.std.proofs.lemmas.List.{get_or-reverse, get_or_past, length-reverse}
use Rattle.std.proofs.lemmas.List.Sums.{prefix_len-le-length}
use Rattle.std.proofs.lemmas.List.Folds.{length-prefix_len}
use Rattle.job_statements.specs.Texts.{Begun, StatementText, end_blanks, goes_on, before_sign, skips, begun_with, whole_text, texts_from}

-- how many characters of a kind stand at the front of a text
pub ruleset counted = (length-prefix_len, prefix_len-le-length)

-- a line of blanks has no sign
pub no_sign-blank : (line : List ℕ) (n : ℕ) → n ≡ end_blanks line → length line ≤ n → goes_on line ≡ false
no_sign-blank line n here past =
    let P : ℕ → Type 0 = λ k. eqb (get_or (reverse line) k 0) 43 ≡ false in
    subst P here (ap (λ c. eqb c 43) (get_or_past (reverse line) n 0 (omega (arith, length-reverse line))))

-- a line that ends in another character
pub no_sign-other : (line : List ℕ) (n : ℕ) → n ≡ end_blanks line → n < length line → (get_or line (length line - 1 - n) 0 ≡ 43 → ⊥) → goes_on line ≡ false
no_sign-other line n here within other =
    let P : ℕ → Type 0 = λ k. eqb (get_or (reverse line) k 0) 43 ≡ false in
    subst P here (ap (λ c. eqb c 43) (get_or-reverse line n 0 within) ∙ ne_eqb (get_or line (length line - 1 - n) 0) 43 other)

-- the texts of a line that belongs to a statement, and of those behind it
abbrev kept_from : Option Begun → ℕ → List ℕ → List (List ℕ) → List StatementText
kept_from begun number line lines =
    cond (goes_on line) (texts_from (Some (begun_with begun number (before_sign line))) (number + 1) lines)
    (whole_text (begun_with begun number line) ∷ texts_from None (number + 1) lines)

pub texts-skipped : (begun : Option Begun) (number : ℕ) (line : List ℕ) (lines : List (List ℕ)) → skips begun line ≡ true → texts_from begun number (line ∷ lines) ≡ texts_from begun (number + 1) lines
unfolding texts_from
texts-skipped begun number line lines skipped =
    cond-true (skips begun line) (texts_from begun (number + 1) lines) (kept_from begun number line lines) skipped

texts-kept : (begun : Option Begun) (number : ℕ) (line : List ℕ) (lines : List (List ℕ)) → skips begun line ≡ false
    → texts_from begun number (line ∷ lines) ≡ kept_from begun number line lines
unfolding texts_from
texts-kept begun number line lines kept =
    cond-false (skips begun line) (texts_from begun (number + 1) lines) (kept_from begun number line lines) kept

pub texts-added : (begun after : Option Begun) (number : ℕ) (line piece : List ℕ) (lines : List (List ℕ)) → skips begun line ≡ false → goes_on line ≡ true → piece ≡ before_sign line
    → after ≡ Some (begun_with begun number piece) → texts_from after (number + 1) lines ≡ texts_from begun number (line ∷ lines)
texts-added begun after number line piece lines kept more piece_is added =
    ap (λ b. texts_from b (number + 1) lines) (added ∙ ap (λ p. Some (begun_with begun number p)) piece_is)
    ∙ sym (texts-kept begun number line lines kept
    ∙ cond-true (goes_on line) (texts_from (Some (begun_with begun number (before_sign line))) (number + 1) lines)
    (whole_text (begun_with begun number line) ∷ texts_from None (number + 1) lines) more)

pub texts-ended : (begun : Option Begun) (number : ℕ) (line : List ℕ) (lines : List (List ℕ)) → skips begun line ≡ false → goes_on line ≡ false
    → whole_text (begun_with begun number line) ∷ texts_from None (number + 1) lines ≡ texts_from begun number (line ∷ lines)
texts-ended begun number line lines kept ends =
    sym (texts-kept begun number line lines kept
    ∙ cond-false (goes_on line) (texts_from (Some (begun_with begun number (before_sign line))) (number + 1) lines)
    (whole_text (begun_with begun number line) ∷ texts_from None (number + 1) lines) ends)

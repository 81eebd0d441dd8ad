-- The loops of readers: what is read so far, and what is still to be read.
use Rattle.std.proofs.Common.{◌≡◌, ℕ, get_or, ◌+◌, ◌-◌, ◌*◌, ◌<◌, true, false, cond, ◌==◌, nat_le, List, [], ◌∷◌, length, drop, drop-cons, add-one, Option, Some, None, refl, sym, ap, ◌∙◌, arith}
use Rattle.std.proofs.lemmas.Bool.{and_parts, leb-true}
use Rattle.std.proofs.lemmas.Bool.Decides.{nat_tests}
use Rattle.text_lines.specs.Decimal.{is_digit}
use Rattle.statement_reader.specs.Lists.{onto_others, each, with_front}
use Rattle.statement_reader.proofs.ListLemmas.{with_front_end}
use Rattle.listing_words.specs.Values.{units_after}

module _ {A B : Type 0} (f : A → Option B) where
  -- one that gives nothing
  pub stopped : (front : List B) (left : List A) (x : A) (xs all : List A) → left ≡ x ∷ xs → None ≡ f x → with_front front (each f left) ≡ each f all → None ≡ each f all
  stopped front left x xs all first none here =
      sym (ap (λ y. with_front front (onto_others y (each f xs))) (sym none)) ∙ ap (λ l. with_front front (each f l)) (sym first) ∙ here

  -- nothing left
  pub ended : (front : List B) (left all : List A) → left ≡ [] → with_front front (each f left) ≡ each f all → Some front ≡ each f all
  ended front left all nothing here = sym (with_front_end front) ∙ ap (λ l. with_front front (each f l)) (sym nothing) ∙ here

-- past the limit there is no number
pub past : (limit number : ℕ) (text : List ℕ) → limit < number → units_after limit number text ≡ None
past limit number [] large = grind (arith, nat_tests)
past limit number (d ∷ text) large =
    elim (d == 46) as (λ v. cond v (units_after limit number text) (cond (is_digit d) (units_after limit (10 * number + (d - 48)) text) None) ≡ None) [
      | true ↦ past limit number text large
      | false ↦ (elim (is_digit d) as (λ v. cond v (units_after limit (10 * number + (d - 48)) text) None ≡ None) [ true ↦ past limit (10 * number + (d - 48)) text (omega arith) | false ↦ refl ])
    ]

-- a digit with which the number is past the limit
pub too-large : (limit number digit : ℕ) (rest : List ℕ) → is_digit digit ≡ true → limit < 10 * number + (digit - 48) → units_after limit number (digit ∷ rest) ≡ None
too-large limit number digit rest tested large =
    let parts = and_parts (nat_le 48 digit) (nat_le digit 57) tested in
    let point : digit == 46 ≡ false = grind (arith, nat_tests, leb-true 48 digit parts.0) in
    ap (λ v. cond v (units_after limit number rest) (cond (is_digit digit) (units_after limit (10 * number + (digit - 48)) rest) None)) point
    ∙ ap (λ v. cond v (units_after limit (10 * number + (digit - 48)) rest) None) tested ∙ past limit (10 * number + (digit - 48)) rest large

-- the next digit of a text
pub next-units : (limit number i : ℕ) (text : List ℕ) (after : List ℕ → Option ℕ) (all : Option ℕ) → i < length text → ((rest : List ℕ) → units_after limit number (get_or text i 0 ∷ rest) ≡ after rest) → units_after limit number (drop i text) ≡ all → after (drop (i + 1) text) ≡ all
next-units limit number i text after all within step here =
    let split : drop i text ≡ get_or text i 0 ∷ drop (i + 1) text = rw (add-one, drop-cons text i 0) in
    sym (ap (units_after limit number) split ∙ step (drop (i + 1) text)) ∙ here

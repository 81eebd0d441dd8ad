-- Fronts of a line, and what stands behind them.
use Rattle.std.proofs.Common.{◌≡◌, ℕ, List, [], ◌∷◌, ◌++◌, Option, Some, None, eqb, refl, sym, ap, ◌∙◌, eq-eqb, eqb-true, option_copied, MatchOption, ◌≢◌, ⊎_elim, Bor}
use Rattle.std.proofs.lemmas.Bool.{cases_Bool, cond-true, cond-false}
use Rattle.std.proofs.lemmas.Option.{same_Some}
use Rattle.input_cards.specs.Cards.{behind}

-- what stands behind a front is what was put there
behind-append : (front text : List ℕ) → behind front (front ++ text) ≡ Some text
behind-append [] text = refl
behind-append (p ∷ ps) text = cond-true (eqb p p) (behind ps (ps ++ text)) None (eq-eqb p p refl) ∙ behind-append ps text

-- a text is a front and what stands behind it
behind-is : (front text rest : List ℕ) → behind front text ≡ Some rest → text ≡ front ++ rest
behind-is [] text rest h = same_Some text rest h
behind-is (p ∷ ps) [] rest h = absurd cc
behind-is (p ∷ ps) (b ∷ bs) rest h = ⊎_elim
    (λ same.
    let front : b ≡ p = eqb-true b p same in
    let others : bs ≡ ps ++ rest = behind-is ps bs rest (sym (cond-true (eqb b p) (behind ps bs) None same) ∙ h) in
    (λ i. front i ∷ others i))
    (λ other. absurd (let none : None ≡ Some rest = sym (cond-false (eqb b p) (behind ps bs) None other) ∙ h in cc))
    (cases_Bool (eqb b p))

none_from : (r : Option (List ℕ)) → ((x : List ℕ) → r ≡ Some x → ⊥) → r ≡ None
none_from None h = refl
none_from (Some x) h = absurd (h x refl)

-- what `strip_prefix` gives
pub stripped : (text front : List ℕ) (r : Option (Bor (List ℕ))) → MatchOption r ((rest : List ℕ) → text ≢ front ++ rest) (λ x. text ≡ front ++ x.now) → option_copied r ≡ behind front text
stripped text front None other = sym (none_from (behind front text) (λ rest h. other rest (behind-is front text rest h)))
stripped text front (Some x) same = sym (ap (behind front) same ∙ behind-append front x.now)

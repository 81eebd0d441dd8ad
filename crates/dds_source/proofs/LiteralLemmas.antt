-- Literals in apostrophes, written and read.
use Rattle.std.proofs.Common.{◌≡◌, ℕ, false, ◌==◌, List, [], ◌∷◌, ◌++◌, Some, refl, ap, inl, inr}
use Rattle.std.specs.Option.{option_map}
use Rattle.std.proofs.lemmas.Bool.{cases_Bool, eqb-true}
use Rattle.dds_source.specs.ArgumentTexts.{text_behind, quoted_text}
use Rattle.dds_source.specs.Written.{doubled, literal}

text_behind-doubled : (text : List ℕ) → text_behind false (doubled text ++ 39 ∷ []) ≡ Some text
text_behind-doubled [] = refl
text_behind-doubled (c ∷ cs) = elim (cases_Bool (c == 39)) [
  | inl e ↦ rw (eqb-true c 39 e) (ap (option_map (λ (t : List ℕ). 39 ∷ t)) (text_behind-doubled cs))
  | inr e ↦ rw (e, e) (ap (option_map (λ (t : List ℕ). c ∷ t)) (text_behind-doubled cs))
]

pub quoted_text-literal : (text : List ℕ) → quoted_text (literal text) ≡ Some text
quoted_text-literal text = text_behind-doubled text

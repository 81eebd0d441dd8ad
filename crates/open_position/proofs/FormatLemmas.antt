-- The positions of two formats together, place by place.
use Rattle.std.proofs.Common.{◌≡◌, ℕ, zero, suc, ◌+◌, ◌≤◌, ◌<◌, ◌⊎◌, nat_lt, max, Bool, true, false, append_assoc, inl, inr, ◌++◌, List, [], ◌∷◌, None, length, drop, slice_get, refl, sym, subst, ◌∙◌, ap, arith}
use Rattle.std.proofs.lemmas.Bool.{ltb-false, ltb-true}
use Rattle.key_spec.specs.declared.KeyPart.{KeyPart}
use Rattle.file_model.specs.KeyOrder.{either_parts}
use Rattle.open_position.specs.Kept.{either_at}

none-left : {A : Type 0} (n : ℕ) → drop {A = A} n [] ≡ []
none-left zero = refl
none-left (suc n) = refl

-- at a place of one of them
pub either-step : (place : ℕ) (parts others : List KeyPart) → (place < length parts) ⊎ (place < length others)
    → either_parts (drop place parts) (drop place others) ≡ either_at (slice_get parts place) (slice_get others place) ∷ either_parts (drop (suc place) parts) (drop (suc place) others)
either-step zero [] [] within = absurd (elim within [
  | inl low ↦ omega (arith, low)
  | inr low ↦ omega (arith, low)
])
either-step zero [] (other ∷ others) within = refl
either-step zero (part ∷ parts) [] within = either-none part parts
  where
    either-none : (part : KeyPart) (parts : List KeyPart) → part ∷ parts ≡ part ∷ either_parts parts []
    either-none part [] = refl
    either-none part (other ∷ more) = refl
either-step zero (part ∷ parts) (other ∷ others) within = refl
either-step (suc n) [] [] within = absurd (elim within [
  | inl low ↦ omega (arith, low)
  | inr low ↦ omega (arith, low)
])
either-step (suc n) [] (other ∷ others) within =
    subst (λ (ps : List KeyPart). either_parts ps (drop n others) ≡ either_at None (slice_get others n) ∷ drop (suc n) others) (none-left n)
    (either-step n [] others (elim within [
      | inl low ↦ absurd (omega (arith, low))
      | inr low ↦ inr (omega (arith, low))
    ]))
either-step (suc n) (part ∷ parts) [] within =
    subst (λ (ps : List KeyPart). either_parts (drop n parts) ps ≡ either_at (slice_get parts n) None ∷ either_parts (drop (suc n) parts) []) (none-left n)
    (either-step n parts [] (elim within [
      | inl low ↦ inl (omega (arith, low))
      | inr low ↦ absurd (omega (arith, low))
    ]))
either-step (suc n) (part ∷ parts) (other ∷ others) within = either-step n parts others (elim within [
  | inl low ↦ inl (omega (arith, low))
  | inr low ↦ inr (omega (arith, low))
])

-- behind the last place of both nothing is left
pub either-end : (place : ℕ) (parts others : List KeyPart) → length parts ≤ place → length others ≤ place → either_parts (drop place parts) (drop place others) ≡ []
either-end zero [] [] few also = refl
either-end zero [] (other ∷ others) few also = absurd (omega (arith, also))
either-end zero (part ∷ parts) others few also = absurd (omega (arith, few))
either-end (suc n) [] [] few also = refl
either-end (suc n) [] (other ∷ others) few also = subst (λ (ps : List KeyPart). either_parts ps (drop n others) ≡ []) (none-left n) (either-end n [] others (omega arith) (omega (arith, also)))
either-end (suc n) (part ∷ parts) [] few also = subst (λ (ps : List KeyPart). either_parts (drop n parts) ps ≡ []) (none-left n) (either-end n parts [] (omega (arith, few)) (omega arith))
either-end (suc n) (part ∷ parts) (other ∷ others) few also = either-end n parts others (omega (arith, few)) (omega (arith, also))

-- one place more
pub either-next : (place : ℕ) (parts others made more : List KeyPart) (part : KeyPart) → place < max (length parts) (length others)
    → part ≡ either_at (slice_get parts place) (slice_get others place) → more ≡ made ++ part ∷ []
    → made ++ either_parts (drop place parts) (drop place others) ≡ either_parts parts others → more ++ either_parts (drop (place + 1) parts) (drop (place + 1) others) ≡ either_parts parts others
either-next place parts others made more part within is pushed so_far =
    let rest : List KeyPart = either_parts (drop (suc place) parts) (drop (suc place) others) in
    let next : place + 1 ≡ suc place = omega arith in
    (λ i. pushed i ++ either_parts (drop (next i) parts) (drop (next i) others))
    ∙ append_assoc made (part ∷ []) rest
    ∙ ap (λ (p : KeyPart). made ++ p ∷ rest) is
    ∙ ap (λ (ps : List KeyPart). made ++ ps) (sym (either-step place parts others (one-of (nat_lt place (length parts)) refl)))
    ∙ so_far
  where
    one-of : (b : Bool) → nat_lt place (length parts) ≡ b → (place < length parts) ⊎ (place < length others)
    one-of true is = inl (ltb-true place (length parts) is)
    one-of false is = inr (omega (arith, within, ltb-false place (length parts) is))

-- Values set back, the last change first.
use Rattle.std.proofs.Common.{◌≡◌, ℕ, zero, suc, List, [], ◌∷◌, ◌++◌, slice_set, get_or, refl, ◌∙◌, ap}
use Rattle.field_types.specs.declared.values.Value.{Value}
use Rattle.job_language.specs.declared.variables.Change.{Change}
use Rattle.job_language.specs.Variables.{without}

-- one change more is undone first
pub without-more : (changes : List Change) (change : Change) (values : List Value) → without (changes ++ change ∷ []) values ≡ without changes (slice_set values change.variable change.before)
without-more [] change values = refl
without-more (c ∷ changes) change values = ap (λ v. slice_set v c.variable c.before) (without-more changes change values)

-- a value set and set back
pub slice_set-back : (values : List Value) (i : ℕ) (x y : Value) → y ≡ get_or values i y → slice_set (slice_set values i x) i y ≡ values
slice_set-back [] i x y is = refl
slice_set-back (v ∷ values) zero x y is = ap (λ z. z ∷ values) is
slice_set-back (v ∷ values) (suc i) x y is = ap (λ vs. v ∷ vs) (slice_set-back values i x y is)

pub without-set : (changes : List Change) (values : List Value) (i : ℕ) (x y : Value) → y ≡ get_or values i y → without (changes ++ record { variable = i; before = y } ∷ []) (slice_set values i x) ≡ without changes values
without-set changes values i x y is =
    without-more changes (record { variable = i; before = y }) (slice_set values i x) ∙ ap (without changes) (slice_set-back values i x y is)

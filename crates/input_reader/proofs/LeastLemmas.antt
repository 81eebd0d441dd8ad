-- The least of lists of lines.
use Rattle.std.proofs.Common.{◌≡◌, ℕ, Option, Some, None, List, [], ◌∷◌, ◌++◌, refl, sym, ap, ◌∙◌, arith}
use Rattle.std.specs.Prelude.{min}
use Rattle.script_builder.specs.Least.{lesser, least}

pub lesser_assoc : (a b c : Option ℕ) → lesser (lesser a b) c ≡ lesser a (lesser b c)
lesser_assoc None b c = refl
lesser_assoc (Some a) None c = refl
lesser_assoc (Some a) (Some b) None = refl
lesser_assoc (Some a) (Some b) (Some c) = let same : min (min a b) c ≡ min a (min b c) = omega arith in ap (λ n. Some n) same

pub least-append : (xs ys : List ℕ) → least (xs ++ ys) ≡ lesser (least xs) (least ys)
least-append [] ys = refl
least-append (x ∷ xs) ys = ap (lesser (Some x)) (least-append xs ys) ∙ sym (lesser_assoc (Some x) (least xs) (least ys))

-- where there is no less of two, neither is there
pub lesser-none : (a b : Option ℕ) → lesser a b ≡ None → (a ≡ None) × (b ≡ None)
lesser-none None b is = (refl, is)
lesser-none (Some a) None is = absurd cc
lesser-none (Some a) (Some b) is = absurd cc

-- what has no least is empty
pub least-none : (xs : List ℕ) → least xs ≡ None → xs ≡ []
least-none [] is = refl
least-none (x ∷ xs) is = absurd (let parts = lesser-none (Some x) (least xs) is in let first : Some x ≡ None = parts.0 in cc)

pub both-empty : (xs ys : List ℕ) → xs ++ ys ≡ [] → (xs ≡ []) × (ys ≡ [])
both-empty [] ys is = (refl, is)
both-empty (x ∷ xs) ys is = absurd cc

-- The less of two numbers, and the least of some.
use Rattle.std.proofs.Common.{◌≡◌, ℕ, Option, Some, None, List, [], ◌∷◌, ◌++◌, refl, sym, ap, ◌∙◌, inl, arith}
use Rattle.std.specs.Prelude.{◌⊎◌, min, IfSome, IfNone}
use Rattle.script_builder.specs.Least.{lesser, least}

lesser_assoc : (a b c : Option ℕ) → lesser (lesser a b) c ≡ lesser a (lesser b c)
lesser_assoc None b c = refl
lesser_assoc (Some a) None c = refl
lesser_assoc (Some a) (Some b) None = refl
lesser_assoc (Some a) (Some b) (Some c) = let same : min (min a b) c ≡ min a (min b c) = omega arith in ap (λ n. Some n) same

least-append : (xs ys : List ℕ) → least (xs ++ ys) ≡ lesser (least xs) (least ys)
least-append [] ys = refl
least-append (x ∷ xs) ys = ap (lesser (Some x)) (least-append xs ys) ∙ sym (lesser_assoc (Some x) (least xs) (least ys))

lesser-some : (x : ℕ) (b : Option ℕ) → lesser (Some x) b ≡ None → ⊥
lesser-some x None is = cc
lesser-some x (Some y) is = cc

-- what has no least is empty
pub least-none : (xs : List ℕ) → least xs ≡ None → xs ≡ []
least-none [] is = refl
least-none (x ∷ xs) is = absurd (lesser-some x (least xs) is)

pub least-five : (a b c d e : List ℕ) → least (a ++ b ++ c ++ d ++ e) ≡ lesser (lesser (lesser (lesser (least a) (least b)) (least c)) (least d)) (least e)
least-five a b c d e =
    least-append (a ++ b ++ c ++ d) e
    ∙ ap (λ x. lesser x (least e)) (least-append (a ++ b ++ c) d
    ∙ ap (λ x. lesser x (least d)) (least-append (a ++ b) c
    ∙ ap (λ x. lesser x (least c)) (least-append a b)))

-- a line that is the least of some, and what it means that there is none
pub least-some : (first : Option ℕ) (xs : List ℕ) → first ≡ least xs → IfSome first (λ line. least xs ≡ Some line)
least-some None xs is = tt
least-some (Some line) xs is = sym is

pub least-empty : (first : Option ℕ) (xs : List ℕ) (P : Type 0) → first ≡ least xs → IfNone first ((xs ≡ []) ⊎ P)
least-empty None xs P is = inl (least-none xs (sym is))
least-empty (Some line) xs P is = tt

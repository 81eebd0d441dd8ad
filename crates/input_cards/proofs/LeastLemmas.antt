-- The least of lists of lines.
use Rattle.std.proofs.Common.{◌≡◌, ℕ, Option, Some, None, List, [], ◌∷◌, ◌++◌, refl, sym, ap, ◌∙◌, arith}
use Rattle.std.specs.Prelude.{min}
use Rattle.script_builder.specs.Least.{lesser, least}

lesser_assoc : (a b c : Option ℕ) → lesser (lesser a b) c ≡ lesser a (lesser b c)
lesser_assoc None b c = refl
lesser_assoc (Some a) None c = refl
lesser_assoc (Some a) (Some b) None = refl
lesser_assoc (Some a) (Some b) (Some c) = let same : min (min a b) c ≡ min a (min b c) = omega arith in ap (λ n. Some n) same

pub least-append : (xs ys : List ℕ) → least (xs ++ ys) ≡ lesser (least xs) (least ys)
least-append [] ys = refl
least-append (x ∷ xs) ys = ap (lesser (Some x)) (least-append xs ys) ∙ sym (lesser_assoc (Some x) (least xs) (least ys))

pub least-four : (a b c d : List ℕ) → least (a ++ b ++ c ++ d) ≡ lesser (lesser (lesser (least a) (least b)) (least c)) (least d)
least-four a b c d =
    least-append (a ++ b ++ c) d
    ∙ ap (λ x. lesser x (least d)) (least-append (a ++ b) c
    ∙ ap (λ x. lesser x (least c)) (least-append a b))

pub least-six : (a b c d e f : List ℕ) → least (a ++ b ++ c ++ d ++ e ++ f) ≡ lesser (lesser (lesser (lesser (lesser (least a) (least b)) (least c)) (least d)) (least e)) (least f)
least-six a b c d e f =
    least-append (a ++ b ++ c ++ d ++ e) f
    ∙ ap (λ x. lesser x (least f)) (least-append (a ++ b ++ c ++ d) e
    ∙ ap (λ x. lesser x (least e)) (least-four a b c d))

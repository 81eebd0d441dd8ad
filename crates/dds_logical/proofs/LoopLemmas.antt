-- What loops note and keep, one step after another.
use Rattle.std.proofs.Common.{◌≡◌, ◌∙◌, ◌<◌, ◌+◌, ℕ, zero, suc, ap, sym, refl, List, [], ◌∷◌, ◌++◌, length, take, drop, get_or, flat_map, Option, add-one, arith}
use Rattle.std.proofs.lemmas.List.{append_assoc, append-nil}
use Rattle.dds_physical.below.dds_source.specs.declared.faults.DdsFault.{DdsFault}
use Rattle.dds_physical.specs.Faults.{first_after}
use Rattle.dds_physical.proofs.FaultLemmas.{first_after_append, cons-parts}

-- the first of a list was noted, and those behind it are left
pub noted-split : {X : Type 0} (best new total : Option DdsFault) (step : X → List X → List DdsFault) (all : List X → List DdsFault) → ((x : X) (xs : List X) → step x xs ++ all xs ≡ all (x ∷ xs))
    → (xs here more : List X) (x : X) → 0 < length xs → here ≡ take 1 xs → more ≡ drop 1 xs → x ≡ get_or here 0 x → new ≡ first_after best (step x more) → first_after best (all xs) ≡ total → first_after new (all more) ≡ total
noted-split {X} best new total step all joins [] here more x some front back is noted before = absurd (omega arith)
noted-split {X} best new total step all joins (y ∷ ys) here more x some front back is noted before =
    let same : x ≡ y = is ∙ ap (λ (hs : List X). get_or hs 0 x) front in
    let parts : x ∷ more ≡ y ∷ ys = ap (λ (z : X). z ∷ more) same ∙ ap (λ (zs : List X). y ∷ zs) back in
    ap (λ (b : Option DdsFault). first_after b (all more)) noted ∙ sym (first_after_append best (step x more) (all more))
    ∙ ap (first_after best) (joins x more ∙ ap all parts) ∙ before

pub drop-here : {X : Type 0} (xs : List X) (i : ℕ) (x : X) → i < length xs → x ≡ get_or xs i x → drop i xs ≡ x ∷ drop (suc i) xs
drop-here [] i x lt is = absurd (omega (arith, lt))
drop-here {X} (y ∷ ys) zero x lt is = ap (λ (z : X). z ∷ ys) (sym is)
drop-here (y ∷ ys) (suc i) x lt is = drop-here ys i x (omega (arith, lt)) is

-- what a step notes of each of a list
pub noted-step : {X : Type 0} (best new total : Option DdsFault) (step : X → List DdsFault) (xs : List X) (i : ℕ) (x : X) → i < length xs → x ≡ get_or xs i x
    → new ≡ first_after best (step x) → first_after best (flat_map step (drop i xs)) ≡ total → first_after new (flat_map step (drop (i + 1) xs)) ≡ total
noted-step {X} best new total step xs i x lt is noted before =
    ap (λ (n : ℕ). first_after new (flat_map step (drop n xs))) (add-one i)
    ∙ ap (λ (b : Option DdsFault). first_after b (flat_map step (drop (suc i) xs))) noted
    ∙ sym (first_after_append best (step x) (flat_map step (drop (suc i) xs)))
    ∙ ap (λ (ys : List X). first_after best (flat_map step ys)) (sym (drop-here xs i x lt is)) ∙ before

-- ---- what a step adds

pub kept-one : {X Y : Type 0} (old new total : List Y) (here : List Y) (all : List X → List Y) (xs : List X) (i : ℕ) (x : X) → i < length xs → x ≡ get_or xs i x
    → new ≡ old ++ here → here ++ all (drop (suc i) xs) ≡ all (x ∷ drop (suc i) xs) → old ++ all (drop i xs) ≡ total → new ++ all (drop (i + 1) xs) ≡ total
kept-one {X} {Y} old new total here all xs i x lt is added joins before =
    ap (λ (n : ℕ). new ++ all (drop n xs)) (add-one i) ∙ ap (λ (ys : List Y). ys ++ all (drop (suc i) xs)) added ∙ append_assoc old here (all (drop (suc i) xs))
    ∙ ap (λ (ys : List Y). old ++ ys) joins ∙ ap (λ (zs : List X). old ++ all zs) (sym (drop-here xs i x lt is)) ∙ before

-- nothing more is added from a place on
pub kept-ended : {X Y : Type 0} (new total : List Y) (all : List X → List Y) (xs : List X) (i : ℕ) (x : X) → i < length xs → x ≡ get_or xs i x
    → all (x ∷ drop (suc i) xs) ≡ [] → new ++ all (drop i xs) ≡ total → new ≡ total
kept-ended {X} {Y} new total all xs i x lt is ended before =
    sym (append-nil new) ∙ ap (λ (ys : List Y). new ++ ys) (sym ended) ∙ ap (λ (zs : List X). new ++ all zs) (sym (drop-here xs i x lt is)) ∙ before

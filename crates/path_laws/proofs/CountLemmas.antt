-- A list has at most as many different paths as specifications; one more counts where it isn't there yet.
use Rattle.std.proofs.Common.{◌≡◌, refl, sym, ap, ◌≤◌, ◌<◌, ℕ, zero, suc, ◌+◌, Bool, true, false, ◌||◌, cond, List, [], ◌∷◌, length, slice_index_or, Contains, ◌⊎◌, inl, inr, ⊎_elim, arith}
use Rattle.std.specs.List.{list_any}
use Rattle.std.proofs.lemmas.Bool.{false≢true}
use Rattle.file_model.specs.declared.paths.PathSpec.{PathSpec}
use Rattle.logical_model.specs.SamePaths.{same_path, count_paths}
use Rattle.path_laws.proofs.PathLemmas.{path-told, path-decides}

-- ---- is a specification there?

pub there-told : (p : PathSpec) (paths : List PathSpec) → list_any (same_path p) paths ≡ true → Contains paths p
there-told p [] there = absurd (false≢true there)
there-told p (q ∷ paths) there = by (same_path p q) refl there (λ h. there-told p paths h)
  where
    by : (b : Bool) → same_path p q ≡ b → (b || list_any (same_path p) paths) ≡ true → (list_any (same_path p) paths ≡ true → Contains paths p) → Contains (q ∷ paths) p
    by true same h later = (0, omega arith, sym (path-told p q same))
    by false apart h later = let rest = later h in let lt = rest.1 in (suc rest.0, omega arith, rest.2)

-- its place is before those of the rest, or in them
here-or : (p q : PathSpec) (paths : List PathSpec) → Contains (q ∷ paths) p → (p ≡ q) ⊎ Contains paths p
here-or p q paths found = by found.0 found.1 found.2
  where
    by : (k : ℕ) → k < length (q ∷ paths) → slice_index_or (q ∷ paths) k p ≡ p → (p ≡ q) ⊎ Contains paths p
    by zero lt at = inl (sym at)
    by (suc k) lt at = inr (k, omega arith, at)

or-true : (b c : Bool) → c ≡ true → (b || c) ≡ true
or-true true c there = refl
or-true false c there = there

here : (p q : PathSpec) (paths : List PathSpec) → p ≡ q → list_any (same_path p) (q ∷ paths) ≡ true
here p q paths same = λ i. (path-decides p q).1 same i || list_any (same_path p) paths

pub there-own : (p : PathSpec) (paths : List PathSpec) → Contains paths p → list_any (same_path p) paths ≡ true
there-own p [] found = let lt = found.1 in absurd (omega arith)
there-own p (q ∷ paths) found =
    ⊎_elim (here p q paths) (λ rest. or-true (same_path p q) (list_any (same_path p) paths) (there-own p paths rest)) (here-or p q paths found)

-- ---- how many are there?

pub count-most : (paths : List PathSpec) → count_paths paths ≤ length paths
count-most [] = omega arith
count-most (p ∷ paths) = by (list_any (same_path p) paths) (count-most paths)
  where
    by : (b : Bool) → count_paths paths ≤ length paths → cond b (count_paths paths) (count_paths paths + 1) ≤ length (p ∷ paths)
    by true most = omega arith
    by false most = omega arith

pub count-there : (p : PathSpec) (paths : List PathSpec) → Contains paths p → count_paths (p ∷ paths) ≡ count_paths paths
count-there p paths found = ap (λ (b : Bool). cond b (count_paths paths) (count_paths paths + 1)) (there-own p paths found)

pub count-new : (p : PathSpec) (paths : List PathSpec) → (Contains paths p → ⊥) → count_paths (p ∷ paths) ≡ count_paths paths + 1
count-new p paths none = ap (λ (b : Bool). cond b (count_paths paths) (count_paths paths + 1)) (by (list_any (same_path p) paths) refl)
  where
    by : (b : Bool) → list_any (same_path p) paths ≡ b → b ≡ false
    by true there = absurd (none (there-told p paths there))
    by false there = refl

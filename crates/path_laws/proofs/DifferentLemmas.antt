-- As many different paths are counted as stand in a list of different ones that are the same.
use Rattle.std.proofs.Common.{◌≡◌, ◌≢◌, refl, sym, ap, ◌∙◌, subst, zero, suc, ◌+◌, Bool, true, false, cond, not, List, [], ◌∷◌, length, Contains, ◌⊎◌, inl, inr, arith}
use Rattle.std.specs.Prelude.{AllPairs, filter}
use Rattle.std.specs.List.{AllByRecursion, list_any}
use Rattle.std.proofs.lemmas.List.Elements.{recursion_from_All}
use Rattle.file_model.specs.declared.paths.PathSpec.{PathSpec}
use Rattle.logical_model.specs.SamePaths.{same_path, count_paths}
use Rattle.path_laws.proofs.PathLemmas.{path-told, path-decides}
use Rattle.path_laws.proofs.CountLemmas.{there-own, there-told}

-- ---- what stands in a list

abbrev IsIn : PathSpec → List PathSpec → Type 0
IsIn p [] = ⊥
IsIn p (q ∷ paths) = (p ≡ q) ⊎ IsIn p paths

contained-in : (p : PathSpec) (paths : List PathSpec) → Contains paths p → IsIn p paths
contained-in p [] found = let lt = found.1 in absurd (omega (arith, lt))
contained-in p (q ∷ paths) (zero, lt, at) = inl (sym at)
contained-in p (q ∷ paths) (suc k, lt, at) = inr (contained-in p paths (k, omega (arith, lt), at))

in-contained : (p : PathSpec) (paths : List PathSpec) → IsIn p paths → Contains paths p
in-contained p [] its = absurd its
in-contained p (q ∷ paths) (inl same) = (zero, omega arith, sym same)
in-contained p (q ∷ paths) (inr later) = let rest = in-contained p paths later in let lt = rest.1 in (suc rest.0, omega (arith, lt), rest.2)

-- each differs from those behind it
abbrev Differ : List PathSpec → Type 0
Differ [] = Unit {0}
Differ (p ∷ paths) = AllByRecursion (λ q. p ≢ q) paths × Differ paths

differ-from : (paths : List PathSpec) → AllPairs (λ p q. p ≢ q) paths → Differ paths
differ-from [] all = tt
differ-from (p ∷ paths) all = (
  recursion_from_All (λ (q : PathSpec). p ≢ q) paths (λ k d low. all zero (suc k) d (omega arith) (omega (arith, low))),
  differ-from paths (λ i j d lt low. all (suc i) (suc j) d (omega (arith, lt)) (omega (arith, low))),
)

each-differs : (p q : PathSpec) (paths : List PathSpec) → AllByRecursion (λ other. p ≢ other) paths → IsIn q paths → p ≢ q
each-differs p q [] all its = absurd its
each-differs p q (first ∷ paths) all (inl same) = λ e. all.0 (e ∙ same)
each-differs p q (first ∷ paths) all (inr later) = each-differs p q paths all.1 later

-- ---- without one of them

abbrev without : PathSpec → List PathSpec → List PathSpec
without p paths = filter (λ q. not (same_path p q)) paths

kept-in : (p q : PathSpec) (paths : List PathSpec) → (p ≢ q) → IsIn q paths → IsIn q (without p paths)
kept-in p q [] differs its = absurd its
kept-in p q (first ∷ paths) differs its = by (same_path p first) refl its (λ later. kept-in p q paths differs later)
  where
    by : (b : Bool) → same_path p first ≡ b → (q ≡ first) ⊎ IsIn q paths → (IsIn q paths → IsIn q (without p paths)) → IsIn q (cond (not b) (first ∷ without p paths) (without p paths))
    by true same (inl here) rest = absurd (differs (path-told p first same ∙ sym here))
    by true same (inr later) rest = rest later
    by false apart (inl here) rest = inl here
    by false apart (inr later) rest = inr (rest later)

in-kept : (p q : PathSpec) (paths : List PathSpec) → IsIn q (without p paths) → IsIn q paths × (p ≢ q)
in-kept p q [] its = absurd its
in-kept p q (first ∷ paths) its = by (same_path p first) refl its (λ later. in-kept p q paths later)
  where
    false-true : false ≡ true → ⊥
    false-true e = cc

    by : (b : Bool) → same_path p first ≡ b → IsIn q (cond (not b) (first ∷ without p paths) (without p paths)) → (IsIn q (without p paths) → IsIn q paths × (p ≢ q))
        → ((q ≡ first) ⊎ IsIn q paths) × (p ≢ q)
    by true same h rest = let more = rest h in (inr more.0, more.1)
    by false apart (inl here) rest = (inl here, λ e. false-true (sym apart ∙ (path-decides p first).1 (e ∙ here)))
    by false apart (inr later) rest = let more = rest later in (inr more.0, more.1)

differ-kept : (p : PathSpec) (paths : List PathSpec) → Differ paths → Differ (without p paths)
differ-kept p [] two = tt
differ-kept p (first ∷ paths) two =
    elim (same_path p first) as (λ b. Differ (cond (not b) (first ∷ without p paths) (without p paths))) [
      | true ↦ differ-kept p paths two.1
      | false ↦ (left paths two.0, differ-kept p paths two.1)
    ]
  where
    left : (others : List PathSpec) → AllByRecursion (λ q. first ≢ q) others → AllByRecursion (λ q. first ≢ q) (without p others)
    left [] all = tt
    left (q ∷ others) all =
        elim (same_path p q) as (λ b. AllByRecursion (λ (r : PathSpec). first ≢ r) (cond (not b) (q ∷ without p others) (without p others))) [
          | true ↦ left others all.1
          | false ↦ (all.0, left others all.1)
        ]

-- none of them is it
without-none : (p : PathSpec) (paths : List PathSpec) → AllByRecursion (λ q. p ≢ q) paths → without p paths ≡ paths
without-none p [] all = refl
without-none p (q ∷ paths) all =
    elim (same_path p q) as (λ b. same_path p q ≡ b → cond (not b) (q ∷ without p paths) (without p paths) ≡ q ∷ paths) [
      | true ↦ λ same. absurd (all.0 (path-told p q same))
      | false ↦ λ apart. ap (λ (rest : List PathSpec). q ∷ rest) (without-none p paths all.1)
    ] refl

-- one is it
one-fewer : (p : PathSpec) (paths : List PathSpec) → Differ paths → IsIn p paths → length paths ≡ length (without p paths) + 1
one-fewer p [] two its = absurd its
one-fewer p (q ∷ paths) two its = by (same_path p q) refl its (λ later. one-fewer p paths two.1 later)
  where
    by : (b : Bool) → same_path p q ≡ b → (p ≡ q) ⊎ IsIn p paths → (IsIn p paths → length paths ≡ length (without p paths) + 1)
        → length (q ∷ paths) ≡ length (cond (not b) (q ∷ without p paths) (without p paths)) + 1
    by true same h rest =
        let own : p ≡ q = path-told p q same in
        let all : length (without p paths) ≡ length paths = ap length (without-none p paths (subst (λ (r : PathSpec). AllByRecursion (λ other. r ≢ other) paths) (sym own) two.0)) in
        omega (arith, all)
    by false apart (inl here) rest = absurd (let e : same_path p q ≡ true = (path-decides p q).1 here in cc)
    by false apart (inr later) rest = let one : length paths ≡ length (without p paths) + 1 = rest later in omega (arith, one)

-- ---- as many are counted

abbrev AreIn : List PathSpec → List PathSpec → Type 0
AreIn paths others = (spec : PathSpec) → IsIn spec paths → IsIn spec others

as-many : (paths others : List PathSpec) → Differ others → AreIn paths others → AreIn others paths → count_paths paths ≡ length others
as-many [] [] two on back = refl
as-many [] (q ∷ others) two on back = absurd (back q (inl refl))
as-many (p ∷ paths) others two on back =
    by (list_any (same_path p) paths) refl (λ more there back_there. as-many paths more there (λ spec its. back_there.0 spec its) back_there.1)
  where
    by : (b : Bool) → list_any (same_path p) paths ≡ b → ((more : List PathSpec) → Differ more → AreIn paths more × AreIn more paths → count_paths paths ≡ length more)
        → cond b (count_paths paths) (count_paths paths + 1) ≡ length others
    by true there rest = rest others two (
      (λ spec its. on spec (inr its)),
      (λ spec its. among spec (back spec its)),
    )
      where
        among : (spec : PathSpec) → (spec ≡ p) ⊎ IsIn spec paths → IsIn spec paths
        among spec (inl same) = subst (λ (s : PathSpec). IsIn s paths) (sym same) (contained-in p paths (there-told p paths there))
        among spec (inr later) = later
    by false none rest =
        let fewer : length others ≡ length (without p others) + 1 = one-fewer p others two (on p (inl refl)) in
        let counted : count_paths paths ≡ length (without p others) = rest (without p others) (differ-kept p others two) (
          (λ spec its. kept-in p spec others (apart spec its) (on spec (inr its))),
          (λ spec its. let was = in-kept p spec others its in later spec was.1 (back spec was.0)),
        ) in
        omega (arith, fewer, counted)
      where
        apart : (spec : PathSpec) → IsIn spec paths → p ≢ spec
        apart spec its same =
            let e : list_any (same_path p) paths ≡ true = there-own p paths (subst (λ (s : PathSpec). Contains paths s) (sym same) (in-contained spec paths its)) in
            absurd cc

        later : (spec : PathSpec) → p ≢ spec → (spec ≡ p) ⊎ IsIn spec paths → IsIn spec paths
        later spec differs (inl same) = absurd (differs (sym same))
        later spec differs (inr more) = more

pub count-different : (paths others : List PathSpec) → AllPairs (λ p q. p ≢ q) others → ((spec : PathSpec) → Contains paths spec → Contains others spec)
    → ((spec : PathSpec) → Contains others spec → Contains paths spec) → count_paths paths ≡ length others
count-different paths others two on back =
    as-many paths others (differ-from others two)
    (λ spec its. contained-in spec others (on spec (in-contained spec paths its)))
    (λ spec its. contained-in spec paths (back spec (in-contained spec others its)))

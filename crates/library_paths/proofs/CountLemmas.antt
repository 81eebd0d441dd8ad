-- How often an item stands in a list, by a test that decides equality.
use Rattle.std.proofs.Common.{ℕ, zero, suc, ◌+◌, ◌≤◌, ◌≡◌, ◌≢◌, Bool, true, false, cond, List, [], ◌∷◌, ◌++◌, length, Contains, length-append, refl, sym, ap, arith, subst, ◌∙◌}
use Rattle.std.specs.Prelude.{filter}
use Rattle.std.specs.Bool.{Decides}
use Rattle.std.specs.List.{AllByRecursion}
use Rattle.std.proofs.lemmas.List.Elements.{filter-append}
use Rattle.file_model.specs.declared.paths.PathSpec.{PathSpec}
use Rattle.logical_model.specs.SamePaths.{same_path}
use Rattle.path_laws.proofs.PathLemmas.{path-decides}
use Rattle.library_paths.specs.AllPaths.{count_in}

module _ {X : Type 0} (test : X → X → Bool) (decides : (a b : X) → Decides (test a b) (a ≡ b)) where
  abbrev times : X → List X → ℕ
  times x xs = length (filter (test x) xs)

  passed : (b : Bool) (x : X) (xs ys : List X) → b ≡ true → length (cond b (x ∷ xs) ys) ≡ suc (length xs)
  passed true x xs ys is = refl
  passed false x xs ys is = absurd cc

  failed : (b : Bool) (x : X) (xs ys : List X) → (b ≡ true → ⊥) → length (cond b (x ∷ xs) ys) ≡ length ys
  failed true x xs ys none = absurd (none refl)
  failed false x xs ys none = refl

  own : (x y : X) (xs : List X) → x ≡ y → times x (y ∷ xs) ≡ suc (times x xs)
  own x y xs same = passed (test x y) y (filter (test x) xs) (filter (test x) xs) ((decides x y).1 same)

  other : (x y : X) (xs : List X) → x ≢ y → times x (y ∷ xs) ≡ times x xs
  other x y xs differs = failed (test x y) y (filter (test x) xs) (filter (test x) xs) (λ is. differs ((decides x y).0 is))

  append : (x : X) (xs ys : List X) → times x (xs ++ ys) ≡ times x xs + times x ys
  append x xs ys = ap length (filter-append (test x) xs ys) ∙ length-append (filter (test x) xs) (filter (test x) ys)

  no-fewer : (x y : X) (xs : List X) → times x xs ≤ times x (y ∷ xs)
  no-fewer x y xs = by (test x y)
    where
      by : (b : Bool) → length (filter (test x) xs) ≤ length (cond b (y ∷ filter (test x) xs) (filter (test x) xs))
      by true = omega arith
      by false = omega arith

  -- what holds of each holds of one that is there
  each-there : (P : X → Type 0) (xs : List X) → AllByRecursion P xs → (x : X) → 1 ≤ times x xs → P x
  each-there P [] all x some = absurd (omega (arith, some))
  each-there P (y ∷ xs) all x some = by (test x y) refl some (λ h. each-there P xs all.1 x h)
    where
      by : (b : Bool) → test x y ≡ b → 1 ≤ length (cond b (y ∷ filter (test x) xs) (filter (test x) xs)) → (1 ≤ times x xs → P x) → P x
      by true is h rest = subst P (sym ((decides x y).0 is)) all.0
      by false is h rest = rest h

  -- and what holds of those that are there holds of each
  there-each : (P : X → Type 0) (xs : List X) → ((x : X) → 1 ≤ times x xs → P x) → AllByRecursion P xs
  there-each P [] each = tt
  there-each P (y ∷ xs) each = (
    each y (let one : times y (y ∷ xs) ≡ suc (times y xs) = own y y xs refl in omega (arith, one)),
    there-each P xs (λ x some. each x (let more : times x xs ≤ times x (y ∷ xs) = no-fewer x y xs in omega (arith, some, more))),
  )

  -- one that differs from each isn't there
  apart : (x : X) (xs : List X) → AllByRecursion (λ (y : X). x ≢ y) xs → times x xs ≡ 0
  apart x [] all = refl
  apart x (y ∷ xs) all = other x y xs all.0 ∙ apart x xs all.1

  absent : (x : X) (xs : List X) → times x xs ≡ 0 → AllByRecursion (λ (y : X). x ≢ y) xs
  absent x [] none = tt
  absent x (y ∷ xs) none = (
    (λ same. let one : times x (y ∷ xs) ≡ suc (times x xs) = own x y xs same in absurd (omega (arith, one, none))),
    absent x xs (let more : times x xs ≤ times x (y ∷ xs) = no-fewer x y xs in omega (arith, none, more)),
  )

  contained : (x : X) (xs : List X) → 1 ≤ times x xs → Contains xs x
  contained x [] some = absurd (omega (arith, some))
  contained x (y ∷ xs) some = by (test x y) refl some (λ h. contained x xs h)
    where
      by : (b : Bool) → test x y ≡ b → 1 ≤ length (cond b (y ∷ filter (test x) xs) (filter (test x) xs)) → (1 ≤ times x xs → Contains xs x) → Contains (y ∷ xs) x
      by true is h rest = (zero, omega arith, sym ((decides x y).0 is))
      by false is h rest = let found = rest h in let lt = found.1 in (suc found.0, omega (arith, lt), found.2)

  counted : (x : X) (xs : List X) → Contains xs x → 1 ≤ times x xs
  counted x [] found = let lt = found.1 in absurd (omega (arith, lt))
  counted x (y ∷ xs) (zero, lt, at) = let one : times x (y ∷ xs) ≡ suc (times x xs) = own x y xs (sym at) in omega (arith, one)
  counted x (y ∷ xs) (suc k, lt, at) =
      let rest : 1 ≤ times x xs = counted x xs (k, omega (arith, lt), at) in
      let more : times x xs ≤ times x (y ∷ xs) = no-fewer x y xs in
      omega (arith, rest, more)

-- ---- specifications

pub count-own : (spec other : PathSpec) (specs : List PathSpec) → spec ≡ other → count_in spec (other ∷ specs) ≡ suc (count_in spec specs)
count-own spec other specs same = own same_path path-decides spec other specs same

pub count-other : (spec another : PathSpec) (specs : List PathSpec) → spec ≢ another → count_in spec (another ∷ specs) ≡ count_in spec specs
count-other spec another specs differs = other same_path path-decides spec another specs differs

pub count-append : (spec : PathSpec) (specs more : List PathSpec) → count_in spec (specs ++ more) ≡ count_in spec specs + count_in spec more
count-append spec specs more = append same_path path-decides spec specs more

pub count-each : (P : PathSpec → Type 0) (specs : List PathSpec) → AllByRecursion P specs → (spec : PathSpec) → 1 ≤ count_in spec specs → P spec
count-each P specs all spec some = each-there same_path path-decides P specs all spec some

pub each-count : (P : PathSpec → Type 0) (specs : List PathSpec) → ((spec : PathSpec) → 1 ≤ count_in spec specs → P spec) → AllByRecursion P specs
each-count P specs each = there-each same_path path-decides P specs each

pub count-none : (spec : PathSpec) (specs : List PathSpec) → AllByRecursion (λ other. spec ≢ other) specs → count_in spec specs ≡ 0
count-none spec specs all = apart same_path path-decides spec specs all

pub none-count : (spec : PathSpec) (specs : List PathSpec) → count_in spec specs ≡ 0 → AllByRecursion (λ other. spec ≢ other) specs
none-count spec specs none = absent same_path path-decides spec specs none

pub count-contained : (spec : PathSpec) (specs : List PathSpec) → 1 ≤ count_in spec specs → Contains specs spec
count-contained spec specs some = contained same_path path-decides spec specs some

pub contained-count : (spec : PathSpec) (specs : List PathSpec) → Contains specs spec → 1 ≤ count_in spec specs
contained-count spec specs found = counted same_path path-decides spec specs found

-- Whether a member would have too many paths with those of a logical file.
use Rattle.std.proofs.Common.{◌≡◌, ◌≢◌, ◌∙◌, ◌||◌, ◌&&◌, ◌+◌, ◌≤◌, ◌-◌, ℕ, zero, suc, drop, get_or, nat_lt, not, Bool, true, false, cond, List, [], ◌∷◌, ◌++◌, length, take, slice_get, append-nil, append_assoc, Option, Some, None, is_some, refl, sym, ap, subst, arith, ◌<◌}
use Rattle.std.specs.Prelude.{Any, MatchOption, filter}
use Rattle.std.specs.List.{list_any}
use Rattle.std.proofs.lemmas.Bool.Decides.{nat_tests}
use Rattle.std.proofs.lemmas.List.{take_all}
use Rattle.std.proofs.lemmas.List.Elements.{filter-append, recursion_from_All}
use Rattle.member_slots.specs.Members.{Numbered, item_at}
use Rattle.file_model.specs.declared.paths.PathSpec.{PathSpec}
use Rattle.library_steps.specs.FilePaths.{is_over}
use Rattle.library_steps.specs.SamePaths.{count_paths, same_path}
use Rattle.library_paths.proofs.PathLemmas.{path-own, path-told}
use Rattle.path_set.specs.KeptPaths.{AreShared, KeptPath, NumberedPaths}
use Rattle.path_set.specs.MemberSteps.{paths_over as kept_over}
use Rattle.path_set.specs.Sharing.{IsNew}
use Rattle.library_steps.specs.declared.limits.TheConstants.{MOST_PATHS}
use Rattle.library_steps.specs.LogicalFiles.{paths_over}
use Rattle.library_steps.specs.State.{Memory}
use Rattle.library_paths.specs.AllPaths.{AreKeptFor, all_paths}
use Rattle.library_paths.proofs.ListLemmas.{any-apart}
use Rattle.library_paths.proofs.NumberLemmas.{any-at}
use Rattle.library_paths.proofs.OverLemmas.{count-last, over-all, over-kept, over-new, over-there}
use Rattle.parts_model.proofs.UnderLemmas.{take-next}

-- no kept path is a new one
new-apart : (path : PathSpec) (kept : NumberedPaths) → IsNew path kept → Any (λ (q : Numbered KeptPath). q.item.spec ≡ path) kept → ⊥
new-apart path kept new = any-apart (λ (q : Numbered KeptPath). q.item.spec ≡ path) kept (recursion_from_All (λ (q : Numbered KeptPath). q.item.spec ≢ path) kept new)

-- ---- those that are kept

module _ (member : ℕ) (m : Memory) (kept : NumberedPaths) (shared : AreShared kept) (are : AreKeptFor (all_paths m.files) m.members kept) where
  pub counted-now : count_paths (paths_over member m) ≡ length (kept_over member kept)
  counted-now = ap count_paths (over-all member m) ∙ over-kept member (all_paths m.files) m.members kept shared are

  -- a path over the member is one of its paths where it is kept
  pub kept-told : (path : PathSpec) (number : Option ℕ) → is_over member path ≡ true
      → MatchOption number (IsNew path kept) (λ id. (its : KeptPath) × (item_at id kept ≡ Some its) × (its.spec ≡ path)) → list_any (same_path path) (paths_over member m) ≡ is_some number
  kept-told path None over new =
      by (list_any (same_path path) (paths_over member m))
      (sym (count-last path (paths_over member m)) ∙ over-new member m kept shared are path over (new-apart path kept new) ∙ sym (ap (λ (n : ℕ). n + 1) counted-now))
    where
      by : (b : Bool) → cond b (count_paths (paths_over member m)) (count_paths (paths_over member m) + 1) ≡ count_paths (paths_over member m) + 1 → b ≡ false
      by true e = absurd (omega (arith, e))
      by false e = refl
  kept-told path (Some id) over found =
      by (list_any (same_path path) (paths_over member m))
      (sym (count-last path (paths_over member m))
      ∙ over-there member m kept shared are path over (any-at (λ (q : Numbered KeptPath). q.item.spec ≡ path) id found.0 kept found.1 found.2) ∙ sym counted-now)
    where
      by : (b : Bool) → cond b (count_paths (paths_over member m)) (count_paths (paths_over member m) + 1) ≡ count_paths (paths_over member m) → b ≡ true
      by true e = refl
      by false e = absurd (omega (arith, e))

-- ---- those that are new

any-of-both : (p : PathSpec → Bool) (xs ys : List PathSpec) → list_any p (xs ++ ys) ≡ (list_any p xs || list_any p ys)
any-of-both p [] ys = refl
any-of-both p (x ∷ xs) ys = ap (λ (b : Bool). p x || b) (any-of-both p xs ys) ∙ by (p x)
  where
    by : (b : Bool) → (b || (list_any p xs || list_any p ys)) ≡ ((b || list_any p xs) || list_any p ys)
    by true = refl
    by false = refl

-- what is the same as a path over the member is over it
any-over : (member : ℕ) (path : PathSpec) → is_over member path ≡ true → (xs : List PathSpec) → list_any (same_path path) (filter (is_over member) xs) ≡ list_any (same_path path) xs
any-over member path over [] = refl
any-over member path over (x ∷ xs) = by (any-over member path over xs) (is_over member x) refl (same_path path x) refl
  where
    by : list_any (same_path path) (filter (is_over member) xs) ≡ list_any (same_path path) xs → (o : Bool) → is_over member x ≡ o → (s : Bool) → same_path path x ≡ s
        → list_any (same_path path) (cond o (x ∷ filter (is_over member) xs) (filter (is_over member) xs)) ≡ (same_path path x || list_any (same_path path) xs)
    by rest true e s f = ap (λ (b : Bool). same_path path x || b) rest
    by rest false e true f = absurd (let its : is_over member x ≡ true = ap (is_over member) (sym (path-told path x f)) ∙ over in cc)
    by rest false e false f = rest ∙ sym (ap (λ (b : Bool). b || list_any (same_path path) xs) f)

pub new-told : (member : ℕ) (path : PathSpec) (own paths : List PathSpec) (result over kept before : Bool) → result ≡ (over && not (kept || before)) → over ≡ is_over member path
    → (is_over member path ≡ true → list_any (same_path path) own ≡ kept) → before ≡ list_any (same_path path) paths
    → result ≡ (is_over member path && not (list_any (same_path path) (own ++ filter (is_over member) paths)))
new-told member path own paths result over kept before is its there stands =
    is ∙ ap (λ (o : Bool). o && not (kept || before)) its ∙ by (is_over member path) refl
  where
    by : (o : Bool) → is_over member path ≡ o → (o && not (kept || before)) ≡ (o && not (list_any (same_path path) (own ++ filter (is_over member) paths)))
    by false e = refl
    by true e =
        sym (ap not (any-of-both (same_path path) own (filter (is_over member) paths) ∙ ap (λ (b : Bool). b || list_any (same_path path) (filter (is_over member) paths)) (there e)
        ∙ ap (λ (b : Bool). kept || b) (any-over member path e paths ∙ sym stands)))

-- ---- so they are counted

last-counted : (path : PathSpec) (own : List PathSpec) (over : Bool) → count_paths (own ++ cond over (path ∷ []) []) ≡ cond (over && not (list_any (same_path path) own)) (count_paths own + 1) (count_paths own)
last-counted path own false = ap count_paths (append-nil own)
last-counted path own true = count-last path own ∙ by (list_any (same_path path) own)
  where
    by : (b : Bool) → cond b (count_paths own) (count_paths own + 1) ≡ cond (not b) (count_paths own + 1) (count_paths own)
    by true = refl
    by false = refl

filter-last : (member : ℕ) (before : List PathSpec) (path : PathSpec) → filter (is_over member) (before ++ path ∷ []) ≡ filter (is_over member) before ++ cond (is_over member path) (path ∷ []) []
filter-last member before path = filter-append (is_over member) before (path ∷ [])

-- one place further
pub count-next : (member : ℕ) (own paths : List PathSpec) (place next : ℕ) (path : PathSpec) (count new : ℕ) (more : Bool) → next ≡ suc place → slice_get paths place ≡ Some path
    → count ≡ count_paths (own ++ filter (is_over member) (take place paths))
    → more ≡ (is_over member path && not (list_any (same_path path) (own ++ filter (is_over member) (take place paths))))
    → new ≡ cond more (count + 1) count → new ≡ count_paths (own ++ filter (is_over member) (take next paths))
count-next member own paths place next path count new more is at so told made =
    let before : List PathSpec = filter (is_over member) (take place paths) in
    let last : List PathSpec = cond (is_over member path) (path ∷ []) [] in
    made
    ∙ ap (λ (b : Bool). cond b (count + 1) count) told
    ∙ ap (λ (n : ℕ). cond (is_over member path && not (list_any (same_path path) (own ++ before))) (n + 1) n) so
    ∙ sym (last-counted path (own ++ before) (is_over member path))
    ∙ ap count_paths (append_assoc own before last)
    ∙ sym (ap (λ (ps : List PathSpec). count_paths (own ++ ps)) (ap (filter (is_over member)) (take-next paths place next path is at) ∙ filter-last member (take place paths) path))

-- more paths are as many at least
grown-one : (own : List PathSpec) (path : PathSpec) → count_paths own ≤ count_paths (own ++ path ∷ [])
grown-one own path = subst (λ (n : ℕ). count_paths own ≤ n) (sym (count-last path own)) (by (list_any (same_path path) own))
  where
    by : (b : Bool) → count_paths own ≤ cond b (count_paths own) (count_paths own + 1)
    by true = omega arith
    by false = omega arith

grown : (own more : List PathSpec) → count_paths own ≤ count_paths (own ++ more)
grown own [] = subst (λ (ps : List PathSpec). count_paths own ≤ count_paths ps) (sym (append-nil own)) (omega arith)
grown own (path ∷ more) =
    let one = grown-one own path in
    let rest : count_paths (own ++ path ∷ []) ≤ count_paths (own ++ path ∷ more) =
    subst (λ (ps : List PathSpec). count_paths (own ++ path ∷ []) ≤ count_paths ps) (append_assoc own (path ∷ []) more) (grown (own ++ path ∷ []) more) in
    omega (arith, one, rest)

taken-all : (paths : List PathSpec) (place : ℕ) → (rest : List PathSpec) × (paths ≡ take place paths ++ rest)
taken-all [] zero = ([], refl)
taken-all [] (suc n) = ([], refl)
taken-all (path ∷ paths) zero = (path ∷ paths, refl)
taken-all (path ∷ paths) (suc n) = let its = taken-all paths n in (its.0, ap (λ (ps : List PathSpec). path ∷ ps) its.1)

pub many-already : (member : ℕ) (own paths : List PathSpec) (place count : ℕ) → count ≡ count_paths (own ++ filter (is_over member) (take place paths)) → nat_lt MOST_PATHS count ≡ true
    → true ≡ nat_lt MOST_PATHS (count_paths (own ++ filter (is_over member) paths))
many-already member own paths place count is many =
    let its = taken-all paths place in
    let before : List PathSpec = filter (is_over member) (take place paths) in
    let all : own ++ filter (is_over member) paths ≡ (own ++ before) ++ filter (is_over member) its.0 =
    ap (λ (ps : List PathSpec). own ++ ps) (ap (filter (is_over member)) its.1 ∙ filter-append (is_over member) (take place paths) its.0) ∙ sym (append_assoc own before (filter (is_over member) its.0)) in
    let more : count_paths (own ++ before) ≤ count_paths (own ++ filter (is_over member) paths) =
    subst (λ (ps : List PathSpec). count_paths (own ++ before) ≤ count_paths ps) (sym all) (grown (own ++ before) (filter (is_over member) its.0)) in
    grind (arith, nat_tests, is, many, more)

pub count-end : (member : ℕ) (own paths : List PathSpec) (place count : ℕ) → length paths ≤ place → count ≡ count_paths (own ++ filter (is_over member) (take place paths))
    → count ≡ count_paths (own ++ filter (is_over member) paths)
count-end member own paths place count past is = is ∙ ap (λ (ps : List PathSpec). count_paths (own ++ filter (is_over member) ps)) (take_all place paths past)

-- the path at a place
pub path-at : (paths : List PathSpec) (place : ℕ) → place < length paths → (path : PathSpec) × (slice_get paths place ≡ Some path)
path-at [] place within = absurd (omega (arith, within))
path-at (path ∷ paths) zero within = (path, refl)
path-at (path ∷ paths) (suc place) within = path-at paths place (omega (arith, within))

-- ---- among the paths before a place

-- the first is the same, or those behind it decide
pub any-first : (path : PathSpec) (rest : List PathSpec) (other : PathSpec) → 1 ≤ length rest → path ≡ other → other ≡ get_or rest 0 other → true ≡ list_any (same_path path) rest
any-first path [] other some same is = absurd (omega (arith, some))
any-first path (x ∷ rest) other some same is =
    let own : same_path path x ≡ true = subst (λ (q : PathSpec). same_path path q ≡ true) (same ∙ is) (path-own path) in
    sym (ap (λ (b : Bool). b || list_any (same_path path) rest) own)

pub any-rest : (path : PathSpec) (rest : List PathSpec) (other : PathSpec) (more : List PathSpec) → 1 ≤ length rest → (path ≡ other → ⊥) → other ≡ get_or rest 0 other → more ≡ take (length rest - 1) (drop 1 rest)
    → list_any (same_path path) more ≡ list_any (same_path path) rest
any-rest path [] other more some apart is behind = absurd (omega (arith, some))
any-rest path (x ∷ rest) other more some apart is behind =
    let count : suc (length rest) - 1 ≡ length rest = omega arith in
    let all : more ≡ rest = behind ∙ ap (λ (n : ℕ). take n rest) count ∙ take_all (length rest) rest (omega arith) in
    by (same_path path x) refl (ap (λ (ps : List PathSpec). list_any (same_path path) ps) all)
  where
    by : (b : Bool) → same_path path x ≡ b → list_any (same_path path) more ≡ list_any (same_path path) rest → list_any (same_path path) more ≡ (same_path path x || list_any (same_path path) rest)
    by true e so = absurd (apart (path-told path x e ∙ sym is))
    by false e so = so ∙ sym (ap (λ (b : Bool). b || list_any (same_path path) rest) e)

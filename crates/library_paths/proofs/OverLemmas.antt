-- How many different paths there are among those of files: as many as are kept. So it is of those over a member.
use Rattle.std.proofs.Common.{◌≡◌, ◌≢◌, ◌∙◌, ◌⊎◌, inl, inr, ℕ, zero, suc, Bool, true, false, ◌||◌, ◌+◌, cond, List, [], ◌∷◌, ◌++◌, length, map, Contains, refl, sym, ap, arith, subst}
use Rattle.std.specs.Prelude.{Any, filter, flat_map}
use Rattle.std.specs.List.{AllByRecursion, list_any}
use Rattle.std.proofs.lemmas.List.{length-map}
use Rattle.std.proofs.lemmas.List.Elements.{filter-append, recursion_from_All}
use Rattle.member_slots.specs.Members.{Numbered, NumberedMembers}
use Rattle.file_model.specs.declared.paths.PathSpec.{PathSpec}
use Rattle.logical_model.specs.Bases.{FileSpec, PhysicalFile, LogicalFile}
use Rattle.logical_model.specs.FilePaths.{is_over}
use Rattle.logical_model.specs.SamePaths.{count_paths, same_path}
use Rattle.path_set.specs.KeptPaths.{KeptPath, NumberedPaths, AreShared}
use Rattle.path_set.specs.MemberSteps.{paths_over as kept_over}
use Rattle.path_laws.proofs.PathLemmas.{path-either_way, path-told}
use Rattle.path_laws.proofs.CountLemmas.{count-new, count-there}
use Rattle.path_laws.proofs.DifferentLemmas.{count-different}
use Rattle.library_model.specs.Named.{Named}
use Rattle.library_steps.specs.LogicalFiles.{paths_by as paths_by_memory, paths_of, paths_over}
use Rattle.library_steps.specs.State.{Memory, FileState, MemberStatus}
use Rattle.library_paths.specs.AllPaths.{AreKeptFor, all_paths, paths_among, paths_by}
use Rattle.library_paths.proofs.ListLemmas.{any-cons, any-none, two-all, two-filter, two-from, two-map}
use Rattle.library_paths.proofs.CountLemmas.{contained-count, count-each}
use Rattle.library_paths.proofs.KeptLemmas.{kept-contained}
use Rattle.library_paths.proofs.NumberLemmas.{IsAnother}

-- ---- what stands in a list

abbrev pub IsIn : PathSpec → List PathSpec → Type 0
IsIn spec [] = ⊥
IsIn spec (other ∷ specs) = (other ≡ spec) ⊎ IsIn spec specs

pub contained-in : (spec : PathSpec) (specs : List PathSpec) → Contains specs spec → IsIn spec specs
contained-in spec [] found = let lt = found.1 in absurd (omega (arith, lt))
contained-in spec (other ∷ specs) (zero, lt, at) = inl at
contained-in spec (other ∷ specs) (suc k, lt, at) = inr (contained-in spec specs (k, omega (arith, lt), at))

pub in-contained : (spec : PathSpec) (specs : List PathSpec) → IsIn spec specs → Contains specs spec
in-contained spec [] its = absurd its
in-contained spec (other ∷ specs) (inl same) = (zero, omega arith, same)
in-contained spec (other ∷ specs) (inr later) = let rest = in-contained spec specs later in let lt = rest.1 in (suc rest.0, omega (arith, lt), rest.2)

module _ (test : PathSpec → Bool) where
  filter-in : (spec : PathSpec) (specs : List PathSpec) → IsIn spec specs → test spec ≡ true → IsIn spec (filter test specs)
  filter-in spec [] its passes = absurd its
  filter-in spec (other ∷ specs) (inl same) passes =
      subst (λ (b : Bool). IsIn spec (cond b (other ∷ filter test specs) (filter test specs))) (sym (ap test same ∙ passes)) (inl same)
  filter-in spec (other ∷ specs) (inr later) passes =
      elim (test other) as (λ b. IsIn spec (cond b (other ∷ filter test specs) (filter test specs))) [
        | true ↦ inr (filter-in spec specs later passes)
        | false ↦ filter-in spec specs later passes
      ]

  in-filter : (spec : PathSpec) (specs : List PathSpec) → IsIn spec (filter test specs) → IsIn spec specs × (test spec ≡ true)
  in-filter spec [] its = absurd its
  in-filter spec (other ∷ specs) its = by (test other) refl its (λ later. in-filter spec specs later)
    where
      by : (b : Bool) → test other ≡ b → IsIn spec (cond b (other ∷ filter test specs) (filter test specs)) → (IsIn spec (filter test specs) → IsIn spec specs × (test spec ≡ true))
          → ((other ≡ spec) ⊎ IsIn spec specs) × (test spec ≡ true)
      by true passes (inl same) rest = (inl same, ap test (sym same) ∙ passes)
      by true passes (inr later) rest = let more = rest later in (inr more.0, more.1)
      by false fails later rest = let more = rest later in (inr more.0, more.1)

  abbrev passing : NumberedPaths → NumberedPaths
  passing kept = filter (λ (q : Numbered KeptPath). test q.item.spec) kept

  abbrev specs_of : NumberedPaths → List PathSpec
  specs_of kept = map (λ (q : Numbered KeptPath). q.item.spec) kept

  kept-in : (spec : PathSpec) (kept : NumberedPaths) → test spec ≡ true → Any (λ (q : Numbered KeptPath). q.item.spec ≡ spec) kept → IsIn spec (specs_of (passing kept))
  kept-in spec [] passes any = absurd (any-none (λ (q : Numbered KeptPath). q.item.spec ≡ spec) any)
  kept-in spec (p ∷ kept) passes any = by (test p.item.spec) refl (any-cons (λ (q : Numbered KeptPath). q.item.spec ≡ spec) p kept any) (λ rest. kept-in spec kept passes rest)
    where
      by : (b : Bool) → test p.item.spec ≡ b → (p.item.spec ≡ spec) ⊎ Any (λ (q : Numbered KeptPath). q.item.spec ≡ spec) kept
          → (Any (λ (q : Numbered KeptPath). q.item.spec ≡ spec) kept → IsIn spec (specs_of (passing kept))) → IsIn spec (specs_of (cond b (p ∷ passing kept) (passing kept)))
      by true is (inl same) more = inl same
      by true is (inr rest) more = inr (more rest)
      by false is (inl same) more = absurd (let e : test p.item.spec ≡ true = ap test same ∙ passes in cc)
      by false is (inr rest) more = more rest

  in-kept : (spec : PathSpec) (specs : List PathSpec) (kept : NumberedPaths) → AllByRecursion (λ (q : Numbered KeptPath). Contains specs q.item.spec) kept → IsIn spec (specs_of (passing kept))
      → IsIn spec (filter test specs)
  in-kept spec specs [] owned its = absurd its
  in-kept spec specs (p ∷ kept) owned its = by (test p.item.spec) refl its (λ later. in-kept spec specs kept owned.1 later)
    where
      by : (b : Bool) → test p.item.spec ≡ b → IsIn spec (specs_of (cond b (p ∷ passing kept) (passing kept))) → (IsIn spec (specs_of (passing kept)) → IsIn spec (filter test specs))
          → IsIn spec (filter test specs)
      by true is (inl same) more = subst (λ (s : PathSpec). IsIn s (filter test specs)) same (filter-in p.item.spec specs (contained-in p.item.spec specs owned.0) is)
      by true is (inr later) more = more later
      by false is later more = more later

  -- as many different paths pass as are kept of those that do
  pub counted-kept : (specs : List PathSpec) (members : NumberedMembers) (kept : NumberedPaths) → AreShared kept → AreKeptFor specs members kept
      → count_paths (filter test specs) ≡ length (passing kept)
  counted-kept specs members kept shared is =
      count-different (filter test specs) (specs_of (passing kept))
      (two-all (λ (a b : PathSpec). a ≢ b) (specs_of (passing kept))
      (two-map (λ (a b : PathSpec). a ≢ b) (λ (q : Numbered KeptPath). q.item.spec) (passing kept)
      (two-filter (λ (q : Numbered KeptPath). test q.item.spec) IsAnother kept (two-from IsAnother kept shared.once))))
      (λ spec found. let its = in-filter spec specs (contained-in spec (filter test specs) found) in
      in-contained spec (specs_of (passing kept)) (kept-in spec kept its.1
      (count-each (λ (s : PathSpec). Any (λ (q : Numbered KeptPath). q.item.spec ≡ s) kept) specs is.there spec (contained-count spec specs (in-contained spec specs its.0)))))
      (λ spec found. in-contained spec (filter test specs) (in-kept spec specs kept
      (recursion_from_All (λ (q : Numbered KeptPath). Contains specs q.item.spec) kept (kept-contained specs members kept shared is))
      (contained-in spec (specs_of (passing kept)) found)))
      ∙ length-map (passing kept) (λ (q : Numbered KeptPath). q.item.spec)

-- ---- those over a member

pub over-kept : (member : ℕ) (specs : List PathSpec) (members : NumberedMembers) (kept : NumberedPaths) → AreShared kept → AreKeptFor specs members kept
    → count_paths (filter (is_over member) specs) ≡ length (kept_over member kept)
over-kept member specs members kept shared is = counted-kept (is_over member) specs members kept shared is

by-memory : (m : Memory) (members : Named MemberStatus) (spec : FileSpec) → paths_by_memory m members spec ≡ paths_by m.files members spec
by-memory m members (PhysicalFile spec) = refl
by-memory m members (LogicalFile spec) = refl

among-memory : (member : ℕ) (m : Memory) (files : Named FileState)
    → flat_map (λ entry. filter (is_over member) (paths_of m entry.1)) files ≡ filter (is_over member) (paths_among m.files files)
among-memory member m [] = refl
among-memory member m (entry ∷ files) =
    (λ i. filter (is_over member) (by-memory m entry.1.members entry.1.spec i) ++ among-memory member m files i)
    ∙ sym (filter-append (is_over member) (paths_by m.files entry.1.members entry.1.spec) (paths_among m.files files))

-- the paths over a member are those of all paths that are
pub over-all : (member : ℕ) (m : Memory) → paths_over member m ≡ filter (is_over member) (all_paths m.files)
over-all member m = among-memory member m m.files

-- ---- one path more

any-last : (first last : PathSpec) (specs : List PathSpec) → list_any (same_path first) (specs ++ last ∷ []) ≡ (list_any (same_path first) specs || same_path first last)
any-last first last [] = by (same_path first last)
  where
    by : (b : Bool) → (b || false) ≡ b
    by true = refl
    by false = refl
any-last first last (spec ∷ specs) = by (same_path first spec) (any-last first last specs)
  where
    by : (b : Bool) → list_any (same_path first) (specs ++ last ∷ []) ≡ (list_any (same_path first) specs || same_path first last)
        → (b || list_any (same_path first) (specs ++ last ∷ [])) ≡ ((b || list_any (same_path first) specs) || same_path first last)
    by true rest = refl
    by false rest = rest

-- a path at the end counts as much as at the front
pub count-last : (path : PathSpec) (specs : List PathSpec) → count_paths (specs ++ path ∷ []) ≡ count_paths (path ∷ specs)
count-last path [] = refl
count-last path (spec ∷ specs) =
    ap (λ (b : Bool). cond b (count_paths (specs ++ path ∷ [])) (count_paths (specs ++ path ∷ []) + 1)) (any-last spec path specs)
    ∙ ap (λ (n : ℕ). cond (list_any (same_path spec) specs || same_path spec path) n (n + 1)) (count-last path specs)
    ∙ by (list_any (same_path spec) specs) (same_path spec path) (list_any (same_path path) specs) (count_paths specs)
    (λ same. ap (λ (s : PathSpec). list_any (same_path s) specs) (path-told spec path same))
    ∙ ap (λ (b : Bool). cond (b || list_any (same_path path) specs) (count_paths (spec ∷ specs)) (count_paths (spec ∷ specs) + 1)) (path-either_way spec path)
  where
    by : (a b d : Bool) (n : ℕ) → (b ≡ true → a ≡ d) → cond (a || b) (cond d n (n + 1)) (cond d n (n + 1) + 1) ≡ cond (b || d) (cond a n (n + 1)) (cond a n (n + 1) + 1)
    by true true true n same = refl
    by true true false n same = absurd (let e = same refl in cc)
    by false true true n same = absurd (let e = same refl in cc)
    by false true false n same = refl
    by true false true n same = refl
    by true false false n same = refl
    by false false true n same = refl
    by false false false n same = refl

module _ (member : ℕ) (m : Memory) (kept : NumberedPaths) (shared : AreShared kept) (is : AreKeptFor (all_paths m.files) m.members kept) (path : PathSpec) (over : is_over member path ≡ true) where
  abbrev among : List PathSpec
  among = filter (is_over member) (all_paths m.files)

  with-last : count_paths (paths_over member m ++ path ∷ []) ≡ count_paths (path ∷ among)
  with-last = ap (λ (specs : List PathSpec). count_paths (specs ++ path ∷ [])) (over-all member m) ∙ count-last path among

  -- a path that is kept counts no more
  pub over-there : Any (λ (q : Numbered KeptPath). q.item.spec ≡ path) kept → count_paths (paths_over member m ++ path ∷ []) ≡ length (kept_over member kept)
  over-there any =
      let owned = recursion_from_All (λ (q : Numbered KeptPath). Contains (all_paths m.files) q.item.spec) kept (kept-contained (all_paths m.files) m.members kept shared is) in
      let found = in-kept (is_over member) path (all_paths m.files) kept owned (kept-in (is_over member) path kept over any) in
      with-last ∙ count-there path among (in-contained path among found) ∙ over-kept member (all_paths m.files) m.members kept shared is

  -- and a new one counts as one more
  pub over-new : (Any (λ (q : Numbered KeptPath). q.item.spec ≡ path) kept → ⊥) → count_paths (paths_over member m ++ path ∷ []) ≡ length (kept_over member kept) + 1
  over-new absent =
      let none : Contains among path → ⊥ = λ found.
      absent (count-each (λ (s : PathSpec). Any (λ (q : Numbered KeptPath). q.item.spec ≡ s) kept) (all_paths m.files) is.there path
      (contained-count path (all_paths m.files) (in-contained path (all_paths m.files) (in-filter (is_over member) path (all_paths m.files) (contained-in path among found)).0))) in
      with-last ∙ count-new path among none ∙ ap (λ (n : ℕ). n + 1) (over-kept member (all_paths m.files) m.members kept shared is)

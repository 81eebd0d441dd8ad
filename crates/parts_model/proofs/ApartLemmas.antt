-- No unique path over a member has equal keys, where none of those that are kept has.
use Rattle.std.proofs.Common.{◌≡◌, ℕ, ◌&&◌, Bool, true, false, cond, if◌then◌else◌, map, List, [], ◌∷◌, Option, Some, None, Ok, refl, sym, ap, ◌∙◌}
use Rattle.std.specs.Prelude.{filter}
use Rattle.std.specs.List.{AllByRecursion}
use Rattle.std.specs.Option.{option_and_then}
use Rattle.library_steps.below.dds_physical.specs.declared.physical_files.PhysicalSpec.{PhysicalSpec}
use Rattle.file_model.specs.declared.paths.PathSpec.{PathSpec}
use Rattle.file_model.specs.FilePaths.{physical_path}
use Rattle.file_model.specs.Paths.{repeated_in}
use Rattle.library_steps.specs.Bases.{FileSpec, PhysicalFile, LogicalFile}
use Rattle.library_steps.specs.FilePaths.{is_over, logical_paths}
use Rattle.member_slots.specs.Members.{item_at}
use Rattle.path_set.specs.declared.repeated.Repeated.{Repeated}
use Rattle.path_set.specs.EqualKeys.{first_repeated, found_or, repeated_of}
use Rattle.path_set.specs.KeptPaths.{KeptPath, NumberedPaths}
use Rattle.library_model.specs.Named.{Named}
use Rattle.library_model.specs.declared.replies.Reply.TheVariants.{DuplicateKey}
use Rattle.library_steps.specs.LogicalFiles.{bases_of}
use Rattle.library_steps.specs.Refusals.{◌>>=◌, refuse_with}
use Rattle.library_steps.specs.State.{FileState, Memory, MemberStatus}
use Rattle.library_steps.specs.UniqueKeys.{UniquePath, all_apart, has_member, own_unique, unique_paths, uniques_by}
use Rattle.parts_model.specs.Given.{IsTold}
use Rattle.parts_model.proofs.FlatLemmas.{each-flat}
use Rattle.parts_model.proofs.GivenKeys.{TellsAll}
use Rattle.parts_model.proofs.IndexPaths.{over-own, physical-of}

-- ---- the paths that are unique over a member

abbrev pub IsUniqueOver : (member : ℕ) → UniquePath → Type 0
IsUniqueOver member unique = (is_over member unique.path ≡ true) × (unique.path.unique ≡ true)

both-true : (a b : Bool) → (a && b) ≡ true → (a ≡ true) × (b ≡ true)
both-true true true h = (refl, refl)
both-true true false h = absurd cc
both-true false b h = absurd cc

module _ (member : ℕ) where
  each-over : (file : List ℕ) (specs : List PathSpec)
      → AllByRecursion (IsUniqueOver member) (map (λ (path : PathSpec). record { file = file; path = path }) (filter (λ (path : PathSpec). path.unique && is_over member path) specs))
  each-over file [] = tt
  each-over file (spec ∷ specs) = by (spec.unique && is_over member spec) refl (each-over file specs)
    where
      by : (b : Bool) → (spec.unique && is_over member spec) ≡ b
          → AllByRecursion (IsUniqueOver member) (map (λ (path : PathSpec). record { file = file; path = path }) (filter (λ (path : PathSpec). path.unique && is_over member path) specs))
          → AllByRecursion (IsUniqueOver member) (map (λ (path : PathSpec). record { file = file; path = path })
          (cond b (spec ∷ filter (λ (path : PathSpec). path.unique && is_over member path) specs) (filter (λ (path : PathSpec). path.unique && is_over member path) specs)))
      by true passes rest = let both = both-true spec.unique (is_over member spec) passes in ((both.1, both.0), rest)
      by false fails rest = rest

  own-unique : (file : List ℕ) (spec : PhysicalSpec) (members : Named MemberStatus) → AllByRecursion (IsUniqueOver member) (own_unique file member spec members)
  own-unique file spec members = by spec.keys.unique refl (has_member member members)
    where
      by : (u : Bool) → spec.keys.unique ≡ u → (h : Bool)
          → AllByRecursion (IsUniqueOver member) (if u && h then record { file = file; path = physical_path member spec.format.fields spec.keys } ∷ [] else [])
      by false unique h = tt
      by true unique false = tt
      by true unique true = ((over-own member (physical_path member spec.format.fields spec.keys) (physical-of member spec), unique), tt)

  by-over : (m : Memory) (entry : List ℕ × FileState) (spec : FileSpec) → AllByRecursion (IsUniqueOver member) (uniques_by spec m member entry)
  by-over m entry (PhysicalFile spec) = own-unique entry.0 spec entry.1.members
  by-over m entry (LogicalFile spec) = each-over entry.0 (logical_paths (bases_of m) spec)

  files-over : (m : Memory) (files : Named FileState) → AllByRecursion (λ (entry : List ℕ × FileState). AllByRecursion (IsUniqueOver member) (uniques_by entry.1.spec m member entry)) files
  files-over m [] = tt
  files-over m (entry ∷ files) = (by-over m entry entry.1.spec, files-over m files)

  uniques-over : (m : Memory) → AllByRecursion (IsUniqueOver member) (unique_paths member m)
  uniques-over m = each-flat (IsUniqueOver member) (λ (entry : List ℕ × FileState). uniques_by entry.1.spec m member entry) m.files (files-over m m.files)

-- ---- none has equal keys

-- so it is told of a kept path
pub none-there : (id : ℕ) (path : KeptPath) (paths : NumberedPaths) (found : Option Repeated) → found ≡ first_repeated (id ∷ []) paths → found ≡ None → item_at id paths ≡ Some path
    → repeated_of path ≡ None
none-there id path paths found is none at = by (repeated_of path) (sym none ∙ is ∙ ap (λ (o : Option KeptPath). found_or id (option_and_then repeated_of o) None) at)
  where
    by : (o : Option ℕ) → ◌≡◌ {A = Option Repeated} None (found_or id o None) → o ≡ None
    by None e = refl
    by (Some rrn) e = absurd cc

-- of all unique ones over the member
abbrev pub HaveNone : (member : ℕ) → NumberedPaths → Type 0
HaveNone member paths = (id : ℕ) (path : KeptPath) → item_at id paths ≡ Some path → is_over member path.spec ≡ true → path.spec.unique ≡ true → repeated_of path ≡ None

each-apart : (member : ℕ) (paths : NumberedPaths) (later : Memory) → HaveNone member paths → (uniques : List UniquePath) → AllByRecursion (IsTold later.members paths) uniques
    → AllByRecursion (IsUniqueOver member) uniques → all_apart uniques later ≡ Ok true
each-apart member paths later none [] told over = refl
each-apart member paths later none (unique ∷ uniques) told over =
    let its = told.0 in
    let kept : repeated_of its.kept ≡ None = none its.number its.kept its.at (ap (is_over member) its.same ∙ over.0.0) (ap (λ (p : PathSpec). p.unique) its.same ∙ over.0.1) in
    let is : repeated_in unique.path later.members ≡ None = sym (its.told its.number its.kept its.at its.same) ∙ kept in
    ap (λ (o : Option ℕ). refuse_with (λ rrn. DuplicateKey unique.file rrn) o >>= (λ _. all_apart uniques later)) is
    ∙ each-apart member paths later none uniques told.1 over.1

pub all-apart : (files : Named FileState) (paths : NumberedPaths) (member : ℕ) → HaveNone member paths → TellsAll files paths member (Ok tt)
all-apart files paths member none = λ m later same views told. each-apart member paths later none (unique_paths member m) told (uniques-over member m)

-- What becomes of the kept paths when a member comes that isn't there yet, and when a logical file comes.
use Rattle.std.proofs.Common.{ℕ, ◌≤◌, ◌≡◌, ◌⊎◌, inl, inr, true, List, [], ◌∷◌, length, Option, Some, None, Ok, Err, refl, sym, ap, arith, ◌∙◌, subst}
use Rattle.std.specs.Option.{option_and_then, option_map}
use Rattle.std.proofs.lemmas.List.Elements.{recursion_from_All}
use Rattle.member_slots.specs.Members.{Numbered, NumberedMembers, item_at, member_at}
use Rattle.library_steps.below.dds_physical.specs.declared.physical_files.PhysicalSpec.{PhysicalSpec}
use Rattle.file_model.specs.declared.paths.PathSpec.{PathSpec}
use Rattle.file_model.specs.FilePaths.{physical_path}
use Rattle.file_model.specs.Paths.{repeated_in}
use Rattle.path_set.specs.Repeated.{TellsRepeated}
use Rattle.path_set.specs.EqualKeys.{first_repeated, found_or, repeated_of}
use Rattle.path_set.specs.declared.repeated.Repeated.{Repeated}
use Rattle.path_set.specs.KeptPaths.{KeptPath, KeptPaths, NumberedPaths, AreOver, entries_of, spare_of}
use Rattle.path_set.specs.Sharing.{CanBeKept, IsNew, IsShared, IsPut}
use Rattle.path_set.proofs.AttachLemmas.{judged-put}
use Rattle.file_catalogue.specs.KeyedFiles.{IsKeyed}
use Rattle.library_model.specs.declared.replies.Reply.TheVariants.{DuplicateKey}
use Rattle.library_paths.proofs.NumberLemmas.{each-at}
use Rattle.library_steps.specs.Refusals.{refuse_with}
use Rattle.parts_model.specs.PathChanges.{IsAttached, AttachesPath, member_path}
use Rattle.parts_model.proofs.IndexNew.{path-none, path-some, new-kept, new-tells, new-repeated}

pub none-listed : {A : Type 0} (xs : List A) → length xs ≡ 0 → xs ≡ []
none-listed [] is = refl
none-listed (x ∷ xs) is = absurd (omega (arith, is))

-- ---- the path of a member that is to be

module _ (file : PhysicalSpec) (number : ℕ) (members : NumberedMembers) (none : member_at number members ≡ None) (keyed : IsKeyed file) where
  pub attach-can : (spec : PathSpec) → spec ≡ physical_path number file.format.fields file.keys → CanBeKept spec members
  attach-can spec is = subst (λ (p : PathSpec). CanBeKept p members) (sym is) (new-kept file number members none keyed)

  -- no two of its keys are equal
  pub attach-differs : (spec : PathSpec) (rrn : ℕ) → spec ≡ physical_path number file.format.fields file.keys → (TellsRepeated spec members → repeated_in spec members ≡ Some rrn) → ⊥
  attach-differs spec rrn is told =
      let equal = told (subst (λ (p : PathSpec). TellsRepeated p members) (sym is) (new-tells file number members none keyed)) in
      let differ : repeated_in spec members ≡ None = ap (λ (p : PathSpec). repeated_in p members) is ∙ new-repeated file number members none in
      absurd cc

pub attaches-none : (file : PhysicalSpec) (number : ℕ) (members : NumberedMembers) (kept : KeptPaths) → file.keys.parts ≡ [] → AttachesPath (member_path file number) members kept kept
attaches-none file number members kept no_parts = subst (λ (o : Option PathSpec). AttachesPath o members kept kept) (sym (path-none file number no_parts)) refl

pub attaches-some : (file : PhysicalSpec) (number id : ℕ) (members : NumberedMembers) (old new : KeptPaths) (spec : PathSpec) → 1 ≤ length file.keys.parts
    → spec ≡ physical_path number file.format.fields file.keys → IsShared spec id old.paths new.paths ⊎ IsPut spec members id old.paths new.paths
    → ((other : ℕ) → spare_of other old ≤ spare_of other new) → AttachesPath (member_path file number) members old new
attaches-some file number id members old new spec some is attached spares =
    subst (λ (o : Option PathSpec). AttachesPath o members old new) (sym (path-some file number some))
    (subst (λ (p : PathSpec). IsAttached p members old new) is (record { path = (id, attached); spares = spares }))

-- ---- equal keys in the path of a logical file

-- the kept path of this specification tells of its equal keys
pub kept-repeated : (spec : PathSpec) (members : NumberedMembers) (id : ℕ) (path : KeptPath) (paths : NumberedPaths) → AreOver members paths → TellsRepeated spec members → item_at id paths ≡ Some path
    → path.spec ≡ spec → repeated_in spec members ≡ repeated_of path
kept-repeated spec members id path paths over tells at same =
    let entries : path.entries ≡ entries_of path.spec members =
    each-at (λ (p : Numbered KeptPath). p.item.entries ≡ entries_of p.item.spec members) id path paths
    (recursion_from_All (λ (p : Numbered KeptPath). p.item.entries ≡ entries_of p.item.spec members) paths over) at in
    judged-put spec path.spec members path.entries (repeated_of path) same entries refl tells

-- so does what was found in it
found-rrn : (id : ℕ) (path : KeptPath) (paths : NumberedPaths) (found : Option Repeated) → item_at id paths ≡ Some path → found ≡ first_repeated (id ∷ []) paths
    → option_map (λ (r : Repeated). r.rrn) found ≡ repeated_of path
found-rrn id path paths found at is =
    ap (option_map (λ (r : Repeated). r.rrn)) (is ∙ ap (λ (o : Option KeptPath). found_or id (option_and_then repeated_of o) None) at) ∙ by (repeated_of path)
  where
    by : (o : Option ℕ) → option_map (λ (r : Repeated). r.rrn) (found_or id o None) ≡ o
    by None = refl
    by (Some rrn) = refl

pub there-repeated : (spec : PathSpec) (members : NumberedMembers) (id : ℕ) (paths : NumberedPaths) (found : Option Repeated)
    → (path : KeptPath) × (item_at id paths ≡ Some path) × (path.spec ≡ spec) → found ≡ first_repeated (id ∷ []) paths → AreOver members paths → TellsRepeated spec members
    → repeated_in spec members ≡ option_map (λ (r : Repeated). r.rrn) found
there-repeated spec members id paths found its is over tells =
    kept-repeated spec members id its.0 paths over tells its.1 its.2 ∙ sym (found-rrn id its.0 paths found its.1 is)

-- whether it is refused
pub refused-with : (file : List ℕ) (rrn : ℕ) (o : Option ℕ) → o ≡ Some rrn → refuse_with (DuplicateKey file) o ≡ Err (DuplicateKey file rrn)
refused-with file rrn o is = ap (refuse_with (DuplicateKey file)) is

pub allowed-with : (file : List ℕ) (o : Option ℕ) → o ≡ None → refuse_with (DuplicateKey file) o ≡ Ok true
allowed-with file o is = ap (refuse_with (DuplicateKey file)) is

pub none-either : (spec : PathSpec) (members : NumberedMembers) (paths : NumberedPaths) → (IsNew spec paths → repeated_in spec members ≡ None) → IsNew spec paths ⊎ (repeated_in spec members ≡ None)
    → repeated_in spec members ≡ None
none-either spec members paths none (inl new) = none new
none-either spec members paths none (inr is) = is

-- Which base files are there still, and are what they were, where a file or a member comes, a status changes, or a file goes.
use Rattle.std.proofs.Common.{◌≡◌, ◌∙◌, ℕ, ◌==◌, cond, if◌then◌else◌, Bool, true, false, not, List, [], ◌∷◌, ◌++◌, map, Option, Some, None, is_some, IsSome, refl, sym, ap, subst}
use Rattle.std.specs.List.{AllByRecursion, list_any}
use Rattle.std.specs.Option.{option_and_then, option_map, option_map_or}
use Rattle.std.proofs.lemmas.Bool.{true≢false, or_parts}
use Rattle.library_steps.below.dds_physical.specs.declared.physical_files.PhysicalSpec.{PhysicalSpec}
use Rattle.logical_model.specs.Bases.{Base, Bases, FileSpec, PhysicalFile, LogicalFile, base_names}
use Rattle.logical_laws.specs.Mapped.{AreSameBases}
use Rattle.library_model.specs.Named.{Named, named, same_name}
use Rattle.library_steps.specs.CreatePhysicalFile.{new_status}
use Rattle.library_steps.specs.DeleteFile.{depends_by, file_refers, first_dependent, without_file}
use Rattle.library_steps.specs.LogicalFiles.{base_in, bases_in}
use Rattle.library_steps.specs.MemberCommands.{file_changed, with_member_name}
use Rattle.library_steps.specs.State.{FileState, MemberStatus, if_physical, format_in, physical_among, status_changed}
use Rattle.library_paths.specs.AllPaths.{AllStand, StandsBy}
use Rattle.library_paths.proofs.ListLemmas.{each-filter, each-of, each-two}
use Rattle.library_paths.proofs.NameLemmas.{each-named, each_changed, named-before, named-changed, named-each_changed, named-more, named-without}

-- a file stands beside all these
abbrev pub Stands : Named FileState → List ℕ × FileState → Type 0
Stands all entry = StandsBy all entry.0 entry.1.members entry.1.spec

-- the bases of a file are what they were
abbrev pub AreAlike : (bases other : Bases) → FileSpec → Type 0
AreAlike bases other (PhysicalFile spec) = Unit {0}
AreAlike bases other (LogicalFile spec) = AreSameBases bases other spec

-- those of each of these files
abbrev pub AllAlike : (all others some : Named FileState) → Type 0
AllAlike all others some = AllByRecursion (λ entry. AreAlike (bases_in others) (bases_in all) entry.1.spec) some

abbrev physical_of : Option FileState → Option FileState
physical_of file = option_and_then (λ f. if_physical f.spec f) file

abbrev own_number : List ℕ → Named MemberStatus → ℕ
own_number name members = option_map_or (λ status. status.number) (named name members) 0

-- where all bases are the same
alike-all : (bases other : Bases) → ((name : List ℕ) → bases name ≡ other name) → (spec : FileSpec) → AreAlike bases other spec
alike-all bases other same (PhysicalFile spec) = tt
alike-all bases other same (LogicalFile spec) = each (base_names spec)
  where
    each : (names : List (List ℕ)) → AllByRecursion (λ name. bases name ≡ other name) names
    each [] = tt
    each (name ∷ names) = (same name, each names)

all-alike : (all others some : Named FileState) → ((name : List ℕ) → bases_in others name ≡ bases_in all name) → AllAlike all others some
all-alike all others [] same = tt
all-alike all others (entry ∷ some) same = (alike-all (bases_in others) (bases_in all) same entry.1.spec, all-alike all others some same)

-- a file stands where its bases are there still
pub stands-still : (all others : Named FileState) (name : List ℕ) (members : Named MemberStatus) (spec : FileSpec)
    → ((base : List ℕ) → IsSome (physical_among base all) → IsSome (physical_among base others)) → StandsBy all name members spec → StandsBy others name members spec
stands-still all others name members (PhysicalFile spec) keep stands = stands
stands-still all others name members (LogicalFile spec) keep stands =
    each-of (λ (base : List ℕ). IsSome (physical_among base all)) (λ (base : List ℕ). IsSome (physical_among base others)) keep (base_names spec) stands

-- ---- a file more

some-file : (file : Option FileState) → IsSome (physical_of file) → IsSome file
some-file None there = absurd (true≢false (sym there))
some-file (Some file) there = refl

pub base-more : (files : Named FileState) (new : List ℕ × FileState) (base : List ℕ) → IsSome (physical_among base files) → IsSome (physical_among base (files ++ new ∷ []))
base-more files new base there =
    ap (λ (file : Option FileState). is_some (physical_of file)) (named-before base files new (some-file (named base files) there)) ∙ there

pub alike-more : (files : Named FileState) (new : List ℕ × FileState) (name : List ℕ) (members : Named MemberStatus) (spec : FileSpec) → StandsBy files name members spec
    → AreAlike (bases_in (files ++ new ∷ [])) (bases_in files) spec
alike-more files new name members (PhysicalFile spec) stands = tt
alike-more files new name members (LogicalFile spec) stands =
    each-of (λ (base : List ℕ). IsSome (physical_among base files)) (λ (base : List ℕ). bases_in (files ++ new ∷ []) base ≡ bases_in files base)
    (λ base there. ap (λ (file : Option FileState). base_in base (physical_of file)) (named-before base files new (some-file (named base files) there))) (base_names spec) stands

pub all-alike-more : (files : Named FileState) (new : List ℕ × FileState) → AllStand files → AllAlike files (files ++ new ∷ []) files
all-alike-more files new stand =
    each-of (Stands files) (λ (entry : List ℕ × FileState). AreAlike (bases_in (files ++ new ∷ [])) (bases_in files) entry.1.spec)
    (λ entry stands. alike-more files new entry.0 entry.1.members entry.1.spec stands) files stand

-- ---- a file that is changed

base-file : (name : List ℕ) (now file : FileState) → now.spec ≡ file.spec
    → ((spec : PhysicalSpec) → file.spec ≡ PhysicalFile spec → own_number name now.members ≡ own_number name file.members)
    → base_in name (physical_of (Some now)) ≡ base_in name (physical_of (Some file))
base-file name now file described same = ap (λ (s : FileSpec). base_in name (if_physical s now)) described ∙ by file.spec refl
  where
    by : (spec : FileSpec) → file.spec ≡ spec → base_in name (if_physical spec now) ≡ base_in name (if_physical spec file)
    by (PhysicalFile spec) is = λ i. of (same spec is i) (described i)
      where
        of : ℕ → FileSpec → Base
        of number s = record { member = number; fields = (format_in s).fields }
    by (LogicalFile spec) is = refl

base-changed : (name : List ℕ) (change : FileState → FileState) (file : Option FileState) → ((f : FileState) → (change f).spec ≡ f.spec)
    → ((f : FileState) (spec : PhysicalSpec) → file ≡ Some f → f.spec ≡ PhysicalFile spec → own_number name (change f).members ≡ own_number name f.members)
    → base_in name (physical_of (option_map change file)) ≡ base_in name (physical_of file)
base-changed name change None described same = refl
base-changed name change (Some file) described same = base-file name (change file) file (described file) (λ spec is. same file spec refl is)

-- it is a physical file still
kind-kept : (spec : FileSpec) (file now : FileState) → IsSome (if_physical spec file) → IsSome (if_physical spec now)
kind-kept (PhysicalFile spec) file now there = refl
kind-kept (LogicalFile spec) file now there = there

physical-kept : (change : FileState → FileState) (file : Option FileState) → ((f : FileState) → (change f).spec ≡ f.spec) → IsSome (physical_of file) → IsSome (physical_of (option_map change file))
physical-kept change None described there = there
physical-kept change (Some file) described there =
    subst (λ (spec : FileSpec). IsSome (if_physical spec (change file))) (sym (described file)) (kind-kept file.spec file (change file) there)

-- ---- a member more

abbrev pub wider_files : (file member : List ℕ) → ℕ → Named FileState → Named FileState
wider_files file member number files = file_changed file (with_member_name member number) files

pub base-wider : (files : Named FileState) (file member : List ℕ) (number : ℕ) (base : List ℕ) → IsSome (physical_among base files)
    → IsSome (physical_among base (file_changed file (with_member_name member number) files))
base-wider files file member number base there =
    ap (λ (f : Option FileState). is_some (physical_of f)) (named-changed file base (with_member_name member number) files)
    ∙ elim (same_name file base) as (λ b. is_some (physical_of (cond b (option_map (with_member_name member number) (named base files)) (named base files))) ≡ true) [
      | true ↦ physical-kept (with_member_name member number) (named base files) (λ f. refl) there
      | false ↦ there
    ]

bases-wider : (files : Named FileState) (file member : List ℕ) (number : ℕ) → AllStand files → (name : List ℕ)
    → bases_in (file_changed file (with_member_name member number) files) name ≡ bases_in files name
bases-wider files file member number stand name =
    ap (λ (f : Option FileState). base_in name (physical_of f)) (named-changed file name (with_member_name member number) files)
    ∙ elim (same_name file name) as
    (λ b. base_in name (physical_of (cond b (option_map (with_member_name member number) (named name files)) (named name files))) ≡ base_in name (physical_of (named name files))) [
      | true ↦ base-changed name (with_member_name member number) (named name files) (λ f. refl) (λ f spec there is.
          ap (λ (status : Option MemberStatus). option_map_or (λ (s : MemberStatus). s.number) status 0)
          (named-before name f.members (member, new_status number)
          (subst (StandsBy files name f.members) is (each-named (λ (n : List ℕ) (its : FileState). StandsBy files n its.members its.spec) name files f stand there))))
      | false ↦ refl
    ]

pub all-alike-wider : (files : Named FileState) (file member : List ℕ) (number : ℕ) → AllStand files → (some : Named FileState)
    → AllAlike files (file_changed file (with_member_name member number) files) some
all-alike-wider files file member number stand some =
    all-alike files (file_changed file (with_member_name member number) files) some (bases-wider files file member number stand)

pub stand-wider : (files : Named FileState) (file member : List ℕ) (number : ℕ) → AllStand files → AllStand (file_changed file (with_member_name member number) files)
stand-wider files file member number stand = each files stand
  where
    kind : (name : List ℕ) (members : Named MemberStatus) (spec : FileSpec) → StandsBy files name members spec
        → StandsBy (wider_files file member number files) name (members ++ (member, new_status number) ∷ []) spec
    kind name members (PhysicalFile spec) stands = named-more name members (member, new_status number) stands
    kind name members (LogicalFile spec) stands = stands-still files (wider_files file member number files) name members (LogicalFile spec) (base-wider files file member number) stands

    one : (b : Bool) (name : List ℕ) (its : FileState) → StandsBy files name its.members its.spec
        → StandsBy (wider_files file member number files) name (cond b (with_member_name member number its) its).members (cond b (with_member_name member number its) its).spec
    one true name its stands = kind name its.members its.spec stands
    one false name its stands = stands-still files (wider_files file member number files) name its.members its.spec (base-wider files file member number) stands

    each : (some : Named FileState) → AllByRecursion (Stands files) some → AllByRecursion (Stands (wider_files file member number files)) (file_changed file (with_member_name member number) some)
    each [] all = tt
    each (entry ∷ some) all = (one (same_name file entry.0) entry.0 entry.1 all.0, each some all.1)

-- ---- the status of a member changed in all files

module _ (number : ℕ) (change : MemberStatus → MemberStatus) where
  abbrev restated : Named FileState → Named FileState
  restated files = each_changed (status_changed number change) files

  status-number : ((status : MemberStatus) → (change status).number ≡ status.number) → (name : List ℕ) (members : Named MemberStatus)
      → own_number name (map (λ entry. (entry.0, if entry.1.number == number then change entry.1 else entry.1)) members) ≡ own_number name members
  status-number keeps name [] = refl
  status-number keeps name (entry ∷ members) =
      elim (same_name name entry.0) as
      (λ b. option_map_or (λ (status : MemberStatus). status.number)
      (cond b (Some (if entry.1.number == number then change entry.1 else entry.1))
      (named name (map (λ (e : List ℕ × MemberStatus). (e.0, if e.1.number == number then change e.1 else e.1)) members))) 0
      ≡ option_map_or (λ (status : MemberStatus). status.number) (cond b (Some entry.1) (named name members)) 0) [
        | true ↦ by (entry.1.number == number)
        | false ↦ status-number keeps name members
      ]
    where
      by : (b : Bool) → (if b then change entry.1 else entry.1).number ≡ entry.1.number
      by true = keeps entry.1
      by false = refl

  status-there : (name : List ℕ) (members : Named MemberStatus) → IsSome (named name members)
      → IsSome (named name (map (λ entry. (entry.0, if entry.1.number == number then change entry.1 else entry.1)) members))
  status-there name [] there = there
  status-there name (entry ∷ members) there =
      elim (same_name name entry.0) as
      (λ b. is_some (cond b (Some entry.1) (named name members)) ≡ true
      → is_some (cond b (Some (if entry.1.number == number then change entry.1 else entry.1))
      (named name (map (λ (e : List ℕ × MemberStatus). (e.0, if e.1.number == number then change e.1 else e.1)) members))) ≡ true) [
        | true ↦ λ h. refl
        | false ↦ λ h. status-there name members h
      ] there

  bases-status : ((status : MemberStatus) → (change status).number ≡ status.number) → (files : Named FileState) (name : List ℕ)
      → bases_in (each_changed (status_changed number change) files) name ≡ bases_in files name
  bases-status keeps files name =
      ap (λ (file : Option FileState). base_in name (physical_of file)) (named-each_changed name (status_changed number change) files)
      ∙ base-changed name (status_changed number change) (named name files) (λ f. refl) (λ f spec there is. status-number keeps name f.members)

  pub all-alike-status : ((status : MemberStatus) → (change status).number ≡ status.number) → (files some : Named FileState)
      → AllAlike files (each_changed (status_changed number change) files) some
  all-alike-status keeps files some = all-alike files (each_changed (status_changed number change) files) some (bases-status keeps files)

  base-status : (files : Named FileState) (base : List ℕ) → IsSome (physical_among base files) → IsSome (physical_among base (each_changed (status_changed number change) files))
  base-status files base there =
      ap (λ (f : Option FileState). is_some (physical_of f)) (named-each_changed base (status_changed number change) files)
      ∙ physical-kept (status_changed number change) (named base files) (λ f. refl) there

  pub stand-status : (files : Named FileState) → AllStand files → AllStand (each_changed (status_changed number change) files)
  stand-status files stand = each files stand
    where
      kind : (name : List ℕ) (members : Named MemberStatus) (spec : FileSpec) → StandsBy files name members spec
          → StandsBy (restated files) name (map (λ entry. (entry.0, if entry.1.number == number then change entry.1 else entry.1)) members) spec
      kind name members (PhysicalFile spec) stands = status-there name members stands
      kind name members (LogicalFile spec) stands = stands-still files (restated files) name members (LogicalFile spec) (base-status files) stands

      each : (some : Named FileState) → AllByRecursion (Stands files) some → AllByRecursion (Stands (restated files)) (each_changed (status_changed number change) some)
      each [] all = tt
      each (entry ∷ some) all = (kind entry.0 entry.1.members entry.1.spec all.0, each some all.1)

-- ---- a file less

-- none of these depends on the file
none-dependent : (gone : List ℕ) (files : Named FileState) → first_dependent gone files ≡ None → AllByRecursion (λ (entry : List ℕ × FileState). file_refers gone entry.1 ≡ false) files
none-dependent gone [] none = tt
none-dependent gone (first ∷ files) none =
    elim (file_refers gone first.1) as (λ b. file_refers gone first.1 ≡ b → (if b then Some first.0 else first_dependent gone files) ≡ None
    → AllByRecursion (λ (entry : List ℕ × FileState). file_refers gone entry.1 ≡ false) (first ∷ files)) [
      | true ↦ λ refers e. absurd cc
      | false ↦ λ free e. (free, none-dependent gone files e)
    ] refl none

none-named : (gone : List ℕ) (names : List (List ℕ)) → list_any (same_name gone) names ≡ false → AllByRecursion (λ name. same_name gone name ≡ false) names
none-named gone [] none = tt
none-named gone (name ∷ names) none = let parts = or_parts (same_name gone name) (list_any (same_name gone) names) none in (parts.0, none-named gone names parts.1)

alike-left : (gone : List ℕ) (files : Named FileState) (spec : FileSpec) (file : FileState) → depends_by spec gone file ≡ false
    → AreAlike (bases_in (without_file gone files)) (bases_in files) spec
alike-left gone files (PhysicalFile spec) file free = tt
alike-left gone files (LogicalFile spec) file free =
    each-of (λ (name : List ℕ). same_name gone name ≡ false) (λ (name : List ℕ). bases_in (without_file gone files) name ≡ bases_in files name)
    (λ name other. ap (λ (f : Option FileState). base_in name (physical_of f)) (named-without gone name files other)) (base_names spec) (none-named gone (base_names spec) free)

pub all-alike-left : (gone : List ℕ) (files : Named FileState) → first_dependent gone files ≡ None → AllAlike files (without_file gone files) files
all-alike-left gone files none =
    each-of (λ (entry : List ℕ × FileState). file_refers gone entry.1 ≡ false)
    (λ (entry : List ℕ × FileState). AreAlike (bases_in (without_file gone files)) (bases_in files) entry.1.spec)
    (λ entry free. alike-left gone files entry.1.spec entry.1 free) files (none-dependent gone files none)

stands-left : (gone : List ℕ) (files : Named FileState) (name : List ℕ) (members : Named MemberStatus) (spec : FileSpec) (file : FileState) → depends_by spec gone file ≡ false
    → StandsBy files name members spec → StandsBy (without_file gone files) name members spec
stands-left gone files name members (PhysicalFile spec) file free stands = stands
stands-left gone files name members (LogicalFile spec) file free stands =
    each-two (λ (base : List ℕ). same_name gone base ≡ false) (λ (base : List ℕ). IsSome (physical_among base files)) (λ (base : List ℕ). IsSome (physical_among base (without_file gone files)))
    (λ base other there. ap (λ (f : Option FileState). is_some (physical_of f)) (named-without gone base files other) ∙ there) (base_names spec)
    (none-named gone (base_names spec) free) stands

pub stand-left : (gone : List ℕ) (files : Named FileState) → first_dependent gone files ≡ None → AllStand files → AllStand (without_file gone files)
stand-left gone files none stand =
    each-filter (λ (entry : List ℕ × FileState). not (same_name gone entry.0)) (Stands (without_file gone files)) files
    (each-two (λ (entry : List ℕ × FileState). file_refers gone entry.1 ≡ false) (Stands files) (Stands (without_file gone files))
    (λ entry free stands. stands-left gone files entry.0 entry.1.members entry.1.spec entry.1 free stands) files (none-dependent gone files none) stand)

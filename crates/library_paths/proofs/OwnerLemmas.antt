-- Whose paths are those of all files? And over which members are none?
use Rattle.std.proofs.Common.{◌≡◌, ◌⊎◌, inl, inr, ◌∙◌, ℕ, ◌==◌, ◌||◌, nat_lt, cond, if◌then◌else◌, Bool, true}
use Rattle.std.proofs.Common.{false, List, [], ◌∷◌, ◌++◌, length, map, find, Option, Some, None, is_some, IsSome, Contains}
use Rattle.std.proofs.Common.{refl, sym, ap, arith, subst}
use Rattle.std.specs.Prelude.{All}
use Rattle.std.specs.List.{AllByRecursion, IsDistinct, list_any}
use Rattle.std.specs.Map.{keys_of}
use Rattle.std.specs.Option.{option_and_then, option_map, option_map_or}
use Rattle.std.proofs.lemmas.Bool.Decides.{nat_tests}
use Rattle.std.proofs.lemmas.List.Elements.{All-from_recursion, recursion_from_All}
use Rattle.std.proofs.lemmas.Bool.{cond-false, cond-true, eqb-true}
use Rattle.library_steps.below.dds_physical.specs.declared.physical_files.PhysicalSpec.{PhysicalSpec}
use Rattle.logical_model.below.dds_logical.specs.declared.views.View.{View}
use Rattle.logical_model.below.dds_logical.specs.declared.views.LogicalSpec.{LogicalSpec}
use Rattle.logical_model.below.dds_logical.specs.declared.views.LogicalSpec.TheVariants.{Simple, Multi, Join}
use Rattle.logical_model.below.dds_logical.specs.declared.join_views.JoinedFile.{JoinedFile}
use Rattle.file_model.specs.declared.paths.PathFormat.{PathFormat}
use Rattle.file_model.specs.declared.paths.PathSpec.{PathSpec}
use Rattle.file_model.specs.FilePaths.{physical_path}
use Rattle.file_model.specs.Joins.{secondary_path}
use Rattle.member_slots.specs.Members.{Numbered, NumberedMembers}
use Rattle.path_set.specs.KeptPaths.{KeptPath, NumberedPaths, AreShared}
use Rattle.path_set.specs.MemberSteps.{is_over as over_member}
use Rattle.logical_model.specs.Bases.{Bases, FileSpec, PhysicalFile, LogicalFile, base_names}
use Rattle.logical_model.specs.FilePaths.{is_over, logical_paths, secondary_of, view_format}
use Rattle.library_model.specs.Named.{Named, named, same_name}
use Rattle.library_steps.specs.LogicalFiles.{base_in, bases_in, physical_paths}
use Rattle.library_steps.specs.SlotChange.{status_in}
use Rattle.library_steps.specs.State.{FileState, MemberStatus, if_physical, physical_among}
use Rattle.library_paths.specs.AllPaths.{AllStand, AreKeptFor, StandsBy, all_paths, paths_among, paths_by}
use Rattle.library_paths.specs.PathOwners.{IsOfFile, IsOfMember}
use Rattle.library_paths.proofs.BaseLemmas.{Stands}
use Rattle.library_paths.proofs.KeptLemmas.{kept-contained}
use Rattle.library_paths.proofs.ListLemmas.{each-of}
use Rattle.library_paths.proofs.NameLemmas.{each-named, name-equal, name-self, name-symm, some-same}
use Rattle.library_paths.proofs.OverLemmas.{IsIn, contained-in, in-contained}
use Rattle.library_paths.proofs.PathsLemmas.{path_over}

-- ---- each file by its name

-- another name than that of a file that isn't among them
name-differs : (first name : List ℕ) (files : Named FileState) (file : FileState) → AllByRecursion (λ other. same_name first other ≡ false) (keys_of files) → named name files ≡ Some file
    → same_name name first ≡ false
name-differs first name [] file all found = absurd cc
name-differs first name (entry ∷ files) file all found =
    elim (same_name name entry.0) as (λ b. same_name name entry.0 ≡ b → cond b (Some entry.1) (named name files) ≡ Some file → same_name name first ≡ false) [
      | true ↦ λ same e. ap (λ (n : List ℕ). same_name n first) (name-equal name entry.0 same) ∙ name-symm entry.0 first ∙ all.0
      | false ↦ λ differs e. name-differs first name files file all.1 e
    ] refl found

named-first : (entry : List ℕ × FileState) (files : Named FileState) → named entry.0 (entry ∷ files) ≡ Some entry.1
named-first entry files = cond-true (same_name entry.0 entry.0) (Some entry.1) (named entry.0 files) (name-self entry.0)

named-later : (entry : List ℕ × FileState) (files : Named FileState) (name : List ℕ) (file : FileState) → AllByRecursion (λ other. same_name entry.0 other ≡ false) (keys_of files)
    → named name files ≡ Some file → named name (entry ∷ files) ≡ Some file
named-later entry files name file all found =
    cond-false (same_name name entry.0) (Some entry.1) (named name files) (name-differs entry.0 name files file all found) ∙ found

-- what holds of what each name finds holds of each
pub each-found : (P : List ℕ → FileState → Type 0) (files : Named FileState) → IsDistinct same_name (keys_of files)
    → ((name : List ℕ) (file : FileState) → named name files ≡ Some file → P name file) → AllByRecursion (λ (entry : List ℕ × FileState). P entry.0 entry.1) files
unfolding IsDistinct
each-found P [] distinct each = tt
each-found P (entry ∷ files) distinct each = (
  each entry.0 entry.1 (named-first entry files),
  each-found P files distinct.1 (λ name file found. each name file (named-later entry files name file distinct.0 found)),
)

pub all-stand : (files : Named FileState) → IsDistinct same_name (keys_of files)
    → ((name : List ℕ) (file : FileState) → named name files ≡ Some file → StandsBy files name file.members file.spec) → AllStand files
all-stand files distinct each = each-found (λ (name : List ℕ) (file : FileState). StandsBy files name file.members file.spec) files distinct each

pub one-stands : (files : Named FileState) (name : List ℕ) (file : FileState) → AllStand files → named name files ≡ Some file → StandsBy files name file.members file.spec
one-stands files name file stand found = each-named (λ (n : List ℕ) (f : FileState). StandsBy files n f.members f.spec) name files file stand found

-- ---- whose path it is

left-in : (spec : PathSpec) (specs more : List PathSpec) → IsIn spec specs → IsIn spec (specs ++ more)
left-in spec [] more its = absurd its
left-in spec (other ∷ specs) more (inl same) = inl same
left-in spec (other ∷ specs) more (inr later) = inr (left-in spec specs more later)

right-in : (spec : PathSpec) (specs more : List PathSpec) → IsIn spec more → IsIn spec (specs ++ more)
right-in spec [] more its = its
right-in spec (other ∷ specs) more its = inr (right-in spec specs more its)

in-append : (spec : PathSpec) (specs more : List PathSpec) → IsIn spec (specs ++ more) → (IsIn spec specs) ⊎ IsIn spec more
in-append spec [] more its = inr its
in-append spec (other ∷ specs) more (inl same) = inl (inl same)
in-append spec (other ∷ specs) more (inr later) =
    elim (in-append spec specs more later) [
      | inl first ↦ inl (inr first)
      | inr second ↦ inr second
    ]

-- one of these files has it
record IsOfThese (all files : Named FileState) (spec : PathSpec) : Type 0 where
  name : List ℕ
  file : FileState
  at : named name files ≡ Some file
  among : IsIn spec (paths_by all file.members file.spec)

module _ (all : Named FileState) (spec : PathSpec) where
  in-among : (name : List ℕ) (file : FileState) (files : Named FileState) → named name files ≡ Some file → IsIn spec (paths_by all file.members file.spec) → IsIn spec (paths_among all files)
  in-among name file [] found its = absurd cc
  in-among name file (entry ∷ files) found its =
      elim (same_name name entry.0) as (λ b. cond b (Some entry.1) (named name files) ≡ Some file → IsIn spec (paths_by all entry.1.members entry.1.spec ++ paths_among all files)) [
        | true ↦ λ e. left-in spec (paths_by all entry.1.members entry.1.spec) (paths_among all files)
            (subst (λ (f : FileState). IsIn spec (paths_by all f.members f.spec)) (sym (some-same e)) its)
        | false ↦ λ e. right-in spec (paths_by all entry.1.members entry.1.spec) (paths_among all files) (in-among name file files e its)
      ] found

  among-of : (files : Named FileState) → IsDistinct same_name (keys_of files) → IsIn spec (paths_among all files) → IsOfThese all files spec
  unfolding IsDistinct
  among-of [] distinct its = absurd its
  among-of (entry ∷ files) distinct its =
      elim (in-append spec (paths_by all entry.1.members entry.1.spec) (paths_among all files) its) [
        | inl here ↦ record { name = entry.0; file = entry.1; at = named-first entry files; among = here }
        | inr later ↦ let rest = among-of files distinct.1 later in
            record { name = rest.name; file = rest.file; at = named-later entry files rest.name rest.file distinct.0 rest.at; among = rest.among }
      ]

pub paths-contain : (files : Named FileState) (name : List ℕ) (file : FileState) (spec : PathSpec) → named name files ≡ Some file → Contains (paths_by files file.members file.spec) spec
    → Contains (all_paths files) spec
paths-contain files name file spec found among =
    in-contained spec (all_paths files) (in-among files spec name file files found (contained-in spec (paths_by files file.members file.spec) among))

pub paths-owner : (files : Named FileState) (spec : PathSpec) → IsDistinct same_name (keys_of files) → Contains (all_paths files) spec → IsOfFile files spec
paths-owner files spec distinct among =
    let its = among-of files spec files distinct (contained-in spec (all_paths files) among) in
    record { name = its.name; file = its.file; at = its.at; among = in-contained spec (paths_by files its.file.members its.file.spec) its.among }

-- ---- the path of a member

module _ (spec : PhysicalSpec) where
  has-path : (number : ℕ) (members : Named MemberStatus) → is_some (status_in number members) ≡ true
      → IsIn (physical_path number spec.format.fields spec.keys) (map (path_over spec) members)
  has-path number [] has = absurd (let e : false ≡ true = has in cc)
  has-path number (entry ∷ members) has =
      elim (entry.1.number == number) as (λ b. (entry.1.number == number) ≡ b
      → is_some (option_map (λ (e : List ℕ × MemberStatus). e.1) (cond b (Some entry) (find (λ (e : List ℕ × MemberStatus). e.1.number == number) members))) ≡ true
      → (path_over spec entry ≡ physical_path number spec.format.fields spec.keys) ⊎ IsIn (physical_path number spec.format.fields spec.keys) (map (path_over spec) members)) [
        | true ↦ λ same h. inl (ap (λ (n : ℕ). physical_path n spec.format.fields spec.keys) (eqb-true entry.1.number number same))
        | false ↦ λ differs h. inr (has-path number members h)
      ] refl has

  -- its number finds it, or one before it
  found-first : (entry : List ℕ × MemberStatus) (members : Named MemberStatus) → is_some (status_in entry.1.number (entry ∷ members)) ≡ true
  found-first entry members =
      elim (entry.1.number == entry.1.number) as
      (λ b. (entry.1.number == entry.1.number) ≡ b
      → is_some (option_map (λ (e : List ℕ × MemberStatus). e.1) (cond b (Some entry) (find (λ (e : List ℕ × MemberStatus). e.1.number == entry.1.number) members))) ≡ true) [
        | true ↦ λ same. refl
        | false ↦ λ differs. absurd (let e : (entry.1.number == entry.1.number) ≡ true = grind (arith, nat_tests) in cc)
      ] refl

  found-later : (number : ℕ) (entry : List ℕ × MemberStatus) (members : Named MemberStatus) → is_some (status_in number members) ≡ true → is_some (status_in number (entry ∷ members)) ≡ true
  found-later number entry members has =
      elim (entry.1.number == number) as
      (λ b. is_some (option_map (λ (e : List ℕ × MemberStatus). e.1) (cond b (Some entry) (find (λ (e : List ℕ × MemberStatus). e.1.number == number) members))) ≡ true) [
        | true ↦ refl
        | false ↦ has
      ]

  record IsOfNumber (members : Named MemberStatus) (path : PathSpec) : Type 0 where
    number : ℕ
    has : is_some (status_in number members) ≡ true
    is : physical_path number spec.format.fields spec.keys ≡ path

  path-of : (path : PathSpec) (members : Named MemberStatus) → IsIn path (map (path_over spec) members) → IsOfNumber members path
  path-of path [] its = absurd its
  path-of path (entry ∷ members) (inl same) = record { number = entry.1.number; has = found-first entry members; is = same }
  path-of path (entry ∷ members) (inr later) =
      let rest = path-of path members later in record { number = rest.number; has = found-later rest.number entry members rest.has; is = rest.is }

  pub member-path : (members : Named MemberStatus) (number : ℕ) → nat_lt 0 (length spec.keys.parts) ≡ true → is_some (status_in number members) ≡ true
      → Contains (physical_paths spec members) (physical_path number spec.format.fields spec.keys)
  member-path members number keyed has =
      in-contained (physical_path number spec.format.fields spec.keys) (physical_paths spec members)
      (subst (λ (b : Bool). IsIn (physical_path number spec.format.fields spec.keys) (if b then map (path_over spec) members else [])) (sym keyed) (has-path number members has))

  pub path-member : (members : Named MemberStatus) (path : PathSpec) → Contains (physical_paths spec members) path → IsOfMember spec members path
  path-member members path among = by (nat_lt 0 (length spec.keys.parts)) refl (contained-in path (physical_paths spec members) among)
    where
      by : (b : Bool) → nat_lt 0 (length spec.keys.parts) ≡ b → IsIn path (if b then map (path_over spec) members else []) → IsOfMember spec members path
      by true keyed its = let own = path-of path members its in record { number = own.number; keyed = keyed; has = own.has; is = own.is }
      by false none its = absurd its

-- ---- no path is over the member

abbrev Lacks : ℕ → Named MemberStatus → Type 0
Lacks number members = AllByRecursion (λ (entry : List ℕ × MemberStatus). (entry.1.number == number) ≡ false) members

abbrev IsApart : ℕ → PathSpec → Type 0
IsApart number path = is_over number path ≡ false

lacks-of : (number : ℕ) (members : Named MemberStatus) → is_some (status_in number members) ≡ false → Lacks number members
lacks-of number [] lacks = tt
lacks-of number (entry ∷ members) lacks =
    elim (entry.1.number == number) as (λ b. (entry.1.number == number) ≡ b
    → is_some (option_map (λ (e : List ℕ × MemberStatus). e.1) (cond b (Some entry) (find (λ (e : List ℕ × MemberStatus). e.1.number == number) members))) ≡ false → Lacks number (entry ∷ members)) [
      | true ↦ λ same h. absurd (let e : true ≡ false = h in cc)
      | false ↦ λ differs h. (differs, lacks-of number members h)
    ] refl lacks

or-none : (b c : Bool) → b ≡ false → c ≡ false → (b || c) ≡ false
or-none true c first second = first
or-none false c first second = second

physical-apart : (number : ℕ) (spec : PhysicalSpec) (members : Named MemberStatus) → Lacks number members → AllByRecursion (IsApart number) (physical_paths spec members)
physical-apart number spec members lacks =
    elim (nat_lt 0 (length spec.keys.parts)) as (λ b. AllByRecursion (IsApart number) (if b then map (path_over spec) members else [])) [
      | true ↦ each members lacks
      | false ↦ tt
    ]
  where
    each : (some : Named MemberStatus) → Lacks number some → AllByRecursion (IsApart number) (map (path_over spec) some)
    each [] all = tt
    each (entry ∷ some) all = (or-none (entry.1.number == number) false all.0 refl, each some all.1)

-- the members of these bases are others
abbrev AreOthers : ℕ → Bases → List (List ℕ) → Type 0
AreOthers number bases names = AllByRecursion (λ (name : List ℕ). ((bases name).member == number) ≡ false) names

views-apart : (number : ℕ) (bases : Bases) (views : List View) → AreOthers number bases (map (λ view. view.base) views)
    → list_any (λ (format : PathFormat). format.member == number) (map (view_format bases) views) ≡ false
views-apart number bases [] all = refl
views-apart number bases (view ∷ views) all =
    or-none ((bases view.base).member == number) (list_any (λ (format : PathFormat). format.member == number) (map (view_format bases) views)) all.0 (views-apart number bases views all.1)

joined-apart : (number : ℕ) (bases : Bases) (files : List JoinedFile) → AreOthers number bases (map (λ joined. joined.file) files)
    → AllByRecursion (IsApart number) (map secondary_path (map (secondary_of bases) files))
joined-apart number bases [] all = tt
joined-apart number bases (file ∷ files) all = (or-none ((bases file.file).member == number) false all.0 refl, joined-apart number bases files all.1)

logical-apart : (number : ℕ) (bases : Bases) (spec : LogicalSpec) → AreOthers number bases (base_names spec) → AllByRecursion (IsApart number) (logical_paths bases spec)
logical-apart number bases (Simple view) all = (or-none ((bases view.base).member == number) false all.0 refl, tt)
logical-apart number bases (Multi views) all = (views-apart number bases views all, tt)
logical-apart number bases (Join view) all = (or-none ((bases view.primary).member == number) false all.0 refl, joined-apart number bases view.secondaries all.1)

module _ (files : Named FileState) (number : ℕ) (stand : AllStand files)
    (lack : AllByRecursion (λ (entry : List ℕ × FileState). is_some (status_in number entry.1.members) ≡ false) files) where
  -- a base that is there has another member
  base-apart : (base : List ℕ) → IsSome (physical_among base files) → ((bases_in files base).member == number) ≡ false
  base-apart base there = by (named base files) refl there
    where
      own : (members : Named MemberStatus) (status : Option MemberStatus) → named base members ≡ status → Lacks number members → IsSome status
          → (option_map_or (λ (s : MemberStatus). s.number) status 0 == number) ≡ false
      own members None found lacks some = absurd (let e : false ≡ true = some in cc)
      own members (Some status) found lacks some = each-named (λ (n : List ℕ) (s : MemberStatus). (s.number == number) ≡ false) base members status lacks found

      kind : (spec : FileSpec) (file : FileState) → StandsBy files base file.members spec → Lacks number file.members → IsSome (if_physical spec file)
          → ((base_in base (if_physical spec file)).member == number) ≡ false
      kind (PhysicalFile spec) file stands lacks some = own file.members (named base file.members) refl lacks stands
      kind (LogicalFile spec) file stands lacks some = absurd (let e : false ≡ true = some in cc)

      by : (o : Option FileState) → named base files ≡ o → IsSome (option_and_then (λ (f : FileState). if_physical f.spec f) o)
          → ((base_in base (option_and_then (λ (f : FileState). if_physical f.spec f) o)).member == number) ≡ false
      by None found some = absurd (let e : false ≡ true = some in cc)
      by (Some file) found some =
          kind file.spec file (one-stands files base file stand found)
          (lacks-of number file.members (each-named (λ (n : List ℕ) (f : FileState). is_some (status_in number f.members) ≡ false) base files file lack found)) some

  file-apart : (name : List ℕ) (members : Named MemberStatus) (spec : FileSpec) → StandsBy files name members spec → is_some (status_in number members) ≡ false
      → AllByRecursion (IsApart number) (paths_by files members spec)
  file-apart name members (PhysicalFile spec) stands lacks = physical-apart number spec members (lacks-of number members lacks)
  file-apart name members (LogicalFile spec) stands lacks =
      logical-apart number (bases_in files) spec
      (each-of (λ (base : List ℕ). IsSome (physical_among base files)) (λ (base : List ℕ). ((bases_in files base).member == number) ≡ false) base-apart (base_names spec) stands)

  join-all : (specs more : List PathSpec) → AllByRecursion (IsApart number) specs → AllByRecursion (IsApart number) more → AllByRecursion (IsApart number) (specs ++ more)
  join-all [] more first second = second
  join-all (spec ∷ specs) more first second = (first.0, join-all specs more first.1 second)

  these-apart : (some : Named FileState) → AllByRecursion (Stands files) some → AllByRecursion (λ (entry : List ℕ × FileState). is_some (status_in number entry.1.members) ≡ false) some
      → AllByRecursion (IsApart number) (paths_among files some)
  these-apart [] stands lacks = tt
  these-apart (entry ∷ some) stands lacks =
      join-all (paths_by files entry.1.members entry.1.spec) (paths_among files some) (file-apart entry.0 entry.1.members entry.1.spec stands.0 lacks.0) (these-apart some stands.1 lacks.1)

  pub paths-apart : AllByRecursion (λ spec. is_over number spec ≡ false) (all_paths files)
  paths-apart = these-apart files stand lack

-- so none that is kept
pub kept-apart : (files : Named FileState) (number : ℕ) (members : NumberedMembers) (kept : NumberedPaths) → AllStand files
    → AllByRecursion (λ (entry : List ℕ × FileState). is_some (status_in number entry.1.members) ≡ false) files → AreShared kept → AreKeptFor (all_paths files) members kept
    → All (λ path. over_member number path.item.spec ≡ false) kept
kept-apart files number members kept stand lack shared is =
    All-from_recursion (λ (path : Numbered KeptPath). over_member number path.item.spec ≡ false) kept
    (each-of (λ (path : Numbered KeptPath). Contains (all_paths files) path.item.spec) (λ (path : Numbered KeptPath). over_member number path.item.spec ≡ false)
    (λ path among. each-contained (all_paths files) (paths-apart files number stand lack) path.item.spec (contained-in path.item.spec (all_paths files) among)) kept
    (recursion_from_All (λ (path : Numbered KeptPath). Contains (all_paths files) path.item.spec) kept (kept-contained (all_paths files) members kept shared is)))
  where
    each-contained : (specs : List PathSpec) → AllByRecursion (IsApart number) specs → (spec : PathSpec) → IsIn spec specs → over_member number spec ≡ false
    each-contained [] all spec its = absurd its
    each-contained (first ∷ specs) all spec (inl same) = subst (IsApart number) same all.0
    each-contained (first ∷ specs) all spec (inr later) = each-contained specs all.1 spec later

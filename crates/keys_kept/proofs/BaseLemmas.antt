-- The base files of logical files, when a status changes and files and members come and go: they are there, and their members of their own names stay.
use Rattle.std.proofs.Common.{◌≡◌, ◌⊎◌, inl, inr, ◌∙◌, ℕ, ◌==◌, cond, if◌then◌else◌, Bool, true, false, List, [], ◌∷◌, ◌++◌, map, Option, Some, None, is_some, subst, refl, sym, ap}
use Rattle.std.specs.List.{AllByRecursion, IsDistinct, list_any}
use Rattle.std.specs.Map.{keys_of}
use Rattle.std.specs.Option.{option_and_then, option_map, option_map_or}
use Rattle.std.proofs.lemmas.Bool.{true≢false, or_parts}
use Rattle.dds_physical.specs.declared.physical_files.PhysicalSpec.{PhysicalSpec}
use Rattle.file_model.specs.declared.paths.PathFormat.{PathFormat}
use Rattle.logical_model.specs.Bases.{Base, Bases, FileSpec, PhysicalFile, LogicalFile, base_names}
use Rattle.library_model.specs.Named.{Named, named, same_name}
use Rattle.library_steps.specs.State.{FileState, MemberStatus, if_physical, format_in, physical_among, status_changed}
use Rattle.library_steps.specs.DeleteFile.{depends_by, file_refers, first_dependent, without_file}
use Rattle.library_steps.specs.LogicalFiles.{base_in, bases_in}
use Rattle.library_steps.specs.MemberCommands.{file_changed, with_member_name}
use Rattle.library_steps.specs.CreatePhysicalFile.{new_status}
use Rattle.lawful_states.specs.Lawful.{AreBased, IsBased}
use Rattle.lawful_states.proofs.ChangeLemmas.{named-each_changed, named-file_changed}
use Rattle.lawful_states.proofs.NameLemmas.{named-without_other, same_name-self, same_name-symm}
use Rattle.key_state.proofs.FormatLemmas.{AreAsBefore, IsOver, has-status, over-map}
use Rattle.key_state.proofs.ListLemmas.{IsIn, all-in, map-in}

-- all bases are the same, so those of a file are
pub all-before : (later bases : Bases) → ((name : List ℕ) → later name ≡ bases name) → (spec : FileSpec) → AreAsBefore later bases spec
all-before later bases same (PhysicalFile spec) = tt
all-before later bases same (LogicalFile spec) = each (base_names spec)
  where
    each : (names : List (List ℕ)) → AllByRecursion (λ name. later name ≡ bases name) names
    each [] = tt
    each (name ∷ names) = (same name, each names)

-- those of whose names something holds
pub some-before : (P : List ℕ → Type 0) (later bases : Bases) (names : List (List ℕ)) → ((name : List ℕ) → P name → later name ≡ bases name) → AllByRecursion P names
    → AllByRecursion (λ name. later name ≡ bases name) names
some-before P later bases [] same all = tt
some-before P later bases (name ∷ names) same all = (same name all.0, some-before P later bases names same all.1)

-- ---- a file that is changed

abbrev own_number : List ℕ → Named MemberStatus → ℕ
own_number name members = option_map_or (λ status. status.number) (named name members) 0

abbrev physical_of : Option FileState → Option FileState
physical_of file = option_and_then (λ f. if_physical f.spec f) file

base-file : (name : List ℕ) (now file : FileState) → now.spec ≡ file.spec
    → ((spec : PhysicalSpec) → file.spec ≡ PhysicalFile spec → own_number name now.members ≡ own_number name file.members)
    → base_in name (physical_of (Some now)) ≡ base_in name (physical_of (Some file))
base-file name now file described same = ap (λ (s : FileSpec). base_in name (if_physical s now)) described ∙ by file.spec refl
  where
    by : (spec : FileSpec) → file.spec ≡ spec → base_in name (if_physical spec now) ≡ base_in name (if_physical spec file)
    by (PhysicalFile spec) is = λ i. of (same spec is i) (described i)
      where
        of : ℕ → FileSpec → Base
        of number s = record { member = number; fields = (format_in s).fields }
    by (LogicalFile spec) is = refl

base-changed : (name : List ℕ) (change : FileState → FileState) (file : Option FileState) → ((f : FileState) → (change f).spec ≡ f.spec)
    → ((f : FileState) (spec : PhysicalSpec) → file ≡ Some f → f.spec ≡ PhysicalFile spec → own_number name (change f).members ≡ own_number name f.members)
    → base_in name (physical_of (option_map change file)) ≡ base_in name (physical_of file)
base-changed name change None described same = refl
base-changed name change (Some file) described same = base-file name (change file) file (described file) (λ spec is. same file spec refl is)

-- ---- the status of a member changed in all files

status-number : (number : ℕ) (change : MemberStatus → MemberStatus) (keeps : (status : MemberStatus) → (change status).number ≡ status.number) (name : List ℕ) (members : Named MemberStatus)
    → own_number name (map (λ entry. (entry.0, if entry.1.number == number then change entry.1 else entry.1)) members) ≡ own_number name members
status-number number change keeps name [] = refl
status-number number change keeps name (entry ∷ members) =
    elim (same_name name entry.0) as
    (λ b. option_map_or (λ (status : MemberStatus). status.number)
    (cond b (Some (if entry.1.number == number then change entry.1 else entry.1))
    (named name (map (λ (e : List ℕ × MemberStatus). (e.0, if e.1.number == number then change e.1 else e.1)) members))) 0
    ≡ option_map_or (λ (status : MemberStatus). status.number) (cond b (Some entry.1) (named name members)) 0) [
      | true ↦ by (entry.1.number == number)
      | false ↦ status-number number change keeps name members
    ]
  where
    by : (b : Bool) → (if b then change entry.1 else entry.1).number ≡ entry.1.number
    by true = keeps entry.1
    by false = refl

bases-status : (number : ℕ) (change : MemberStatus → MemberStatus) (keeps : (status : MemberStatus) → (change status).number ≡ status.number) (files : Named FileState) (name : List ℕ)
    → bases_in (map (λ entry. (entry.0, status_changed number change entry.1)) files) name ≡ bases_in files name
bases-status number change keeps files name =
    ap (λ (file : Option FileState). base_in name (physical_of file)) (named-each_changed name (status_changed number change) files)
    ∙ base-changed name (status_changed number change) (named name files) (λ f. refl) (λ f spec there is. status-number number change keeps name f.members)

pub over-status : (number : ℕ) (change : MemberStatus → MemberStatus) (files : Named FileState) (format : PathFormat) → ((status : MemberStatus) → (change status).number ≡ status.number)
    → IsOver (map (λ entry. (entry.0, status_changed number change entry.1)) files) format → IsOver files format
over-status number change files format keeps over =
    elim (over-map (λ (entry : List ℕ × FileState). (entry.0, status_changed number change entry.1)) (λ n. ⊥) files format
    (λ entry. all-before (bases_in (map (λ e. (e.0, status_changed number change e.1)) files)) (bases_in files) (bases-status number change keeps files) entry.1.spec) (λ entry. refl)
    (λ entry member has. inl (sym (has-status number member change keeps entry.1.members) ∙ has)) over) [
      | inl same ↦ same
      | inr none ↦ absurd none
    ]

-- ---- a member more

-- what has a name stays under it
named-push : {A : Type 0} (name : List ℕ) (things : Named A) (new : List ℕ × A) → is_some (named name things) ≡ true → named name (things ++ new ∷ []) ≡ named name things
named-push name [] new there = absurd (true≢false (sym there))
named-push {A} name (thing ∷ things) new there =
    elim (same_name name thing.0) as
    (λ b. is_some (cond b (Some thing.1) (named name things)) ≡ true → cond b (Some thing.1) (named name (things ++ new ∷ [])) ≡ cond b (Some thing.1) (named name things)) [
      | true ↦ λ h. refl
      | false ↦ λ h. named-push name things new h
    ] there

pub bases-member : (file member : List ℕ) (number : ℕ) (files : Named FileState) → AreBased files → (name : List ℕ)
    → bases_in (file_changed file (with_member_name member number) files) name ≡ bases_in files name
bases-member file member number files based name =
    ap (λ (f : Option FileState). base_in name (physical_of f)) (named-file_changed file name (with_member_name member number) files)
    ∙ elim (same_name file name) as
    (λ b. base_in name (physical_of (cond b (option_map (with_member_name member number) (named name files)) (named name files))) ≡ base_in name (physical_of (named name files))) [
      | true ↦ base-changed name (with_member_name member number) (named name files) (λ f. refl) (λ f spec there is.
          ap (λ (status : Option MemberStatus). option_map_or (λ (s : MemberStatus). s.number) status 0)
          (named-push name f.members (member, new_status number) (subst (IsBased files name f.members) is (based name f there))))
      | false ↦ refl
    ]

-- ---- a file more

-- a logical file is no base
pub bases-logical : (other : List ℕ) (new : FileState) → if_physical new.spec new ≡ None → (files : Named FileState) (name : List ℕ)
    → bases_in (files ++ (other, new) ∷ []) name ≡ bases_in files name
bases-logical other new none files name = ap (base_in name) (among files)
  where
    among : (fs : Named FileState) → physical_among name (fs ++ (other, new) ∷ []) ≡ physical_among name fs
    among [] =
        elim (same_name name other) as (λ b. physical_of (cond b (Some new) None) ≡ None) [
          | true ↦ none
          | false ↦ refl
        ]
    among (entry ∷ fs) =
        elim (same_name name entry.0) as (λ b. physical_of (cond b (Some entry.1) (named name (fs ++ (other, new) ∷ []))) ≡ physical_of (cond b (Some entry.1) (named name fs))) [
          | true ↦ refl
          | false ↦ among fs
        ]

-- where no two files have one name, each is found by its own
in-named : (entry : List ℕ × FileState) (files : Named FileState) → IsDistinct same_name (keys_of files) → IsIn entry files → named entry.0 files ≡ Some entry.1
unfolding IsDistinct
in-named entry [] distinct its = absurd its
in-named entry (first ∷ files) distinct (inl same) =
    subst (λ (e : List ℕ × FileState). cond (same_name e.0 first.0) (Some first.1) (named e.0 files) ≡ Some e.1) same
    (ap (λ b. cond b (Some first.1) (named first.0 files)) (same_name-self first.0))
in-named entry (first ∷ files) distinct (inr later) =
    ap (λ b. cond b (Some first.1) (named entry.0 files))
    (same_name-symm entry.0 first.0 ∙ all-in (λ name. same_name first.0 name ≡ false) entry.0 (keys_of files) distinct.0 (map-in (λ (e : List ℕ × FileState). e.0) entry files later))
    ∙ in-named entry files distinct.1 later

-- each base file of a logical file is there, so that a new one is none of them
pub file-before : (files : Named FileState) (new : List ℕ × FileState) → AreBased files → IsDistinct same_name (keys_of files) → (entry : List ℕ × FileState) → IsIn entry files
    → AreAsBefore (bases_in (files ++ new ∷ [])) (bases_in files) entry.1.spec
file-before files new based distinct entry its = by entry.1.spec (based entry.0 entry.1 (in-named entry files distinct its))
  where
    there : (file : Option FileState) → is_some (physical_of file) ≡ true → is_some file ≡ true
    there None is = absurd (true≢false (sym is))
    there (Some file) is = refl

    by : (spec : FileSpec) → IsBased files entry.0 entry.1.members spec → AreAsBefore (bases_in (files ++ new ∷ [])) (bases_in files) spec
    by (PhysicalFile spec) stands = tt
    by (LogicalFile spec) stands =
        some-before (λ name. is_some (physical_among name files) ≡ true) (bases_in (files ++ new ∷ [])) (bases_in files) (base_names spec)
        (λ name is. ap (λ (file : Option FileState). base_in name (physical_of file)) (named-push name files new (there (named name files) is))) stands.bases

-- ---- a file less

none-dependent : (gone : List ℕ) (entry : List ℕ × FileState) (files : Named FileState) → first_dependent gone files ≡ None → IsIn entry files → file_refers gone entry.1 ≡ false
none-dependent gone entry [] none its = absurd its
none-dependent gone entry (first ∷ files) none its =
    elim (file_refers gone first.1) as
    (λ b. file_refers gone first.1 ≡ b → (if b then Some first.0 else first_dependent gone files) ≡ None → (first ≡ entry) ⊎ IsIn entry files → file_refers gone entry.1 ≡ false) [
      | true ↦ λ e h i. absurd cc
      | false ↦ λ e h i. by e (λ later. none-dependent gone entry files h later) i
    ] refl none its
  where
    by : file_refers gone first.1 ≡ false → (IsIn entry files → file_refers gone entry.1 ≡ false) → (first ≡ entry) ⊎ IsIn entry files → file_refers gone entry.1 ≡ false
    by e rest (inl same) = ap (λ (f : List ℕ × FileState). file_refers gone f.1) (sym same) ∙ e
    by e rest (inr later) = rest later

none-named : (gone : List ℕ) (names : List (List ℕ)) → list_any (same_name gone) names ≡ false → AllByRecursion (λ name. same_name gone name ≡ false) names
none-named gone [] none = tt
none-named gone (name ∷ names) none = let parts = or_parts (same_name gone name) (list_any (same_name gone) names) none in (parts.0, none-named gone names parts.1)

-- no file stands over the one that goes
pub without-before : (gone : List ℕ) (files : Named FileState) → first_dependent gone files ≡ None → (entry : List ℕ × FileState) → IsIn entry files
    → AreAsBefore (bases_in (without_file gone files)) (bases_in files) entry.1.spec
without-before gone files none entry its = by entry.1.spec (none-dependent gone entry files none its)
  where
    by : (spec : FileSpec) → depends_by spec gone entry.1 ≡ false → AreAsBefore (bases_in (without_file gone files)) (bases_in files) spec
    by (PhysicalFile spec) refers = tt
    by (LogicalFile spec) refers =
        some-before (λ name. same_name gone name ≡ false) (bases_in (without_file gone files)) (bases_in files) (base_names spec)
        (λ name other. ap (λ (file : Option FileState). base_in name (physical_of file)) (named-without_other gone name files other))
        (none-named gone (base_names spec) refers)

-- The paths of all files, where a file or a member comes, a status changes, or a file goes.
use Rattle.std.proofs.Common.{◌≡◌, ◌∙◌, ℕ, ◌+◌, ◌==◌, nat_lt, cond, if◌then◌else◌, Bool, true, false, not, List, []}
use Rattle.std.proofs.Common.{◌∷◌, ◌++◌, length, map, Option, Some, None, is_some, IsSome, refl, sym, ap, arith, subst}
use Rattle.std.specs.List.{AllByRecursion, IsDistinct}
use Rattle.std.specs.Map.{keys_of}
use Rattle.std.specs.Option.{option_and_then}
use Rattle.std.proofs.lemmas.List.{append-nil, map-append}
use Rattle.std.proofs.lemmas.Grind.{flat_map-append}
use Rattle.library_steps.below.dds_physical.specs.declared.physical_files.PhysicalSpec.{PhysicalSpec}
use Rattle.file_model.specs.declared.paths.PathSpec.{PathSpec}
use Rattle.file_model.specs.FilePaths.{physical_path}
use Rattle.logical_model.specs.Bases.{FileSpec, PhysicalFile, LogicalFile}
use Rattle.logical_laws.proofs.SameLemmas.{same-paths}
use Rattle.library_model.specs.Named.{Named, named, same_name}
use Rattle.library_steps.specs.CreatePhysicalFile.{new_status}
use Rattle.library_steps.specs.DeleteFile.{first_dependent, without_file}
use Rattle.library_steps.specs.LogicalFiles.{bases_in, physical_paths}
use Rattle.library_steps.specs.MemberCommands.{file_changed, with_member_name}
use Rattle.library_steps.specs.State.{FileState, MemberStatus, if_physical, physical_among, status_changed}
use Rattle.library_paths.specs.AllPaths.{AllStand, StandsBy, all_paths, count_in, paths_among, paths_by}
use Rattle.library_paths.proofs.ListLemmas.{each-filter, each-of}
use Rattle.library_paths.proofs.CountLemmas.{count-append}
use Rattle.library_paths.proofs.NameLemmas.{each_changed, file_changed-others, name-equal, name-self, some-same, without-others}
use Rattle.library_paths.proofs.BaseLemmas.{AllAlike, AreAlike, Stands, all-alike-left, all-alike-more, all-alike-status, all-alike-wider, alike-more, base-more, stands-still, wider_files}

-- ---- paths over bases that stay

by-alike : (all others : Named FileState) (members : Named MemberStatus) (spec : FileSpec) → AreAlike (bases_in others) (bases_in all) spec → paths_by others members spec ≡ paths_by all members spec
by-alike all others members (PhysicalFile spec) alike = refl
by-alike all others members (LogicalFile spec) alike = same-paths (bases_in others) (bases_in all) spec alike

among-alike : (all others some : Named FileState) → AllAlike all others some → paths_among others some ≡ paths_among all some
among-alike all others [] alike = refl
among-alike all others (entry ∷ some) alike = λ i. by-alike all others entry.1.members entry.1.spec alike.0 i ++ among-alike all others some alike.1 i

-- ---- a file more

pub paths-more : (files : Named FileState) (name : List ℕ) (file : FileState) → AllStand files
    → all_paths (files ++ (name, file) ∷ []) ≡ all_paths files ++ paths_by (files ++ (name, file) ∷ []) file.members file.spec
paths-more files name file stand =
    flat_map-append (λ (entry : List ℕ × FileState). paths_by (files ++ (name, file) ∷ []) entry.1.members entry.1.spec) files ((name, file) ∷ [])
    ∙ (λ i. among-alike files (files ++ (name, file) ∷ []) files (all-alike-more files (name, file) stand) i
    ++ append-nil (paths_by (files ++ (name, file) ∷ []) file.members file.spec) i)

pub paths-own : (files : Named FileState) (name : List ℕ) (file : FileState) → StandsBy files name file.members file.spec
    → paths_by (files ++ (name, file) ∷ []) file.members file.spec ≡ paths_by files file.members file.spec
paths-own files name file stands =
    by-alike files (files ++ (name, file) ∷ []) file.members file.spec (alike-more files (name, file) name file.members file.spec stands)

pub paths-first : (spec : PhysicalSpec) (members : Named MemberStatus) (name : List ℕ) (status : MemberStatus) → members ≡ (name, status) ∷ []
    → physical_paths spec members ≡ (if nat_lt 0 (length spec.keys.parts) then physical_path status.number spec.format.fields spec.keys ∷ [] else [])
paths-first spec members name status only = ap (physical_paths spec) only

pub stand-first : (all : Named FileState) (name : List ℕ) (members : Named MemberStatus) (status : MemberStatus) (spec : PhysicalSpec) → members ≡ (name, status) ∷ []
    → StandsBy all name members (PhysicalFile spec)
stand-first all name members status spec only =
    subst (λ (m : Named MemberStatus). IsSome (named name m)) (sym only) (ap (λ (b : Bool). is_some (cond b (Some status) None)) (name-self name))

append-all : (all : Named FileState) (some : Named FileState) (last : List ℕ × FileState) → AllByRecursion (Stands all) some → Stands all last → AllByRecursion (Stands all) (some ++ last ∷ [])
append-all all [] last each own = (own, tt)
append-all all (entry ∷ some) last each own = (each.0, append-all all some last each.1 own)

pub stand-more : (files : Named FileState) (name : List ℕ) (file : FileState) → AllStand files → StandsBy files name file.members file.spec → AllStand (files ++ (name, file) ∷ [])
stand-more files name file stand stands =
    append-all (files ++ (name, file) ∷ []) files (name, file)
    (each-of (Stands files) (Stands (files ++ (name, file) ∷ []))
    (λ entry its. stands-still files (files ++ (name, file) ∷ []) entry.0 entry.1.members entry.1.spec (base-more files (name, file)) its) files stand)
    (stands-still files (files ++ (name, file) ∷ []) name file.members file.spec (base-more files (name, file)) stands)

-- ---- sums

sum-first : (late first : ℕ) (rest now : ℕ) (more : ℕ) → late ≡ first + more → now ≡ rest → late + now ≡ first + rest + more
sum-first late first rest now more grown same = omega (arith, grown, same)

sum-later : (first rest now : ℕ) (more : ℕ) → now ≡ rest + more → first + now ≡ first + rest + more
sum-later first rest now more grown = omega (arith, grown)

turned : (a b : ℕ) → a + b ≡ b + a
turned a b = omega arith

sum-left : (first left rest gone : ℕ) → left + gone ≡ rest → first + left + gone ≡ first + rest
sum-left first left rest gone same = omega (arith, same)

-- ---- a member more

abbrev pub path_over : PhysicalSpec → List ℕ × MemberStatus → PathSpec
path_over spec entry = physical_path entry.1.number spec.format.fields spec.keys

grown : (path : PathSpec) (spec : PhysicalSpec) (members : Named MemberStatus) (new : List ℕ × MemberStatus)
    → count_in path (physical_paths spec (members ++ new ∷ [])) ≡ count_in path (physical_paths spec members) + count_in path (physical_paths spec (new ∷ []))
grown path spec members new =
    elim (nat_lt 0 (length spec.keys.parts)) as (λ b. count_in path (if b then map (path_over spec) (members ++ new ∷ []) else [])
    ≡ count_in path (if b then map (path_over spec) members else []) + count_in path (if b then map (path_over spec) (new ∷ []) else [])) [
      | true ↦ ap (count_in path) (map-append (path_over spec) members (new ∷ [])) ∙ count-append path (map (path_over spec) members) (map (path_over spec) (new ∷ []))
      | false ↦ refl
    ]

module _ (all : Named FileState) (path : PathSpec) (name member : List ℕ) (number : ℕ) (file : FileState) (spec : PhysicalSpec) (physical : file.spec ≡ PhysicalFile spec) where
  abbrev news : ℕ
  news = count_in path (physical_paths spec ((member, new_status number) ∷ []))

  file-grown : (its : FileState) → its ≡ file
      → count_in path (paths_by all (its.members ++ (member, new_status number) ∷ []) its.spec) ≡ count_in path (paths_by all its.members its.spec) + news
  file-grown its same =
      subst (λ (s : FileSpec). count_in path (paths_by all (its.members ++ (member, new_status number) ∷ []) s) ≡ count_in path (paths_by all its.members s) + news)
      (sym (ap (λ (f : FileState). f.spec) same ∙ physical)) (grown path spec its.members (member, new_status number))

  among-wider : (files : Named FileState) → IsDistinct same_name (keys_of files) → named name files ≡ Some file
      → count_in path (paths_among all (file_changed name (with_member_name member number) files)) ≡ count_in path (paths_among all files) + news
  unfolding IsDistinct
  among-wider [] distinct found = absurd cc
  among-wider (entry ∷ files) distinct found =
      elim (same_name name entry.0) as (λ b. same_name name entry.0 ≡ b → cond b (Some entry.1) (named name files) ≡ Some file
      → count_in path (paths_by all (cond b (with_member_name member number entry.1) entry.1).members (cond b (with_member_name member number entry.1) entry.1).spec
      ++ paths_among all (file_changed name (with_member_name member number) files))
      ≡ count_in path (paths_by all entry.1.members entry.1.spec ++ paths_among all files) + news) [
        | true ↦ λ same e.
            let others : file_changed name (with_member_name member number) files ≡ files =
            file_changed-others name (with_member_name member number) files
            (subst (λ (n : List ℕ). AllByRecursion (λ other. same_name n other ≡ false) (keys_of files)) (sym (name-equal name entry.0 same)) distinct.0) in
            count-append path (paths_by all (entry.1.members ++ (member, new_status number) ∷ []) entry.1.spec) (paths_among all (file_changed name (with_member_name member number) files))
            ∙ sum-first _ _ _ _ _ (file-grown entry.1 (some-same e)) (ap (λ (fs : Named FileState). count_in path (paths_among all fs)) others)
            ∙ ap (λ (n : ℕ). n + news) (sym (count-append path (paths_by all entry.1.members entry.1.spec) (paths_among all files)))
        | false ↦ λ differs e.
            count-append path (paths_by all entry.1.members entry.1.spec) (paths_among all (file_changed name (with_member_name member number) files))
            ∙ sum-later (count_in path (paths_by all entry.1.members entry.1.spec)) _ _ _ (among-wider files distinct.1 e)
            ∙ ap (λ (n : ℕ). n + news) (sym (count-append path (paths_by all entry.1.members entry.1.spec) (paths_among all files)))
      ] refl found

-- a physical file is the one of its name
physical-named : (name : List ℕ) (files : Named FileState) (file : FileState) → physical_among name files ≡ Some file → named name files ≡ Some file
physical-named name files file found = by (named name files) refl found
  where
    kind : (spec : FileSpec) (other : FileState) → if_physical spec other ≡ Some file → other ≡ file
    kind (PhysicalFile spec) other e = some-same e
    kind (LogicalFile spec) other e = absurd cc

    by : (o : Option FileState) → named name files ≡ o → option_and_then (λ (f : FileState). if_physical f.spec f) o ≡ Some file → named name files ≡ Some file
    by None is e = absurd cc
    by (Some other) is e = is ∙ ap (λ (f : FileState). Some f) (kind other.spec other e)

pub paths-wider : (files : Named FileState) (path : PathSpec) (name member : List ℕ) (number : ℕ) (file : FileState) (spec : PhysicalSpec) → physical_among name files ≡ Some file
    → file.spec ≡ PhysicalFile spec → IsDistinct same_name (keys_of files) → AllStand files
    → count_in path (all_paths (file_changed name (with_member_name member number) files))
    ≡ count_in path (all_paths files) + count_in path (physical_paths spec ((member, new_status number) ∷ []))
paths-wider files path name member number file spec found physical distinct stand =
    ap (count_in path) (among-alike files (wider_files name member number files) (wider_files name member number files)
    (all-alike-wider files name member number stand (wider_files name member number files)))
    ∙ among-wider files path name member number file spec physical files distinct (physical-named name files file found)

-- ---- a status

module _ (number : ℕ) (change : MemberStatus → MemberStatus) (keeps : (status : MemberStatus) → (change status).number ≡ status.number) where
  physical-status : (spec : PhysicalSpec) (members : Named MemberStatus)
      → map (path_over spec) (map (λ (entry : List ℕ × MemberStatus). (entry.0, if entry.1.number == number then change entry.1 else entry.1)) members) ≡ map (path_over spec) members
  physical-status spec [] = refl
  physical-status spec (entry ∷ members) = λ i. physical_path (by (entry.1.number == number) i) spec.format.fields spec.keys ∷ physical-status spec members i
    where
      by : (b : Bool) → (if b then change entry.1 else entry.1).number ≡ entry.1.number
      by true = keeps entry.1
      by false = refl

  by-status : (all : Named FileState) (members : Named MemberStatus) (spec : FileSpec)
      → paths_by all (map (λ (entry : List ℕ × MemberStatus). (entry.0, if entry.1.number == number then change entry.1 else entry.1)) members) spec ≡ paths_by all members spec
  by-status all members (PhysicalFile spec) = ap (λ (paths : List PathSpec). if nat_lt 0 (length spec.keys.parts) then paths else []) (physical-status spec members)
  by-status all members (LogicalFile spec) = refl

  among-status : (all files : Named FileState) → paths_among all (each_changed (status_changed number change) files) ≡ paths_among all files
  among-status all [] = refl
  among-status all (entry ∷ files) = λ i. by-status all entry.1.members entry.1.spec i ++ among-status all files i

  pub paths-status : (files : Named FileState) → all_paths (each_changed (status_changed number change) files) ≡ all_paths files
  paths-status files =
      among-alike files (each_changed (status_changed number change) files) (each_changed (status_changed number change) files)
      (all-alike-status number change keeps files (each_changed (status_changed number change) files))
      ∙ among-status files files

-- ---- a file less

module _ (all : Named FileState) (path : PathSpec) (gone : List ℕ) (file : FileState) where
  abbrev lost : ℕ
  lost = count_in path (paths_by all file.members file.spec)

  among-left : (files : Named FileState) → IsDistinct same_name (keys_of files) → named gone files ≡ Some file
      → count_in path (paths_among all (without_file gone files)) + lost ≡ count_in path (paths_among all files)
  unfolding IsDistinct
  among-left [] distinct found = absurd cc
  among-left (entry ∷ files) distinct found =
      elim (same_name gone entry.0) as (λ b. same_name gone entry.0 ≡ b → cond b (Some entry.1) (named gone files) ≡ Some file
      → count_in path (paths_among all (cond (not b) (entry ∷ without_file gone files) (without_file gone files))) + lost
      ≡ count_in path (paths_by all entry.1.members entry.1.spec ++ paths_among all files)) [
        | true ↦ λ same e.
            let others : without_file gone files ≡ files =
            without-others gone files (subst (λ (n : List ℕ). AllByRecursion (λ other. same_name n other ≡ false) (keys_of files)) (sym (name-equal gone entry.0 same)) distinct.0) in
            (λ i. count_in path (paths_among all (others i)) + count_in path (paths_by all (some-same (sym e) i).members (some-same (sym e) i).spec))
            ∙ turned (count_in path (paths_among all files)) (count_in path (paths_by all entry.1.members entry.1.spec))
            ∙ sym (count-append path (paths_by all entry.1.members entry.1.spec) (paths_among all files))
        | false ↦ λ differs e.
            ap (λ (n : ℕ). n + lost) (count-append path (paths_by all entry.1.members entry.1.spec) (paths_among all (without_file gone files)))
            ∙ sum-left (count_in path (paths_by all entry.1.members entry.1.spec)) _ _ _ (among-left files distinct.1 e)
            ∙ sym (count-append path (paths_by all entry.1.members entry.1.spec) (paths_among all files))
      ] refl found

each-left : (P : List ℕ × FileState → Type 0) (gone : List ℕ) (files : Named FileState) → AllByRecursion P files → AllByRecursion P (without_file gone files)
each-left P gone files all = each-filter (λ (entry : List ℕ × FileState). not (same_name gone entry.0)) P files all

pub paths-left : (files : Named FileState) (path : PathSpec) (gone : List ℕ) (file : FileState) → named gone files ≡ Some file → IsDistinct same_name (keys_of files)
    → first_dependent gone files ≡ None
    → count_in path (all_paths (without_file gone files)) + count_in path (paths_by files file.members file.spec) ≡ count_in path (all_paths files)
paths-left files path gone file found distinct none =
    ap (λ (paths : List PathSpec). count_in path paths + count_in path (paths_by files file.members file.spec))
    (among-alike files (without_file gone files) (without_file gone files)
    (each-left (λ (entry : List ℕ × FileState). AreAlike (bases_in (without_file gone files)) (bases_in files) entry.1.spec) gone files (all-alike-left gone files none)))
    ∙ among-left files path gone file files distinct found

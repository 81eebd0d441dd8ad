-- The kept paths are those of a library still, with a file more, physical or logical, or a member.
use Rattle.std.proofs.Common.{ℕ, ◌+◌, ◌-◌, ◌<◌, ◌≤◌, ◌≡◌, ◌≢◌, ◌==◌, ◌||◌, nat_eq, nat_lt, if◌then◌else◌, Bool, true, false, cond, List, [], ◌∷◌, ◌++◌, length, map, length-append, Option, Some, None, is_some, IfSome, Ok, Err, Result, refl, sym, ap, arith, ◌∙◌, subst, slice_get, IsSome}
use Rattle.library_paths.proofs.SomeLemmas.{logical-some}
use Rattle.library_steps.below.dds_logical.specs.declared.views.View.{View}
use Rattle.std.specs.Prelude.{All, replicate}
use Rattle.std.specs.List.{AllByRecursion, IsDistinct, list_any}
use Rattle.std.specs.Map.{keys_of}
use Rattle.std.specs.Option.{option_and_then, option_to_list}
use Rattle.std.proofs.lemmas.Bool.{cond-true, eqb-true}
use Rattle.std.proofs.lemmas.Bool.Decides.{nat_tests}
use Rattle.std.proofs.lemmas.List.{length-replicate}
use Rattle.std.proofs.lemmas.List.Elements.{recursion_from_All, All-from_recursion}
use Rattle.access_path.specs.PathBytes.{IsInBytes}
use Rattle.member_slots.specs.Member.{MemberState, empty_member}
use Rattle.member_slots.specs.Members.{Numbered, NumberedMembers, member_at, put_member}
use Rattle.record_fmt.specs.Layout.{IsLaidOut}
use Rattle.library_steps.below.dds_physical.specs.declared.physical_files.PhysicalSpec.{PhysicalSpec}
use Rattle.dds_source.specs.declared.faults.DdsFault.{DdsFault}
use Rattle.dds_source.specs.declared.specifications.Source.{Source}
use Rattle.dds_source.specs.Reading.{source_of}
use Rattle.dds_source.specs.declared.keywords.Keyword.{Keyword}
use Rattle.dds_source.specs.Faults.{first_after}
use Rattle.library_steps.specs.Physical.{ties_of}
use Rattle.key_spec.specs.declared.KeyPart.{KeyPart}
use Rattle.key_spec.specs.declared.KeyPart.TheVariants.{Absent}
use Rattle.key_spec.specs.declared.Ties.TheVariants.{Rising}
use Rattle.library_steps.specs.FormatLines.{FormatLines, formats_in, is_join_file, is_multi_format}
use Rattle.library_steps.specs.Keys.{padded}
use Rattle.library_steps.specs.Logical.{described_by, faults_over, format_parts, join_described_by, logical_faults, logical_of, logical_specification, most_parts, one_or_several, view_described}
use Rattle.library_steps.below.dds_logical.specs.declared.views.LogicalSpec.{LogicalSpec}
use Rattle.library_steps.below.dds_logical.specs.declared.views.LogicalSpec.TheVariants.{Simple, Multi, Join}
use Rattle.library_steps.specs.Bases.{Base, Bases, FileSpec, PhysicalFile, LogicalFile, base_members, base_names}
use Rattle.library_steps.specs.FilePaths.{logical_paths, view_format, secondary_of}
use Rattle.library_paths.proofs.LogicalLawsListLemmas.{each-append, each-weaker}
use Rattle.library_paths.proofs.MappedLemmas.{described-mapped, described-there}
use Rattle.view_records.specs.KeyedViews.{HaveFewPairs, HaveRecords}
use Rattle.view_records.specs.Steps.{own_path}
use Rattle.view_records.proofs.DescribedLemmas.{described-keyed, found-right}
use Rattle.view_records.proofs.FormatLemmas.{described-bytes, described-formatted}
use Rattle.view_records.proofs.ViewLemmas.{paths-bytes, paths-kept}
use Rattle.journal_model.specs.Rollback.{MemberChange}
use Rattle.file_model.specs.declared.paths.PathFormat.{PathFormat}
use Rattle.file_model.specs.declared.paths.PathSpec.{PathSpec}
use Rattle.file_model.specs.FilePaths.{physical_path}
use Rattle.file_model.specs.Paths.{repeated_in}
use Rattle.path_set.specs.Repeated.{TellsRepeated}
use Rattle.path_set.specs.declared.moves.PathMove.{PathMove}
use Rattle.path_set.specs.KeptPaths.{KeptPaths, AreShared}
use Rattle.path_set.specs.MemberSteps.{is_over}
use Rattle.path_set.specs.Sharing.{CanBeKept}
use Rattle.path_set.proofs.MemberStepLemmas.{over-new}
use Rattle.file_catalogue.specs.Keyed.{AllAreKeyed}
use Rattle.lawful_states.specs.Owners.{Owns, has_number}
use Rattle.lawful_states.specs.Physical.{IsPhysical}
use Rattle.lawful_states.proofs.NameLemmas.{some-equal}
use Rattle.lawful_states.proofs.StatusLemmas.{has_number-cons}
use Rattle.file_catalogue.specs.KeyedFiles.{HasRecordsOf}
use Rattle.job_table.specs.Opens.{OpenOrder}
use Rattle.library_model.specs.Named.{Named, named, same_name}
use Rattle.library_paths.specs.AllPaths.{AllStand, StandsBy, all_paths, count_in, paths_by}
use Rattle.library_paths.proofs.BaseLemmas.{all-alike-more, all-alike-wider, alike-more}
use Rattle.library_paths.proofs.CountLemmas.{count-append}
use Rattle.library_paths.proofs.OwnerLemmas.{all-stand}
use Rattle.library_paths.proofs.PathsLemmas.{paths-more, paths-own, paths-wider}
use Rattle.library_steps.specs.CreateLogicalFile.{NewLogical, first_repeated, logical_by, logical_described, logical_file}
use Rattle.library_steps.specs.CreatePhysicalFile.{new_status}
use Rattle.library_steps.specs.LogicalFiles.{base_in, bases_in, bases_of, physical_paths}
use Rattle.library_steps.specs.MemberCommands.{file_changed, with_member_name}
use Rattle.library_steps.specs.State.{State, Memory, FileState, MemberStatus, JobState, fields_of, format_in, if_physical, memory_of, physical_among, physical_in, physical_spec}
use Rattle.library_steps.specs.Uses.{changer_of_any, changes_in, has_changed}
use Rattle.parts_model.specs.Indexed.{AreOfBytes, AreViewsBeside, IsIndexed, IsIndexedFor, IsUnjoined, IsView, IsViewBeside, RisesIfKeyless, HasSeveral, rows_paths}
use Rattle.lawful_states.specs.Lawful.{AreBased, GoesBack, IsBased, IsLibrary, StandsOver}
use Rattle.parts_model.specs.PathChanges.{AttachesPath, member_path, Attaches, AttachesNone, HasNoChange}
use Rattle.lawful_states.proofs.BaseLemmas.{base-is, kept-more, kept-wider, physical-described, physical-found, physical-here, physical-member, some-of}
use Rattle.lawful_states.proofs.BackLemmas.{neither}
use Rattle.parts_model.proofs.IndexPaths.{IsOfMember, changes-all, over-other, physical-of}
use Rattle.parts_model.proofs.IndexShared.{IsUnchanged, IsIndexed-attached, IsIndexed-files, IsIndexed-members, opens-stay}
use Rattle.parts_model.proofs.IndexStatus.{beside-alike, files-alike, views-alike}
use Rattle.parts_model.proofs.IndexGone.{jobs-free}
use Rattle.file_model.specs.Joins.{secondary_path}
use Rattle.library_steps.below.dds_logical.specs.declared.join_views.JoinedFile.{JoinedFile}
use Rattle.join_records.proofs.DescribedLemmas.{described-linked}

-- ---- each file stands

stands-based : (files : Named FileState) (name : List ℕ) (members : Named MemberStatus) (spec : FileSpec) → IsBased files name members spec → StandsBy files name members spec
stands-based files name members (PhysicalFile spec) based = based
stands-based files name members (LogicalFile spec) based = based.bases

pub stand-based : (files : Named FileState) → IsDistinct same_name (keys_of files) → AreBased files → AllStand files
stand-based files distinct based =
    all-stand files distinct
    (λ name file found. stands-based files name file.members file.spec (based name file found))

-- ---- a member more

fresh : (members : NumberedMembers) (next : ℕ) → AllByRecursion (λ (entry : Numbered MemberState). entry.number < next) members → member_at next members ≡ None
fresh [] next all = refl
fresh (entry ∷ members) next all = grind (arith, nat_tests, all.0, fresh members next all.1)

bytes-put : (next long : ℕ) (members : NumberedMembers) → AreOfBytes members → AreOfBytes (put_member next (empty_member long) members)
bytes-put next long [] all = (tt, tt)
bytes-put next long (entry ∷ members) all =
    elim (nat_lt entry.number next) as (λ b. AreOfBytes (if b then entry ∷ put_member next (empty_member long) members
    else if entry.number == next then record { number = next; item = empty_member long } ∷ members else record { number = next; item = empty_member long } ∷ entry ∷ members)) [
      | true ↦ (all.0, bytes-put next long members all.1)
      | false ↦ elim (entry.number == next) as (λ b. AreOfBytes (if b then record { number = next; item = empty_member long } ∷ members
          else record { number = next; item = empty_member long } ∷ entry ∷ members)) [
            | true ↦ (tt, all.1)
            | false ↦ (tt, all)
          ]
    ]

-- ---- the next number

module _ (s : State) (lawful : IsLibrary s) where
  pub next-none : member_at s.next_member s.members ≡ None
  next-none = fresh s.members s.next_member lawful.numbers

  changed-other : (sequence : ℕ) (undo : MemberChange) → GoesBack s.files s.members sequence undo → undo.member ≢ s.next_member
  changed-other sequence undo back same =
      let there : is_some (member_at undo.member s.members) ≡ true = back.place.there in
      let none : is_some (member_at undo.member s.members) ≡ false = ap (λ (n : ℕ). is_some (member_at n s.members)) same ∙ ap (λ (o : Option MemberState). is_some o) next-none in
      absurd cc

  -- no change is of a member that a path of the next member is over
  next-unchanged : (spec : PathSpec) → IsOfMember s.next_member spec → IsUnchanged spec s.jobs
  next-unchanged spec its =
      changes-all s.files s.members (λ undo. is_over undo.member spec ≡ false)
      (λ sequence undo back. over-other s.next_member undo.member spec its (changed-other sequence undo back)) s.jobs lawful.changes

-- ---- the path of a member of a physical file, as a list

own-member : (spec : PhysicalSpec) (number : ℕ) → IfSome (member_path spec number) (IsOfMember number)
own-member spec number =
    elim (nat_lt 0 (length spec.keys.parts)) as (λ b. IfSome (if b then Some (physical_path number spec.format.fields spec.keys) else None) (IsOfMember number)) [
      | true ↦ physical-of number spec
      | false ↦ tt
    ]

listed : (spec : PhysicalSpec) (member : List ℕ) (number : ℕ) → option_to_list (member_path spec number) ≡ physical_paths spec ((member, new_status number) ∷ [])
listed spec member number =
    elim (nat_lt 0 (length spec.keys.parts)) as (λ b. option_to_list (if b then Some (physical_path number spec.format.fields spec.keys) else None)
    ≡ (if b then physical_path number spec.format.fields spec.keys ∷ [] else [])) [
      | true ↦ refl
      | false ↦ refl
    ]

turned : (a b c : ℕ) → c ≡ b + a → a + b ≡ c
turned a b c is = omega (arith, is)

-- one path more, wherever it stands among them
alike-grown : (path : PathSpec) (spec : PhysicalSpec) (member : List ℕ) (number : ℕ) (specs more : List PathSpec)
    → count_in path more ≡ count_in path specs + count_in path (physical_paths spec ((member, new_status number) ∷ []))
    → count_in path (option_to_list (member_path spec number) ++ specs) ≡ count_in path more
alike-grown path spec member number specs more grown =
    count-append path (option_to_list (member_path spec number)) specs
    ∙ ap (λ (ps : List PathSpec). count_in path ps + count_in path specs) (listed spec member number)
    ∙ turned (count_in path (physical_paths spec ((member, new_status number) ∷ []))) (count_in path specs) (count_in path more) grown

module _ (s : State) (orders : List (Named OpenOrder)) (moves : List (List (List PathMove))) (lawful : IsLibrary s) (distinct : IsDistinct same_name (keys_of s.files)) where
  stand : AllStand s.files
  stand = stand-based s.files distinct lawful.bases

  -- the next member comes, and its path is attached, where there is one
  with-member : (long : ℕ) (path : Option PathSpec) → IfSome path (IsOfMember s.next_member) → (old new : KeptPaths) → AreShared old.paths → AttachesPath path s.members old new
      → IsIndexed s.files s.members s.jobs orders moves old
      → IsIndexedFor (option_to_list path ++ all_paths s.files) s.files (put_member s.next_member (empty_member long) s.members) s.jobs orders moves new
  with-member long path own old new shared attached indexed =
      let widened = by path own attached in
      IsIndexed-members (option_to_list path ++ all_paths s.files) s.files s.members s.jobs orders moves (put_member s.next_member (empty_member long) s.members) new
      (over-new s.next_member long s.members new.paths (next-none s lawful) widened.paths.over) (bytes-put s.next_member long s.members indexed.bytes) widened
    where
      by : (o : Option PathSpec) → IfSome o (IsOfMember s.next_member) → AttachesPath o s.members old new
          → IsIndexedFor (option_to_list o ++ all_paths s.files) s.files s.members s.jobs orders moves new
      by None its same = subst (λ (k : KeptPaths). IsIndexed s.files s.members s.jobs orders moves k) (sym same) indexed
      by (Some spec) its is =
          IsIndexed-attached (all_paths s.files) s.files s.members s.jobs orders moves spec (next-unchanged s lawful spec its) old new shared is indexed

  -- ---- a file more

  module _ (name : List ℕ) (file : FileState) where
    abbrev more : Named FileState
    more = s.files ++ (name, file) ∷ []

    -- whose paths are kept
    with-file : (specs : List PathSpec) (members : NumberedMembers) (kept : KeptPaths) → IsViewBeside (s.files ++ (name, file) ∷ []) file.spec
        → ((path : PathSpec) → count_in path specs ≡ count_in path (all_paths (s.files ++ (name, file) ∷ []))) → IsIndexedFor specs s.files members s.jobs orders moves kept
        → IsIndexed (s.files ++ (name, file) ∷ []) members s.jobs orders moves kept
    with-file specs members kept own alike indexed =
        IsIndexed-files specs s.files members s.jobs orders moves (all_paths more) more kept
        (opens-stay s.files more (files-alike s.files more (all-alike-more s.files (name, file) stand) (kept-more s.files (name, file))) s.jobs)
        (each-append (λ (entry : List ℕ × FileState). IsViewBeside more entry.1.spec) s.files ((name, file) ∷ [])
        (views-alike s.files more s.files (all-alike-more s.files (name, file) stand) indexed.views) (own, tt)) alike indexed

    -- a physical file with its first member, and the path that it has, if it has any
    module _ (member : List ℕ) (spec : PhysicalSpec) (is : file.spec ≡ PhysicalFile spec) (first : file.members ≡ (member, new_status s.next_member) ∷ []) where
      pub IsIndexed-with_file : (long : ℕ) (old new : KeptPaths) → AreShared old.paths → AttachesPath (member_path spec s.next_member) s.members old new
          → IsIndexed s.files s.members s.jobs orders moves old
          → IsIndexed (s.files ++ (name, file) ∷ []) (put_member s.next_member (empty_member long) s.members) s.jobs orders moves new
      IsIndexed-with_file long old new shared attached indexed =
          with-file (option_to_list (member_path spec s.next_member) ++ all_paths s.files) (put_member s.next_member (empty_member long) s.members) new
          (subst (IsViewBeside more) (sym is) tt) grown (with-member long (member_path spec s.next_member) (own-member spec s.next_member) old new shared attached indexed)
        where
          own : paths_by more file.members file.spec ≡ physical_paths spec ((member, new_status s.next_member) ∷ [])
          own = λ i. paths_by more (first i) (is i)

          grown : (path : PathSpec) → count_in path (option_to_list (member_path spec s.next_member) ++ all_paths s.files) ≡ count_in path (all_paths (s.files ++ (name, file) ∷ []))
          grown path =
              alike-grown path spec member s.next_member (all_paths s.files) (all_paths more)
              (ap (count_in path) (paths-more s.files name file stand ∙ ap (λ (ps : List PathSpec). all_paths s.files ++ ps) own)
              ∙ count-append path (all_paths s.files) (physical_paths spec ((member, new_status s.next_member) ∷ [])))

  -- ---- a member more

  module _ (name member : List ℕ) (file : FileState) (spec : PhysicalSpec) (found : physical_among name s.files ≡ Some file) (is : file.spec ≡ PhysicalFile spec) where
    abbrev wider : Named FileState
    wider = file_changed name (with_member_name member s.next_member) s.files

    views-wider : (all files : Named FileState) → AreViewsBeside all files → AreViewsBeside all (file_changed name (with_member_name member s.next_member) files)
    views-wider all [] views = tt
    views-wider all (entry ∷ files) views = (one (same_name name entry.0) views.0, views-wider all files views.1)
      where
        one : (b : Bool) → IsViewBeside all entry.1.spec → IsViewBeside all (cond b (with_member_name member s.next_member entry.1) entry.1).spec
        one true its = its
        one false its = its

    -- with the path that it has, if it has any
    pub IsIndexed-with_member : (long : ℕ) (old new : KeptPaths) → AreShared old.paths → AttachesPath (member_path spec s.next_member) s.members old new
        → IsIndexed s.files s.members s.jobs orders moves old
        → IsIndexed (file_changed name (with_member_name member s.next_member) s.files) (put_member s.next_member (empty_member long) s.members) s.jobs orders moves new
    IsIndexed-with_member long old new shared attached indexed =
        IsIndexed-files (option_to_list (member_path spec s.next_member) ++ all_paths s.files) s.files (put_member s.next_member (empty_member long) s.members) s.jobs orders moves (all_paths wider) wider
        new
        (opens-stay s.files wider
        (files-alike s.files wider (all-alike-wider s.files name member s.next_member stand s.files) (kept-wider s.files name member s.next_member file found)) s.jobs)
        (views-alike s.files wider wider (all-alike-wider s.files name member s.next_member stand wider) (views-wider s.files s.files indexed.views))
        (λ path. alike-grown path spec member s.next_member (all_paths s.files) (all_paths wider)
        (paths-wider s.files path name member s.next_member file spec found is distinct stand))
        (with-member long (member_path spec s.next_member) (own-member spec s.next_member) old new shared attached indexed)

-- ---- a logical file

-- its own path, and those of a join over its secondary files
pub own-first : (bases : Bases) (spec : LogicalSpec) → logical_paths bases spec ≡ own_path bases spec ∷ rows_paths bases (LogicalFile spec)
own-first bases (Simple view) = refl
own-first bases (Multi views) = refl
own-first bases (Join view) = refl

-- its path is over the members of its bases, in their order
members-of-views : (bases : Bases) (views : List View)
    → map (λ (f : PathFormat). f.member) (map (view_format bases) views) ≡ map (λ (name : List ℕ). (bases name).member) (map (λ (view : View). view.base) views)
members-of-views bases [] = refl
members-of-views bases (view ∷ views) = ap (λ (ms : List ℕ). (bases view.base).member ∷ ms) (members-of-views bases views)

pub own-members : (bases : Bases) (spec : LogicalSpec) → IsUnjoined (LogicalFile spec) → map (λ (f : PathFormat). f.member) (own_path bases spec).formats ≡ base_members bases spec
own-members bases (Simple view) unjoined = refl
own-members bases (Multi views) unjoined = members-of-views bases views
own-members bases (Join view) unjoined = absurd unjoined

-- where it may have no equal keys it has one format
pub own-one : (bases : Bases) (spec : LogicalSpec) → (own_path bases spec).unique ≡ true → length (own_path bases spec).formats ≤ 1
own-one bases (Simple view) unique = omega arith
own-one bases (Multi views) unique = absurd cc
own-one bases (Join view) unique = omega arith

-- ---- the members that its paths are over are among those of its bases

abbrev is_among : ℕ → List ℕ → Bool
is_among m members = list_any (λ (n : ℕ). n == m) members

among-first : (m : ℕ) (members : List ℕ) → is_among m (m ∷ members) ≡ true
among-first m members = ap (λ (b : Bool). b || is_among m members) (let e : (m == m) ≡ true = grind (arith, nat_tests) in e)

among-behind : (n : ℕ) (members some : List ℕ) → AllByRecursion (λ (m : ℕ). is_among m members ≡ true) some → AllByRecursion (λ (m : ℕ). is_among m (n ∷ members) ≡ true) some
among-behind n members [] all = tt
among-behind n members (m ∷ some) all = (ap (λ (b : Bool). (n == m) || b) all.0 ∙ or-true (n == m), among-behind n members some all.1)
  where
    or-true : (b : Bool) → (b || true) ≡ true
    or-true true = refl
    or-true false = refl

all-among : (members : List ℕ) → AllByRecursion (λ (m : ℕ). is_among m members ≡ true) members
all-among [] = tt
all-among (m ∷ members) = (among-first m members, among-behind m members members (all-among members))

not-any : (p : ℕ → Bool) (all : List ℕ) (m : ℕ) → is_among m all ≡ true → list_any p all ≡ false → p m ≡ false
not-any p [] m is none = absurd cc
not-any p (n ∷ all) m is none =
    let parts = neither (p n) (list_any p all) none in
    by (n == m) refl parts.0 (λ h. not-any p all m h parts.1)
  where
    by : (b : Bool) → (n == m) ≡ b → p n ≡ false → (is_among m all ≡ true → p m ≡ false) → p m ≡ false
    by true e own rest = subst (λ (k : ℕ). p k ≡ false) (eqb-true n m e) own
    by false e own rest = rest (ap (λ (b : Bool). b || is_among m all) (sym e) ∙ is)

not-some : (p : ℕ → Bool) (all some : List ℕ) → AllByRecursion (λ (m : ℕ). is_among m all ≡ true) some → list_any p all ≡ false → list_any p some ≡ false
not-some p all [] among none = refl
not-some p all (m ∷ some) among none = ap (λ (b : Bool). b || list_any p some) (not-any p all m among.0 none) ∙ not-some p all some among.1 none

-- the members of a path's formats
abbrev IsOverAmong : List ℕ → PathSpec → Type 0
IsOverAmong members path = AllByRecursion (λ (m : ℕ). is_among m members ≡ true) (map (λ (f : PathFormat). f.member) path.formats)

secondaries-among : (bases : Bases) (members : List ℕ) (files : List JoinedFile)
    → AllByRecursion (λ (m : ℕ). is_among m members ≡ true) (map (λ (name : List ℕ). (bases name).member) (map (λ (joined : JoinedFile). joined.file) files))
    → AllByRecursion (IsOverAmong members) (map secondary_path (map (secondary_of bases) files))
secondaries-among bases members [] all = tt
secondaries-among bases members (joined ∷ files) all = ((all.0, tt), secondaries-among bases members files all.1)

pub paths-among : (bases : Bases) (spec : LogicalSpec) → AllByRecursion (IsOverAmong (base_members bases spec)) (logical_paths bases spec)
paths-among bases (Simple view) = ((among-first (bases view.base).member [], tt), tt)
paths-among bases (Multi views) =
    (subst (λ (ms : List ℕ). AllByRecursion (λ (m : ℕ). is_among m (base_members bases (Multi views)) ≡ true) ms) (sym (members-of-views bases views)) (all-among (base_members bases (Multi views))), tt)
paths-among bases (Join view) =
    let others : List ℕ = map (λ (name : List ℕ). (bases name).member) (map (λ (joined : JoinedFile). joined.file) view.secondaries) in
    ((among-first (bases view.primary).member others, tt), secondaries-among bases (base_members bases (Join view)) view.secondaries (among-behind (bases view.primary).member others others (all-among others)))

none-laid : IsLaidOut []
none-laid = record { few = (let few : 0 ≤ 1000 = omega arith in few); narrow = (let narrow : 0 ≤ 32766 = omega arith in narrow); lies = refl }

-- the fields of each base lie one behind another
laid-base : (files : Named FileState) (name : List ℕ) → AllAreKeyed files → IsLaidOut (bases_in files name).fields
laid-base files name keyed = by (named name files) refl
  where
    kind : (file : FileState) → named name files ≡ Some file → (its : FileSpec) → file.spec ≡ its → IsLaidOut (base_in name (if_physical its file)).fields
    kind file found (PhysicalFile spec) is =
        subst (λ (sp : FileSpec). IsLaidOut (format_in sp).fields) (sym is) (keyed name file spec found is).laid
    kind file found (LogicalFile spec) is = none-laid

    by : (o : Option FileState) → named name files ≡ o → IsLaidOut (base_in name (option_and_then (λ (file : FileState). if_physical file.spec file) o)).fields
    by None found = none-laid
    by (Some file) found = kind file found file.spec refl

laid-bases : (files : Named FileState) → AllAreKeyed files → (names : List (List ℕ)) → AllByRecursion (λ name. IsLaidOut (bases_in files name).fields) names
laid-bases files keyed [] = tt
laid-bases files keyed (name ∷ names) = (laid-base files name keyed, laid-bases files keyed names)

fields-there : (name : List ℕ) (o : Option FileState) (spec : PhysicalSpec) → option_and_then (λ file. physical_in file.spec) o ≡ Some spec
    → (base_in name (option_and_then (λ file. if_physical file.spec file) o)).fields ≡ spec.format.fields
fields-there name None spec h = absurd cc
fields-there name (Some file) spec h = by file.spec refl h
  where
    by : (its : FileSpec) → file.spec ≡ its → physical_in its ≡ Some spec → (base_in name (if_physical its file)).fields ≡ spec.format.fields
    by (PhysicalFile other) is e = let same : other ≡ spec = cc in ap (λ (sp : FileSpec). (format_in sp).fields) is ∙ ap (λ (p : PhysicalSpec). p.format.fields) same
    by (LogicalFile other) is e = absurd cc

-- ---- a file of one format without a key stands by rising numbers

no-positions : (count : ℕ) (ps : List KeyPart) → padded count ps ≡ [] → count ≡ 0
no-positions count ps none =
    let both : length (padded count ps) ≡ length ps + length (replicate (count - length ps) Absent) = length-append ps (replicate (count - length ps) Absent) in
    let rest : length (replicate (count - length ps) Absent) ≡ count - length ps = length-replicate (count - length ps) Absent in
    let zero : length (padded count ps) ≡ 0 = ap (λ (xs : List KeyPart). length xs) none in
    omega (arith, both, rest, zero)

rises-several : (described : List ℕ → Option PhysicalSpec) (ks : List Keyword) (fs : List FormatLines)
    → RisesIfKeyless (one_or_several (map (view_described described ks (is_multi_format fs) (most_parts fs)) fs))
rises-several described ks [] = tt
rises-several described ks (f ∷ []) = λ none.
    let zero : most_parts (f ∷ []) ≡ 0 = no-positions (most_parts (f ∷ [])) (format_parts described f) none in
    cond-true (most_parts (f ∷ []) == 0) Rising (ties_of ks) (let e : (most_parts (f ∷ []) == 0) ≡ true = grind (arith, nat_tests) in e)
rises-several described ks (f ∷ g ∷ fs) = tt

rises-join : (described : List ℕ → Option PhysicalSpec) (ks : List Keyword) (fs : List FormatLines) → RisesIfKeyless (join_described_by described ks fs)
rises-join described ks [] = tt
rises-join described ks (f ∷ fs) = tt

described-rises : (described : List ℕ → Option PhysicalSpec) (source : Source) (spec : LogicalSpec) → logical_of described source ≡ Ok spec → RisesIfKeyless spec
unfolding logical_of logical_specification logical_faults
described-rises described source spec h =
    let fs : List FormatLines = formats_in source.specifications in
    let right = found-right spec (described_by described source fs) (first_after None (faults_over described source (is_join_file fs) fs)) h in
    subst RisesIfKeyless right.1
    (elim (is_join_file fs) as (λ b. RisesIfKeyless (if b then join_described_by described source.file fs
    else one_or_several (map (view_described described source.file (is_multi_format fs) (most_parts fs)) fs))) [
      | true ↦ rises-join described source.file fs
      | false ↦ rises-several described source.file fs
    ])

physical-there : (m : Memory) (name : List ℕ) → is_some (physical_spec name m) ≡ true → is_some (physical_among name m.files) ≡ true
physical-there m name some = let it = some-of (physical_spec name m) some in physical-described name m it.0 it.1

-- a file of several formats has two at least, where it has one
several-views : (views : List View) → IsSome (slice_get (base_names (one_or_several views)) 0) → HasSeveral (one_or_several views)
several-views [] some = absurd cc
several-views (v ∷ []) some = tt
several-views (v ∷ w ∷ views) some = omega arith

several-join : (described : List ℕ → Option PhysicalSpec) (ks : List Keyword) (fs : List FormatLines) → IsSome (slice_get (base_names (join_described_by described ks fs)) 0)
    → HasSeveral (join_described_by described ks fs)
several-join described ks [] some = absurd cc
several-join described ks (f ∷ fs) some = tt

described-several : (described : List ℕ → Option PhysicalSpec) (source : Source) (spec : LogicalSpec) → IsSome (slice_get (base_names spec) 0) → logical_of described source ≡ Ok spec → HasSeveral spec
unfolding logical_of logical_specification logical_faults
described-several described source spec some h =
    let fs : List FormatLines = formats_in source.specifications in
    let right = found-right spec (described_by described source fs) (first_after None (faults_over described source (is_join_file fs) fs)) h in
    subst (λ (sp : LogicalSpec). IsSome (slice_get (base_names sp) 0) → HasSeveral sp) right.1
    (elim (is_join_file fs) as (λ b. IsSome (slice_get (base_names (if b then join_described_by described source.file fs
    else one_or_several (map (view_described described source.file (is_multi_format fs) (most_parts fs)) fs))) 0)
    → HasSeveral (if b then join_described_by described source.file fs
    else one_or_several (map (view_described described source.file (is_multi_format fs) (most_parts fs)) fs))) [
      | true ↦ several-join described source.file fs
      | false ↦ several-views (map (view_described described source.file (is_multi_format fs) (most_parts fs)) fs)
    ]) some

-- what a source describes over the files that are there is a view over them
pub record IsDescribedOver (m : Memory) (spec : LogicalSpec) : Type 0 where
  pub over : StandsOver m.files [] spec
  pub view : IsView (bases_of m) spec

described-by : (m : Memory) (r : Result Source DdsFault) (spec : LogicalSpec) → AllAreKeyed m.files → HaveFewPairs spec → logical_by (λ name. physical_spec name m) r ≡ Ok spec
    → IsDescribedOver m spec
described-by m (Err fault) spec keyed few h = absurd cc
described-by m (Ok source) spec keyed few h =
    let described : List ℕ → Option PhysicalSpec = λ name. physical_spec name m in record {
      over = record {
        none = refl;
        bases = each-weaker (λ (name : List ℕ). is_some (described name) ≡ true) (λ (name : List ℕ). is_some (physical_among name m.files) ≡ true) (physical-there m) (base_names spec)
            (described-there described source spec h);
      };
      view = record {
        some = logical-some described source spec h;
        several = described-several described source spec (logical-some described source spec h) h;
        keyed = described-keyed described (bases_of m) source spec (λ name its e. fields-there name (named name m.files) its e) h (laid-bases m.files keyed (base_names spec)) few;
        mapped = described-mapped described (bases_of m) source spec (λ name its e. fields-there name (named name m.files) its e) h;
        rises = described-rises described source spec h;
        formats = described-formatted described source spec h;
        bytes = described-bytes described source spec h;
        linked = described-linked described (bases_of m) source spec (λ name its e. fields-there name (named name m.files) its e) h (laid-bases m.files keyed (base_names spec));
      };
    }

pub described-over : (m : Memory) (text : List ℕ) (spec : LogicalSpec) → AllAreKeyed m.files → HaveFewPairs spec → logical_described m text ≡ Ok spec → IsDescribedOver m spec
described-over m text spec keyed few h = described-by m (source_of text) spec keyed few h

-- no open commit cycle has changed one of the members that it is over
none-changed : (number : ℕ) (undos : List MemberChange) → list_any (λ (undo : MemberChange). undo.member == number) undos ≡ false → AllByRecursion (λ (undo : MemberChange). (number == undo.member) ≡ false) undos
none-changed number [] none = tt
none-changed number (undo ∷ undos) none =
    let parts = neither (undo.member == number) (list_any (λ (u : MemberChange). u.member == number) undos) none in
    ((let e = parts.0 in let other : (number == undo.member) ≡ false = grind (arith, nat_tests, e) in other), none-changed number undos parts.1)

neither-over : (number : ℕ) (formats : List PathFormat) (undos : List MemberChange) → AllByRecursion (λ (undo : MemberChange). (number == undo.member) ≡ false) undos
    → AllByRecursion (λ (undo : MemberChange). list_any (λ (f : PathFormat). f.member == undo.member) formats ≡ false) undos
    → AllByRecursion (λ (undo : MemberChange). ((number == undo.member) || list_any (λ (f : PathFormat). f.member == undo.member) formats) ≡ false) undos
neither-over number formats [] other rest = tt
neither-over number formats (undo ∷ undos) other rest =
    (ap (λ (b : Bool). b || list_any (λ (f : PathFormat). f.member == undo.member) formats) other.0 ∙ rest.0, neither-over number formats undos other.1 rest.1)

no-formats : (undos : List MemberChange) → AllByRecursion (λ (undo : MemberChange). false ≡ false) undos
no-formats [] = tt
no-formats (undo ∷ undos) = (refl, no-formats undos)

unchanged-by : (formats : List PathFormat) (undos : List MemberChange)
    → list_any (λ (member : ℕ). list_any (λ (undo : MemberChange). undo.member == member) undos) (map (λ (f : PathFormat). f.member) formats) ≡ false
    → AllByRecursion (λ (undo : MemberChange). list_any (λ (f : PathFormat). f.member == undo.member) formats ≡ false) undos
unchanged-by [] undos none = no-formats undos
unchanged-by (format ∷ formats) undos none =
    let parts = neither (list_any (λ (undo : MemberChange). undo.member == format.member) undos)
    (list_any (λ (member : ℕ). list_any (λ (undo : MemberChange). undo.member == member) undos) (map (λ (f : PathFormat). f.member) formats)) none in
    neither-over format.member formats undos (none-changed format.member undos parts.0) (unchanged-by formats undos parts.1)

pub unchanged-path : (spec : PathSpec) (members : List ℕ) (jobs : List JobState) → map (λ (f : PathFormat). f.member) spec.formats ≡ members
    → AllByRecursion (λ (job : JobState). list_any (λ (member : ℕ). has_changed member job) members ≡ false) jobs → IsUnchanged spec jobs
unchanged-path spec members [] own none = tt
unchanged-path spec members (job ∷ jobs) own none =
    (unchanged-by spec.formats (changes_in job.cycle) (ap (list_any (λ (member : ℕ). has_changed member job)) own ∙ none.0), unchanged-path spec members jobs own none.1)

-- so none has changed one that one of its paths is over
pub paths-unchanged : (bases : Bases) (spec : LogicalSpec) (jobs : List JobState)
    → AllByRecursion (λ (job : JobState). list_any (λ (member : ℕ). has_changed member job) (base_members bases spec) ≡ false) jobs → AllByRecursion (HasNoChange jobs) (logical_paths bases spec)
paths-unchanged bases spec jobs none =
    each-weaker (IsOverAmong (base_members bases spec)) (HasNoChange jobs)
    (λ path among. unchanged-path path (map (λ (f : PathFormat). f.member) path.formats) jobs refl
    (each-weaker (λ (job : JobState). list_any (λ (member : ℕ). has_changed member job) (base_members bases spec) ≡ false)
    (λ (job : JobState). list_any (λ (member : ℕ). has_changed member job) (map (λ (f : PathFormat). f.member) path.formats) ≡ false)
    (λ job free. not-some (λ (member : ℕ). has_changed member job) (base_members bases spec) (map (λ (f : PathFormat). f.member) path.formats) among free) jobs none))
    (logical_paths bases spec) (paths-among bases spec)

-- ---- a logical file more

module _ (s : State) (orders : List (Named OpenOrder)) (moves : List (List (List PathMove))) (lawful : IsLibrary s) (distinct : IsDistinct same_name (keys_of s.files)) (name : List ℕ)
    (plan : NewLogical) (its : IsDescribedOver (memory_of s) plan.spec) (unchanged : changer_of_any (base_members (bases_in s.files) plan.spec) (memory_of s) ≡ None) where
  abbrev with_view : Named FileState
  with_view = s.files ++ (name, logical_file plan) ∷ []

  abbrev own : PathSpec
  own = own_path (bases_in s.files) plan.spec

  abbrev rows : List PathSpec
  rows = rows_paths (bases_in s.files) (LogicalFile plan.spec)

  own-unchanged : AllByRecursion (HasNoChange s.jobs) (own_path (bases_in s.files) plan.spec ∷ rows_paths (bases_in s.files) (LogicalFile plan.spec))
  own-unchanged =
      subst (AllByRecursion (HasNoChange s.jobs)) (own-first (bases_in s.files) plan.spec) (paths-unchanged (bases_in s.files) plan.spec s.jobs
      (jobs-free (λ (job : JobState). list_any (λ member. has_changed member job) (base_members (bases_in s.files) plan.spec) ≡ false)
      (λ number job. list_any (λ member. has_changed member job) (base_members (bases_in s.files) plan.spec)) (λ number job none. none) 1 s.jobs unchanged))

  all-unchanged : AllByRecursion (HasNoChange s.jobs) (rows_paths (bases_in s.files) (LogicalFile plan.spec) ++ own_path (bases_in s.files) plan.spec ∷ [])
  all-unchanged = each-append (HasNoChange s.jobs) rows (own ∷ []) own-unchanged.1 (own-unchanged.0, tt)

  own-view : IsView (bases_in with_view) plan.spec
  own-view = beside-alike s.files with_view (LogicalFile plan.spec) (alike-more s.files (name, logical_file plan) name [] (LogicalFile plan.spec) its.over.bases) its.view

  own-grown : (path : PathSpec) → count_in path ((rows_paths (bases_in s.files) (LogicalFile plan.spec) ++ own_path (bases_in s.files) plan.spec ∷ []) ++ all_paths s.files)
      ≡ count_in path (all_paths (s.files ++ (name, logical_file plan) ∷ []))
  own-grown path =
      let before = count-append path (rows ++ own ∷ []) (all_paths s.files) in
      let its_own = count-append path rows (own ∷ []) in
      let after : count_in path (all_paths with_view) ≡ count_in path (all_paths s.files) + count_in path (own ∷ rows) =
      ap (count_in path) (paths-more s.files name (logical_file plan) (stand-based s.files distinct lawful.bases)
      ∙ ap (λ (ps : List PathSpec). all_paths s.files ++ ps) (paths-own s.files name (logical_file plan) its.over.bases ∙ own-first (bases_in s.files) plan.spec))
      ∙ count-append path (all_paths s.files) (own ∷ rows) in
      let both = count-append path (own ∷ []) rows in
      omega (arith, before, its_own, after, both)

  pub IsIndexed-with_view : (old new : KeptPaths) → AreShared old.paths
      → Attaches (rows_paths (bases_in s.files) (LogicalFile plan.spec) ++ own_path (bases_in s.files) plan.spec ∷ []) s.members old new → IsIndexed s.files s.members s.jobs orders moves old
      → IsIndexed (s.files ++ (name, logical_file plan) ∷ []) s.members s.jobs orders moves new
  IsIndexed-with_view old new shared is indexed =
      with-file s orders moves lawful distinct name (logical_file plan) ((rows ++ own ∷ []) ++ all_paths s.files) s.members new own-view own-grown
      (is.indexed shared (all_paths s.files) s.files s.jobs orders moves all-unchanged indexed)

  -- or none of its paths
  pub IsIndexed-without_paths : (old new : KeptPaths) → AreShared old.paths
      → AttachesNone (rows_paths (bases_in s.files) (LogicalFile plan.spec) ++ own_path (bases_in s.files) plan.spec ∷ []) s.members old new → IsIndexed s.files s.members s.jobs orders moves old
      → IsIndexed s.files s.members s.jobs orders moves new
  IsIndexed-without_paths old new shared is indexed = is.indexed shared (all_paths s.files) s.files s.jobs orders moves all-unchanged indexed

-- ---- whether its path can be kept

named-has : (name : List ℕ) (members : Named MemberStatus) (status : MemberStatus) → named name members ≡ Some status → has_number status.number members ≡ true
named-has name [] status found = absurd cc
named-has name (entry ∷ members) status found = has_number-cons status.number entry members ∙ by (same_name name entry.0) found (named-has name members status)
  where
    by : (b : Bool) → cond b (Some entry.1) (named name members) ≡ Some status → (named name members ≡ Some status → has_number status.number members ≡ true)
        → ((entry.1.number == status.number) || has_number status.number members) ≡ true
    by true e more = let own : entry.1.number ≡ status.number = ap (λ (m : MemberStatus). m.number) (some-equal e) in grind (arith, nat_tests)
    by false e more = let rest = more e in grind (arith, nat_tests)

module _ (s : State) (lawful : IsLibrary s)
    (records : (name : List ℕ) (file : FileState) (number : ℕ) → Owns s.files name file number → HasRecordsOf (fields_of file) number s.members) where
  -- the member of a base has records of its fields
  base-records : (base : List ℕ) → is_some (physical_among base s.files) ≡ true → HasRecordsOf (bases_in s.files base).fields (bases_in s.files base).member s.members
  base-records base there =
      let its = some-of (physical_among base s.files) there in
      let found = physical-found base s.files its.0 its.1 in
      let first = some-of (named base its.0.members) (physical-member s.files base its.0.members its.0.spec found.1 (lawful.bases base its.0 found.0)) in
      subst (λ (b : Base). HasRecordsOf b.fields b.member s.members) (sym (base-is s.files base its.0 first.0 its.1 first.1))
      (records base its.0 first.0.number (record { there = found.0; has = named-has base its.0.members first.0 first.1 }))

  have-records : (spec : LogicalSpec) → StandsOver s.files [] spec → HaveRecords (bases_in s.files) spec s.members
  have-records spec over =
      each-weaker (λ (base : List ℕ). is_some (physical_among base s.files) ≡ true)
      (λ (base : List ℕ). HasRecordsOf (bases_in s.files base).fields (bases_in s.files base).member s.members) base-records (base_names spec) over.bases

  paths-can : (spec : LogicalSpec) → IsDescribedOver (memory_of s) spec
      → AllByRecursion (λ (p : PathSpec). CanBeKept p s.members) (own_path (bases_in s.files) spec ∷ rows_paths (bases_in s.files) (LogicalFile spec))
  paths-can spec its =
      recursion_from_All (λ (p : PathSpec). CanBeKept p s.members) (own_path (bases_in s.files) spec ∷ rows_paths (bases_in s.files) (LogicalFile spec))
      (subst (λ (ps : List PathSpec). All (λ (p : PathSpec). CanBeKept p s.members) ps) (own-first (bases_in s.files) spec)
      (paths-kept (bases_in s.files) spec s.members its.view.keyed (have-records spec its.over)))

  pub view-can : (spec : LogicalSpec) → IsDescribedOver (memory_of s) spec → CanBeKept (own_path (bases_in s.files) spec) s.members
  view-can spec its = (paths-can spec its).0

  pub rows-can : (spec : LogicalSpec) → IsDescribedOver (memory_of s) spec → All (λ (p : PathSpec). CanBeKept p s.members) (rows_paths (bases_in s.files) (LogicalFile spec))
  rows-can spec its = All-from_recursion (λ (p : PathSpec). CanBeKept p s.members) (rows_paths (bases_in s.files) (LogicalFile spec)) (paths-can spec its).1

  pub view-tells : (spec : LogicalSpec) → IsDescribedOver (memory_of s) spec → TellsRepeated (own_path (bases_in s.files) spec) s.members
  view-tells spec its = record {
    bytes = (recursion_from_All (λ (p : PathSpec). IsInBytes p s.members) (own_path (bases_in s.files) spec ∷ rows_paths (bases_in s.files) (LogicalFile spec))
        (subst (λ (ps : List PathSpec). All (λ (p : PathSpec). IsInBytes p s.members) ps) (own-first (bases_in s.files) spec)
        (paths-bytes (bases_in s.files) spec s.members its.view.keyed (have-records spec its.over)))).0;
    one = own-one (bases_in s.files) spec;
  }

-- what is refused of equal keys in its path
pub view-repeated : (m : Memory) (spec : LogicalSpec) → first_repeated (logical_paths (bases_of m) spec) m ≡ repeated_in (own_path (bases_of m) spec) m.members
view-repeated m spec = ap (λ (ps : List PathSpec). first_repeated ps m) (own-first (bases_of m) spec)

-- ---- physical files

pub physical-is : (file : FileSpec) (spec : PhysicalSpec) → physical_in file ≡ Some spec → file ≡ PhysicalFile spec
physical-is (PhysicalFile its) spec e = ap (λ (p : PhysicalSpec). PhysicalFile p) (some-equal e)
physical-is (LogicalFile its) spec e = absurd cc

pub physical-some : (file : FileSpec) → IsPhysical file → is_some (physical_in file) ≡ true
physical-some (PhysicalFile spec) is = refl
physical-some (LogicalFile spec) is = absurd is

-- the physical file of a name, by what it is
pub physical-by : (name : List ℕ) (files : Named FileState) (spec : PhysicalSpec) → option_and_then (λ (file : FileState). physical_in file.spec) (named name files) ≡ Some spec
    → (file : FileState) × (physical_among name files ≡ Some file) × (file.spec ≡ PhysicalFile spec)
physical-by name files spec e = by (named name files) refl e
  where
    by : (o : Option FileState) → named name files ≡ o → option_and_then (λ (file : FileState). physical_in file.spec) o ≡ Some spec
        → (file : FileState) × (physical_among name files ≡ Some file) × (file.spec ≡ PhysicalFile spec)
    by None found h = absurd cc
    by (Some file) found h =
        let is = physical-is file.spec spec h in
        (file, physical-here name files file found (subst IsPhysical (sym is) tt), is)

pub distinct-none : IsDistinct nat_eq []
unfolding IsDistinct
distinct-none = tt

-- The kept paths are those of a library still, with a file less that no job uses and on which no other depends.
use Rattle.std.proofs.Common.{ℕ, ◌+◌, ◌≡◌, ◌≢◌, inl, inr, ◌==◌, ◌&&◌, ◌||◌, nat_lt, if◌then◌else◌, Bool, true, false, cond, not, List, [], ◌∷◌, ◌++◌, length, map, get_or, Contains, Option, Some, None, IsSome, IfSome, refl, sym, ap, arith, ◌∙◌, subst}
use Rattle.std.specs.Prelude.{All, MatchOption}
use Rattle.std.specs.List.{AllByRecursion, IsDistinct, list_any}
use Rattle.std.specs.Map.{keys_of}
use Rattle.std.specs.Option.{option_map}
use Rattle.std.proofs.lemmas.Bool.{cases_eq, cond-false}
use Rattle.std.proofs.lemmas.Bool.Decides.{nat_tests}
use Rattle.std.proofs.lemmas.List.Elements.{recursion_from_All}
use Rattle.member_slots.specs.Members.{Numbered, NumberedMembers, item_at}
use Rattle.library_steps.below.dds_physical.specs.declared.physical_files.PhysicalSpec.{PhysicalSpec}
use Rattle.library_steps.below.dds_logical.specs.declared.views.LogicalSpec.{LogicalSpec}
use Rattle.file_model.specs.declared.paths.PathSpec.{PathSpec}
use Rattle.file_model.specs.FilePaths.{physical_path}
use Rattle.library_steps.specs.Bases.{FileSpec, PhysicalFile, LogicalFile, base_members, Bases}
use Rattle.library_steps.specs.Formats.{has_key}
use Rattle.library_paths.proofs.LogicalLawsListLemmas.{each-append, each-contained, each-weaker}
use Rattle.view_records.specs.Steps.{own_path}
use Rattle.path_set.specs.declared.moves.PathMove.{PathMove}
use Rattle.path_set.specs.KeptPaths.{KeptPath, KeptPaths, NumberedPaths, AreShared, spare_of}
use Rattle.path_set.specs.MemberSteps.{is_over}
use Rattle.path_set.specs.Sharing.{IsNew, detached}
use Rattle.library_paths.specs.AllPaths.{AreKeptFor, all_paths, count_in, paths_by}
use Rattle.library_paths.proofs.BaseLemmas.{AreAlike, all-alike-left, stand-left}
use Rattle.library_paths.proofs.CountLemmas.{contained-count, count-append, count-contained, count-own}
use Rattle.library_paths.proofs.KeptLemmas.{detached-shared, kept-contained}
use Rattle.library_paths.proofs.ListLemmas.{each-filter, two-from}
use Rattle.library_paths.proofs.NameLemmas.{each-named}
use Rattle.library_paths.proofs.NumberLemmas.{IsBelow, any-at, at-any, each-at}
use Rattle.library_paths.proofs.OwnerLemmas.{each-found, member-path, paths-apart, paths-contain}
use Rattle.library_paths.proofs.PathsLemmas.{paths-left}
use Rattle.file_catalogue.specs.Bodies.{logical_in}
use Rattle.lawful_states.specs.Owners.{AreApart, Owns, has_number}
use Rattle.lawful_states.proofs.NameLemmas.{named-without_other, same_name-equal, same_name-self, some-equal}
use Rattle.job_table.specs.Opens.{OpenOrder}
use Rattle.library_model.specs.Named.{Named, named, same_name}
use Rattle.library_steps.specs.DeleteFile.{first_dependent, user_by, without_file, without_members}
use Rattle.library_steps.specs.LogicalFiles.{bases_in, physical_paths}
use Rattle.library_steps.specs.Opens.{first_of}
use Rattle.library_steps.specs.Records.{is_file_path}
use Rattle.library_steps.specs.State.{State, FileState, MemberStatus, OpenState, JobState, memory_of}
use Rattle.library_steps.specs.Uses.{has_changed, has_open_of, user_of_any, user_of_logical, uses}
use Rattle.parts_model.specs.Indexed.{AreViews, IsIndexed, IsIndexedFor, IsViewBeside, path_by, path_read, rows_paths}
use Rattle.lawful_states.specs.Lawful.{IsBased, IsLibrary, OpenHolds, OpensBy, OpensFile, OpensHold}
use Rattle.parts_model.specs.PathChanges.{detached_from, without_path_over, without_paths, AreNumbers, ArePathsOf, ArePathsOfNamed, HasNoChange, detached_each}
use Rattle.parts_model.specs.Reads.{IsNumberOf}
use Rattle.lawful_states.proofs.BackLemmas.{neither}
use Rattle.lawful_states.proofs.BaseLemmas.{Keeps-self}
use Rattle.parts_model.proofs.IndexPaths.{FileStays, any-both, changes-each, over-other, over-own, own-same, physical-of, tail_of}
use Rattle.parts_model.proofs.IndexShared.{IsNumbered, IsUnchanged, OpenIsAmong, OpensAreAmong, OpensStay, clash, IsIndexed-detached, IsIndexed-files, IsIndexed-members, IsIndexed-same, files-stay, opens-stay, ReadsAmong}
use Rattle.parts_model.proofs.IndexStatus.{turned-bases, views-alike}
use Rattle.parts_model.proofs.IndexFiles.{stand-based, own-first, paths-unchanged}
use Rattle.parts_model.proofs.IndexGone.{IsFree, bytes-left, changes-free, has-first, has-later, is-free, jobs-free, over-left}
use Rattle.parts_model.proofs.IndexDetached.{first-found, found_over, none-over}
use Rattle.library_steps.below.dds_logical.specs.declared.views.LogicalSpec.TheVariants.{Simple, Multi, Join}
use Rattle.library_steps.below.dds_logical.specs.declared.join_views.JoinView.{JoinView}
use Rattle.library_steps.specs.FilePaths.{logical_paths}
use Rattle.library_paths.specs.Mapped.{AreSameBases}
use Rattle.library_paths.proofs.SameLemmas.{same-paths}
use Rattle.parts_model.proofs.ManyAttached.{giving-each, opens-more}

-- ---- what some paths contain

contained-first : (spec : PathSpec) (specs : List PathSpec) → Contains (spec ∷ specs) spec
contained-first spec specs = count-contained spec (spec ∷ specs) (let one = count-own spec spec specs refl in omega (arith, one))

rows-alike : (bases other : Bases) (view : JoinView) → AreSameBases bases other (Join view) → rows_paths bases (LogicalFile (Join view)) ≡ rows_paths other (LogicalFile (Join view))
rows-alike bases other view same = ap tail_of (same-paths bases other (Join view) same)

each-contained-behind : (front : PathSpec) (some specs : List PathSpec) → AllByRecursion (Contains specs) some → AllByRecursion (Contains (front ∷ specs)) some
each-contained-behind front [] specs all = tt
each-contained-behind front (spec ∷ some) specs all = (contained-behind spec front specs all.0, each-contained-behind front some specs all.1)
  where
    contained-behind : (spec other : PathSpec) (specs : List PathSpec) → Contains specs spec → Contains (other ∷ specs) spec
    contained-behind spec other specs there =
        count-contained spec (other ∷ specs) (let some = contained-count spec specs there in let sum = count-append spec (other ∷ []) specs in omega (arith, some, sum))

all-contained : (specs : List PathSpec) → AllByRecursion (Contains specs) specs
all-contained [] = tt
all-contained (spec ∷ specs) = (contained-first spec specs, each-contained-behind spec specs specs (all-contained specs))

some-each : {A : Type 0} (P Q : A → Type 0) → ((a : A) → P a → Q a) → (o : Option A) → IfSome o P → IfSome o Q
some-each P Q each None is = tt
some-each P Q each (Some a) is = each a is

-- the path over a member of a physical file
abbrev path_at : PhysicalSpec → ℕ → PathSpec
path_at spec number = physical_path number spec.format.fields spec.keys

turned-sum : (a b c : ℕ) → a + b ≡ c → c ≡ b + a
turned-sum a b c is = omega (arith, is)

-- no open is of the file
abbrev pub OpensApart : List ℕ → List JobState → Type 0
OpensApart gone jobs = AllByRecursion (λ job. AllByRecursion (λ (entry : List ℕ × OpenState). same_name gone entry.1.file ≡ false) job.opens) jobs

module _ (s : State) (name : List ℕ) (file : FileState) (lawful : IsLibrary s) (distinct : IsDistinct same_name (keys_of s.files)) (apart : AreApart s.files) (here : named name s.files ≡ Some file)
    (alone : first_dependent name s.files ≡ None) (views : AreViews s.files) where
  abbrev others : Named FileState
  others = without_file name s.files

  alike-of : (other : List ℕ) (another : FileState) → named other s.files ≡ Some another → AreAlike (bases_in others) (bases_in s.files) another.spec
  alike-of other another found =
      each-named (λ (n : List ℕ) (f : FileState). AreAlike (bases_in others) (bases_in s.files) f.spec) other s.files another (all-alike-left name s.files alone) found

  view-of : (other : List ℕ) (another : FileState) → named other s.files ≡ Some another → IsViewBeside s.files another.spec
  view-of other another found = each-named (λ (n : List ℕ) (f : FileState). IsViewBeside s.files f.spec) other s.files another views found

  -- ---- the paths of the others are over none of its members

  module _ (number : ℕ) (has : has_number number file.members ≡ true) where
    other-number : (other : List ℕ) (another : FileState) (m : ℕ) → Owns s.files other another m → same_name name other ≡ false → number ≢ m
    other-number other another m owns differ same =
        clash (subst (λ (n : List ℕ). same_name name n ≡ true)
        (apart.apart name other file another m (record { there = here; has = subst (λ (k : ℕ). has_number k file.members ≡ true) same has }) owns) (same_name-self name)) differ

    others-lack : (files : Named FileState) → AllByRecursion (λ (entry : List ℕ × FileState). same_name name entry.0 ≡ false → has_number number entry.1.members ≡ false) files
        → AllByRecursion (λ (entry : List ℕ × FileState). has_number number entry.1.members ≡ false) (without_file name files)
    others-lack [] each = tt
    others-lack (entry ∷ files) each =
        elim (same_name name entry.0) as (λ b. same_name name entry.0 ≡ b
        → AllByRecursion (λ (e : List ℕ × FileState). has_number number e.1.members ≡ false) (cond (not b) (entry ∷ without_file name files) (without_file name files))) [
          | true ↦ λ same. others-lack files each.1
          | false ↦ λ differ. (each.0 differ, others-lack files each.1)
        ] refl

    it-lacks : (other : List ℕ) (another : FileState) → named other s.files ≡ Some another → same_name name other ≡ false → has_number number another.members ≡ false
    it-lacks other another found differ =
        elim (has_number number another.members) as (λ b. has_number number another.members ≡ b → b ≡ false) [
          | true ↦ λ also. absurd (other-number other another number (record { there = found; has = also }) differ refl)
          | false ↦ λ none. refl
        ] refl

    pub left-apart : AllByRecursion (λ (p : PathSpec). is_over number p ≡ false) (all_paths (without_file name s.files))
    left-apart =
        paths-apart others number (stand-left name s.files alone (stand-based s.files distinct lawful.bases))
        (others-lack s.files (each-found (λ (n : List ℕ) (f : FileState). same_name name n ≡ false → has_number number f.members ≡ false) s.files distinct it-lacks))

  -- ---- opens of the others

  file-stays : (other : List ℕ) (another : FileState) → named other s.files ≡ Some another → same_name name other ≡ false → FileStays s.files others other another
  file-stays other another found differ = record {
    kept = record { another = another; there = named-without_other name other s.files differ ∙ found; keeps = Keeps-self another };
    bases = turned-bases (bases_in s.files) (bases_in others) another.spec (alike-of other another found);
  }

  opens-left : (jobs : List JobState) → OpensApart name jobs → OpensStay s.files others jobs
  opens-left [] all = tt
  opens-left (job ∷ jobs) all = (each job.opens all.0, opens-left jobs all.1)
    where
      each : (opens : Named OpenState) → AllByRecursion (λ (entry : List ℕ × OpenState). same_name name entry.1.file ≡ false) opens
          → AllByRecursion (λ (entry : List ℕ × OpenState). (f : FileState) → named entry.1.file s.files ≡ Some f → FileStays s.files others entry.1.file f) opens
      each [] own = tt
      each (entry ∷ opens) own = (λ f found. file-stays entry.1.file f found own.0, each opens own.1)

  -- the path by which one reads is one of those left
  kind-among : (opened : OpenState) (f : FileState) → named opened.file s.files ≡ Some f → (spec : FileSpec) → f.spec ≡ spec → OpensBy s.files opened f.members spec
      → IfSome (path_by (bases_in s.files) (is_file_path opened.access_path && has_key spec) (first_of opened.members) spec) (Contains (paths_by others f.members spec))
  kind-among opened f found (PhysicalFile spec) is own = by (is_file_path opened.access_path) (nat_lt 0 (length spec.keys.parts)) refl
    where
      by : (a b : Bool) → nat_lt 0 (length spec.keys.parts) ≡ b → IfSome (if a && b then Some (physical_path (first_of opened.members) spec.format.fields spec.keys) else None)
          (Contains (physical_paths spec f.members))
      by true true keyed =
          subst (λ (n : ℕ). Contains (physical_paths spec f.members) (path_at spec n)) (sym (ap first_of own.only)) (member-path spec f.members opened.member keyed own.has)
      by true false keyed = tt
      by false b keyed = tt
  kind-among opened f found (LogicalFile spec) is own =
      let alike : AreAlike (bases_in others) (bases_in s.files) (LogicalFile spec) = subst (AreAlike (bases_in others) (bases_in s.files)) is (alike-of opened.file f found) in
      subst (λ (ps : List PathSpec). Contains ps (own_path (bases_in s.files) spec)) (sym (own-first (bases_in others) spec))
      (subst (λ (p : PathSpec). Contains (own_path (bases_in others) spec ∷ rows_paths (bases_in others) (LogicalFile spec)) p) (own-same (bases_in others) (bases_in s.files) spec alike)
      (contained-first (own_path (bases_in others) spec) (rows_paths (bases_in others) (LogicalFile spec))))

  -- and so are those of its rows
  rows-among : (opened : OpenState) (f : FileState) → named opened.file s.files ≡ Some f → (spec : FileSpec) → f.spec ≡ spec
      → AllByRecursion (Contains (paths_by others f.members spec)) (rows_paths (bases_in s.files) spec)
  rows-among opened f found (PhysicalFile spec) is = tt
  rows-among opened f found (LogicalFile (Simple view)) is = tt
  rows-among opened f found (LogicalFile (Multi views)) is = tt
  rows-among opened f found (LogicalFile (Join view)) is =
      let alike : AreAlike (bases_in others) (bases_in s.files) (LogicalFile (Join view)) = subst (AreAlike (bases_in others) (bases_in s.files)) is (alike-of opened.file f found) in
      let rows : List PathSpec = rows_paths (bases_in others) (LogicalFile (Join view)) in
      subst (AllByRecursion (Contains (logical_paths (bases_in others) (Join view)))) (rows-alike (bases_in others) (bases_in s.files) view alike)
      (each-contained-behind (own_path (bases_in others) (Join view)) rows rows (all-contained rows))

  open-among : (entry : List ℕ × OpenState) → same_name name entry.1.file ≡ false → OpenHolds s.files entry.1 → OpenIsAmong (all_paths others) s.files entry
  open-among entry differ holds = by (named entry.1.file s.files) refl holds
    where
      by : (o : Option FileState) → named entry.1.file s.files ≡ o → OpensFile s.files entry.1 o
          → IfSome o (ReadsAmong (all_paths others) (bases_in s.files) entry.1)
      by None found h = tt
      by (Some f) found h = record {
        path = some-each (Contains (paths_by others f.members f.spec)) (Contains (all_paths others))
            (λ spec own. paths-contain others entry.1.file f spec (named-without_other name entry.1.file s.files differ ∙ found) own)
            (path_read (bases_in s.files) f entry.1) (kind-among entry.1 f found f.spec refl h);
        rows = each-weaker (Contains (paths_by others f.members f.spec)) (Contains (all_paths others))
            (λ spec own. paths-contain others entry.1.file f spec (named-without_other name entry.1.file s.files differ ∙ found) own)
            (rows_paths (bases_in s.files) f.spec) (rows-among entry.1 f found f.spec refl);
      }

  opens-among : (jobs : List JobState) → OpensApart name jobs → AllByRecursion (OpensHold s.files) jobs → OpensAreAmong (all_paths others) s.files jobs
  opens-among [] all hold = tt
  opens-among (job ∷ jobs) all hold = (each job.opens all.0 hold.0, opens-among jobs all.1 hold.1)
    where
      each : (opens : Named OpenState) → AllByRecursion (λ (entry : List ℕ × OpenState). same_name name entry.1.file ≡ false) opens
          → AllByRecursion (λ (entry : List ℕ × OpenState). OpenHolds s.files entry.1) opens → AllByRecursion (OpenIsAmong (all_paths others) s.files) opens
      each [] own its = tt
      each (entry ∷ opens) own its = (open-among entry own.0 its.0, each opens own.1 its.1)

  module _ (orders : List (Named OpenOrder)) (moves : List (List (List PathMove))) where
    -- its own paths before those of the others
    own-first-of : (kept : KeptPaths) → IsIndexed s.files s.members s.jobs orders moves kept
        → IsIndexedFor (paths_by s.files file.members file.spec ++ all_paths others) s.files s.members s.jobs orders moves kept
    own-first-of kept indexed =
        IsIndexed-files (all_paths s.files) s.files s.members s.jobs orders moves (paths_by s.files file.members file.spec ++ all_paths others) s.files kept
        (opens-stay s.files s.files (files-stay s.files) s.jobs) views
        (λ path. turned-sum (count_in path (all_paths others)) (count_in path (paths_by s.files file.members file.spec)) (count_in path (all_paths s.files))
        (paths-left s.files path name file here distinct alone)
        ∙ sym (count-append path (paths_by s.files file.members file.spec) (all_paths others))) indexed

    -- the others' paths are those of the library that is left
    others-left : (members : NumberedMembers) (kept : KeptPaths) → OpensApart name s.jobs → IsIndexedFor (all_paths others) s.files members s.jobs orders moves kept
        → IsIndexed (without_file name s.files) members s.jobs orders moves kept
    others-left members kept opens indexed =
        IsIndexed-files (all_paths others) s.files members s.jobs orders moves (all_paths others) others kept (opens-left s.jobs opens)
        (each-filter (λ (entry : List ℕ × FileState). not (same_name name entry.0)) (λ (entry : List ℕ × FileState). IsViewBeside others entry.1.spec) s.files
        (views-alike s.files others s.files (all-alike-left name s.files alone) views)) (λ path. refl) indexed

    -- ---- a logical file

    module _ (spec : LogicalSpec) (is : file.spec ≡ LogicalFile spec) (unused : user_of_logical name (base_members (bases_in s.files) spec) (memory_of s) ≡ None) where
      opens-none : (opens : Named OpenState) → list_any (λ (entry : List ℕ × OpenState). same_name name entry.1.file) opens ≡ false
          → AllByRecursion (λ (entry : List ℕ × OpenState). same_name name entry.1.file ≡ false) opens
      opens-none [] none = tt
      opens-none (entry ∷ opens) none =
          let parts = neither (same_name name entry.1.file) (list_any (λ (e : List ℕ × OpenState). same_name name e.1.file) opens) none in (parts.0, opens-none opens parts.1)

      -- no job has it open
      view-opens : OpensApart name s.jobs
      view-opens =
          jobs-free (λ (job : JobState). AllByRecursion (λ (entry : List ℕ × OpenState). same_name name entry.1.file ≡ false) job.opens)
          (λ number job. has_open_of name job || list_any (λ member. has_changed member job) (base_members (bases_in s.files) spec))
          (λ number job none. opens-none job.opens (neither (has_open_of name job) (list_any (λ member. has_changed member job) (base_members (bases_in s.files) spec)) none).0) 1 s.jobs unused

      -- or has changed a member that it is over
      view-unchanged : AllByRecursion (HasNoChange s.jobs) (logical_paths (bases_in s.files) spec)
      view-unchanged =
          paths-unchanged (bases_in s.files) spec s.jobs
          (jobs-free (λ (job : JobState). list_any (λ member. has_changed member job) (base_members (bases_in s.files) spec) ≡ false)
          (λ number job. has_open_of name job || list_any (λ member. has_changed member job) (base_members (bases_in s.files) spec))
          (λ number job none. (neither (has_open_of name job) (list_any (λ member. has_changed member job) (base_members (bases_in s.files) spec)) none).1) 1 s.jobs unused)

      pub IsIndexed-without_view : (ids : List (Option ℕ)) (old new : KeptPaths) → AreShared old.paths → AreNumbers old.paths (logical_paths (bases_in s.files) spec) ids
          → new.paths ≡ detached_each ids old.paths → ((number : ℕ) → IsSome (item_at number new.paths) → spare_of number new ≡ spare_of number old) → IsIndexed s.files s.members s.jobs orders moves old
          → IsIndexed (without_file name s.files) s.members s.jobs orders moves new
      IsIndexed-without_view ids old new shared its same spares indexed =
          let before : IsIndexedFor (logical_paths (bases_in s.files) spec ++ all_paths others) s.files s.members s.jobs orders moves old =
          subst (λ (ps : List PathSpec). IsIndexedFor (ps ++ all_paths others) s.files s.members s.jobs orders moves old) (ap (paths_by s.files file.members) is) (own-first-of old indexed) in
          let given = giving-each (all_paths others) s.files s.members s.jobs orders moves (opens-among s.jobs view-opens lawful.opens) (logical_paths (bases_in s.files) spec) ids old shared its
          view-unchanged before in
          others-left s.members new view-opens
          (IsIndexed-same (all_paths others) s.files s.members s.jobs orders moves (record { paths = detached_each ids old.paths; rooms = old.rooms }) new same spares given.1)

    -- ---- a physical file

    module _ (spec : PhysicalSpec) (is : file.spec ≡ PhysicalFile spec) (unused : user_of_any file.members (memory_of s) ≡ None) where
      free : AllByRecursion (IsFree file.members) s.jobs
      free =
          jobs-free (IsFree file.members) (λ number job. list_any (λ (entry : List ℕ × MemberStatus). uses entry.1.number s.locks number job) file.members)
          (λ number job none. is-free file.members s.locks number job none) 1 s.jobs unused

      its-file : (other : List ℕ) (another : FileState) → named other s.files ≡ Some another → same_name name other ≡ true → another ≡ file
      its-file other another found same = some-equal (sym found ∙ ap (λ (n : List ℕ). named n s.files) (sym (same_name-equal name other same)) ∙ here)

      -- an open over none of its members isn't of it
      open-apart : (opened : OpenState) → OpenHolds s.files opened → ((member : ℕ) → has_number member file.members ≡ true → list_any (λ (base : ℕ). base == member) opened.members ≡ false)
          → same_name name opened.file ≡ false
      open-apart opened holds none =
          elim (same_name name opened.file) as (λ b. same_name name opened.file ≡ b → b ≡ false) [
            | true ↦ λ same.
                let found : named opened.file s.files ≡ Some file = ap (λ (n : List ℕ). named n s.files) (sym (same_name-equal name opened.file same)) ∙ here in
                let own : OpensBy s.files opened file.members (PhysicalFile spec) = subst (OpensBy s.files opened file.members) is (subst (OpensFile s.files opened) found holds) in
                absurd (clash (ap (list_any (λ (base : ℕ). base == opened.member)) own.only
                ∙ ap (λ (b : Bool). b || false) (let e : (opened.member == opened.member) ≡ true = grind (arith, nat_tests) in e)) (none opened.member own.has))
            | false ↦ λ differ. refl
          ] refl

      file-opens : (jobs : List JobState) → AllByRecursion (OpensHold s.files) jobs → AllByRecursion (IsFree file.members) jobs → OpensApart name jobs
      file-opens [] hold all = tt
      file-opens (job ∷ jobs) hold all = (each job.opens hold.0 (λ member has. all.0.opens member has), file-opens jobs hold.1 all.1)
        where
          each : (opens : Named OpenState) → AllByRecursion (λ (entry : List ℕ × OpenState). OpenHolds s.files entry.1) opens
              → ((member : ℕ) → has_number member file.members ≡ true → list_any (λ (entry : List ℕ × OpenState). list_any (λ (base : ℕ). base == member) entry.1.members) opens ≡ false)
              → AllByRecursion (λ (entry : List ℕ × OpenState). same_name name entry.1.file ≡ false) opens
          each [] its none = tt
          each (entry ∷ opens) its none = (
            open-apart entry.1 its.0 (λ member has. (neither (list_any (λ (base : ℕ). base == member) entry.1.members)
                (list_any (λ (e : List ℕ × OpenState). list_any (λ (base : ℕ). base == member) e.1.members) opens) (none member has)).0),
            each opens its.1 (λ member has. (neither (list_any (λ (base : ℕ). base == member) entry.1.members)
                (list_any (λ (e : List ℕ × OpenState). list_any (λ (base : ℕ). base == member) e.1.members) opens) (none member has)).1),
          )

      its-opens : OpensApart name s.jobs
      its-opens = file-opens s.jobs lawful.opens free

      -- no change is of one of its members
      its-unchanged : (number : ℕ) → has_number number file.members ≡ true → IsUnchanged (path_at spec number) s.jobs
      its-unchanged number has =
          changes-each (λ undo. has_number undo.member file.members ≡ false) (λ undo. is_over undo.member (path_at spec number) ≡ false)
          (λ undo absent. over-other number undo.member (path_at spec number) (physical-of number spec)
          (λ same. clash has (subst (λ (n : ℕ). has_number n file.members ≡ false) same absent))) s.jobs (changes-free file.members s.jobs free)

      -- of its paths the one over a member is that of the member
      own-over : (number : ℕ) (gone : Named MemberStatus)
          → AllByRecursion (λ (p : PathSpec). is_over number p ≡ true → p ≡ path_at spec number) (map (λ entry. physical_path entry.1.number spec.format.fields spec.keys) gone)
      own-over number [] = tt
      own-over number (entry ∷ gone) = (
        λ over. elim (cases_eq number entry.1.number) [
          | inl same ↦ ap (path_at spec) (sym same)
          | inr differs ↦ absurd (clash over (over-other entry.1.number number (path_at spec entry.1.number) (physical-of entry.1.number spec) differs))
        ],
        own-over number gone,
      )

      either-over : (number : ℕ) → has_number number file.members ≡ true → (gone : Named MemberStatus)
          → AllByRecursion (λ (p : PathSpec). is_over number p ≡ true → p ≡ path_at spec number) (map (λ entry. physical_path entry.1.number spec.format.fields spec.keys) gone ++ all_paths others)
      either-over number has gone =
          each-append (λ (p : PathSpec). is_over number p ≡ true → p ≡ path_at spec number) (map (λ entry. physical_path entry.1.number spec.format.fields spec.keys) gone) (all_paths others)
          (own-over number gone)
          (each-weaker (λ (p : PathSpec). is_over number p ≡ false) (λ (p : PathSpec). is_over number p ≡ true → p ≡ path_at spec number) (λ p none over. absurd (clash over none)) (all_paths others)
          (left-apart number has))

      abbrev WithoutFor : Named MemberStatus → KeptPaths → Type 0
      WithoutFor gone now =
          AreShared (without_paths gone now.paths)
          × IsIndexedFor (all_paths others) s.files s.members s.jobs orders moves (record { paths = without_paths gone now.paths; rooms = now.rooms })

      -- the paths of a file with a key are given up one after another
      giving : (gone : Named MemberStatus) → ((number : ℕ) → has_number number gone ≡ true → has_number number file.members ≡ true) → (now : KeptPaths) → AreShared now.paths
          → IsIndexedFor (map (λ entry. physical_path entry.1.number spec.format.fields spec.keys) gone ++ all_paths others) s.files s.members s.jobs orders moves now → WithoutFor gone now
      giving [] inside now shared indexed = (shared, indexed)
      giving (entry ∷ gone) inside now shared indexed =
          by (found_over entry.1.number now.paths) refl (λ later some now_indexed. giving gone (λ number has. inside number (has-later number entry gone has)) later some now_indexed)
        where
          number : ℕ
          number = entry.1.number

          has : has_number entry.1.number file.members ≡ true
          has = inside entry.1.number (has-first entry gone)

          rest : List PathSpec
          rest = map (λ entry. physical_path entry.1.number spec.format.fields spec.keys) gone ++ all_paths others

          by : (o : Option (Numbered KeptPath)) → found_over entry.1.number now.paths ≡ o
              → ((later : KeptPaths) → AreShared later.paths
              → IsIndexedFor (map (λ entry. physical_path entry.1.number spec.format.fields spec.keys) gone ++ all_paths others) s.files s.members s.jobs orders moves later → WithoutFor gone later)
              → WithoutFor (entry ∷ gone) now
          by None found more =
              let both = any-both (λ (p : Numbered KeptPath). is_over number p.item.spec ≡ false) (λ (p : Numbered KeptPath). p.item.spec ≡ path_at spec number) now.paths
              (none-over number now.paths found) indexed.paths.there.0 in
              absurd (clash (over-own number (path_at spec number) (physical-of number spec)) (ap (is_over number) (sym both.2) ∙ both.1))
          by (Some p) found more =
              let at = first-found number p now.paths shared.ascend found in
              let contained : Contains (path_at spec number ∷ rest) p.item.spec =
              each-at (λ (q : Numbered KeptPath). Contains (path_at spec number ∷ rest) q.item.spec) p.number p.item now.paths
              (recursion_from_All (λ (q : Numbered KeptPath). Contains (path_at spec number ∷ rest) q.item.spec) now.paths
              (kept-contained (path_at spec number ∷ rest) s.members now.paths shared indexed.paths)) at.0 in
              let same : p.item.spec ≡ path_at spec number =
              each-contained (λ (q : PathSpec). is_over number q ≡ true → q ≡ path_at spec number) (path_at spec number ∷ rest) p.item.spec (either-over number has (entry ∷ gone)) contained at.1 in
              let fewer : detached p.number now.paths ≡ without_path_over number now.paths =
              sym (ap (λ (o : Option (Numbered KeptPath)). detached_from (option_map (λ (q : Numbered KeptPath). q.number) o) now.paths) found) in
              subst (λ (ps : NumberedPaths). AreShared (without_paths gone ps)
              × IsIndexedFor (all_paths others) s.files s.members s.jobs orders moves (record { paths = without_paths gone ps; rooms = now.rooms })) fewer
              (more (record { paths = detached p.number now.paths; rooms = now.rooms }) (detached-shared p.number p.item now.paths shared at.0)
              (IsIndexed-detached rest s.files s.members s.jobs orders moves (path_at spec number) (its-unchanged number has) now shared p.number p.item at.0 same
              (opens-more (map (λ entry. physical_path entry.1.number spec.format.fields spec.keys) gone) (all_paths others) s.files s.jobs (opens-among s.jobs its-opens lawful.opens)) indexed))

      -- those left are over none of its members
      not-over : (now : NumberedPaths) → AreShared now → AreKeptFor (all_paths others) s.members now → (number : ℕ) → has_number number file.members ≡ true
          → All (λ (p : Numbered KeptPath). is_over number p.item.spec ≡ false) now
      not-over now shared kept number has = λ k d low.
          each-contained (λ (p : PathSpec). is_over number p ≡ false) (all_paths others) (get_or now k d).item.spec (left-apart number has) (kept-contained (all_paths others) s.members now shared kept k d low)

      none-found : (number : ℕ) (paths : NumberedPaths) → AllByRecursion (λ (p : Numbered KeptPath). is_over number p.item.spec ≡ false) paths → found_over number paths ≡ None
      none-found number [] all = refl
      none-found number (p ∷ paths) all = cond-false (is_over number p.item.spec) (Some p) (found_over number paths) all.0 ∙ none-found number paths all.1

      -- a file without a key has none
      giving-none : (gone : Named MemberStatus) → ((number : ℕ) → has_number number gone ≡ true → has_number number file.members ≡ true) → (now : KeptPaths) → AreShared now.paths
          → IsIndexedFor (all_paths others) s.files s.members s.jobs orders moves now → WithoutFor gone now
      giving-none [] inside now shared indexed = (shared, indexed)
      giving-none (entry ∷ gone) inside now shared indexed =
          let none = none-found entry.1.number now.paths (recursion_from_All (λ (p : Numbered KeptPath). is_over entry.1.number p.item.spec ≡ false) now.paths
          (not-over now.paths shared indexed.paths entry.1.number (inside entry.1.number (has-first entry gone)))) in
          let same : now.paths ≡ without_path_over entry.1.number now.paths =
          sym (ap (λ (o : Option (Numbered KeptPath)). detached_from (option_map (λ (q : Numbered KeptPath). q.number) o) now.paths) none) in
          subst (λ (ps : NumberedPaths). AreShared (without_paths gone ps)
          × IsIndexedFor (all_paths others) s.files s.members s.jobs orders moves (record { paths = without_paths gone ps; rooms = now.rooms })) same
          (giving-none gone (λ number has. inside number (has-later number entry gone has)) now shared indexed)

      its-paths : (b : Bool) (old : KeptPaths) → AreShared old.paths
          → IsIndexedFor ((if b then map (λ entry. physical_path entry.1.number spec.format.fields spec.keys) file.members else []) ++ all_paths others) s.files s.members s.jobs orders moves old
          → WithoutFor file.members old
      its-paths true old shared indexed = giving file.members (λ number has. has) old shared indexed
      its-paths false old shared indexed = giving-none file.members (λ number has. has) old shared indexed

      pub IsIndexed-without_physical : (old new : KeptPaths) → AreShared old.paths → new.paths ≡ without_paths file.members old.paths
          → ((number : ℕ) → IsSome (item_at number new.paths) → spare_of number new ≡ spare_of number old) → IsIndexed s.files s.members s.jobs orders moves old
          → IsIndexed (without_file name s.files) (without_members file.members s.members) s.jobs orders moves new
      IsIndexed-without_physical old new shared same spares indexed =
          let fewer = its-paths (nat_lt 0 (length spec.keys.parts)) old shared
          (subst (λ (ps : List PathSpec). IsIndexedFor (ps ++ all_paths others) s.files s.members s.jobs orders moves old) (ap (paths_by s.files file.members) is) (own-first-of old indexed)) in
          let some : AreShared new.paths = subst AreShared (sym same) fewer.0 in
          let left : IsIndexedFor (all_paths others) s.files s.members s.jobs orders moves new =
          IsIndexed-same (all_paths others) s.files s.members s.jobs orders moves (record { paths = without_paths file.members old.paths; rooms = old.rooms }) new same spares fewer.1 in
          others-left (without_members file.members s.members) new its-opens
          (IsIndexed-members (all_paths others) s.files s.members s.jobs orders moves (without_members file.members s.members) new
          (over-left file.members s.members new.paths (λ k d low number has. not-over new.paths some left.paths number has k d low) left.paths.over)
          (bytes-left file.members s.members left.bytes) left)

-- a file of either kind, and its paths, where it is a logical one
pub IsIndexed-without_file : (s : State) (name : List ℕ) (file : FileState) → IsLibrary s → IsDistinct same_name (keys_of s.files) → AreApart s.files → named name s.files ≡ Some file
    → first_dependent name s.files ≡ None → (orders : List (Named OpenOrder)) (moves : List (List (List PathMove))) (ids : List (Option ℕ)) (old new : KeptPaths) → AreShared old.paths
    → ArePathsOfNamed s.files old.paths (named name s.files) ids → user_by file.spec name file (memory_of s) ≡ None → new.paths ≡ detached_each ids (without_paths file.members old.paths)
    → ((number : ℕ) → IsSome (item_at number new.paths) → spare_of number new ≡ spare_of number old) → IsIndexed s.files s.members s.jobs orders moves old
    → IsIndexed (without_file name s.files) (without_members file.members s.members) s.jobs orders moves new
IsIndexed-without_file s name file lawful distinct apart here alone orders moves ids old new shared its unused paths spares indexed =
    by file.spec refl (subst (λ (o : Option FileState). ArePathsOfNamed s.files old.paths o ids) here its) unused (lawful.bases name file here)
  where
    by : (kind : FileSpec) → file.spec ≡ kind → ArePathsOf s.files old.paths kind ids → user_by kind name file (memory_of s) ≡ None → IsBased s.files name file.members kind
        → IsIndexed (without_file name s.files) (without_members file.members s.members) s.jobs orders moves new
    by (PhysicalFile spec) is none free based =
        IsIndexed-without_physical s name file lawful distinct apart here alone indexed.views orders moves spec is free old new shared
        (paths ∙ ap (λ (some : List (Option ℕ)). detached_each some (without_paths file.members old.paths)) none) spares indexed
    by (LogicalFile spec) is own free based =
        subst (λ (gone : Named MemberStatus). IsIndexed (without_file name s.files) (without_members gone s.members) s.jobs orders moves new) (sym based.none)
        (IsIndexed-without_view s name file lawful distinct apart here alone indexed.views orders moves spec is free ids old new shared own
        (paths ∙ ap (λ (gone : Named MemberStatus). detached_each ids (without_paths gone old.paths)) based.none) spares indexed)

-- the numbers of a logical file's paths
pub view-numbered : (files : Named FileState) (paths : NumberedPaths) (kind : FileSpec) (view : LogicalSpec) (specs : List PathSpec) (ids : List (Option ℕ)) → logical_in kind ≡ Some view
    → specs ≡ logical_paths (bases_in files) view → AreNumbers paths specs ids → ArePathsOf files paths kind ids
view-numbered files paths (PhysicalFile spec) view specs ids e is found = absurd cc
view-numbered files paths (LogicalFile spec) view specs ids e is found =
    subst (λ (some : List PathSpec). AreNumbers paths some ids) (is ∙ ap (logical_paths (bases_in files)) (sym (some-equal e))) found

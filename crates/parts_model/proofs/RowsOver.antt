-- Over what an open of a join reads its rows: the kept paths of its files, whose members have records of these.
use Rattle.std.proofs.Common.{◌≡◌, ◌∙◌, ◌+◌, ◌++◌, ℕ, Option, Some, None, is_some, IsSome, List, [], ◌∷◌, true, drop, map, refl, sym, ap, subst, append_assoc, append-nil}
use Rattle.std.specs.Borrow.{Bor}
use Rattle.std.specs.Option.{option_copied}
use Rattle.std.specs.List.{AllByRecursion}
use Rattle.std.specs.Prelude.{All, Any}
use Rattle.std.proofs.lemmas.List.Elements.{recursion_from_All}
use Rattle.library_steps.below.dds_logical.specs.declared.join_views.JoinView.{JoinView}
use Rattle.library_steps.below.dds_logical.specs.declared.views.LogicalSpec.TheVariants.{Join}
use Rattle.file_model.specs.declared.joins.JoinSpec.{JoinSpec}
use Rattle.file_model.specs.declared.joins.Secondary.{Secondary}
use Rattle.file_model.specs.declared.paths.PathSpec.{PathSpec}
use Rattle.job_table.specs.declared.reads.OpenRows.{OpenRows}
use Rattle.job_table.specs.Opens.{JoinOrder, KeptOpen, OpenOrder, join_by}
use Rattle.job_table.specs.RowReads.{IsJoinOf}
use Rattle.job_table.specs.RowStand.{JoinStand}
use Rattle.join_records.specs.ReadOver.{IsReadOver}
use Rattle.access_path.specs.KeyFields.{AreBytes}
use Rattle.key_pages.specs.EntryList.{EntryList}
use Rattle.lawful_states.specs.Lawful.{IsBased, IsLibrary, IsThere, StandsOver}
use Rattle.lawful_states.proofs.BaseLemmas.{some-of}
use Rattle.lawful_states.proofs.FindLemmas.{HasBase, has-base}
use Rattle.lawful_states.proofs.NameLemmas.{some-equal}
use Rattle.library_model.specs.Named.{Named}
use Rattle.library_paths.specs.AllPaths.{all_paths}
use Rattle.library_steps.specs.LogicalFiles.{bases_in}
use Rattle.library_steps.specs.Opens.{first_of}
use Rattle.library_steps.specs.Records.{is_keyed}
use Rattle.library_steps.specs.State.{State, physical_among}
use Rattle.library_steps.specs.Bases.{Bases, FileSpec, LogicalFile, base_names}
use Rattle.library_steps.specs.FilePaths.{join_of, primary_path, secondary_of}
use Rattle.view_records.specs.KeyedViews.{HaveRecords}
use Rattle.member_slots.specs.Members.{AreMembers, Numbered, NumberedMembers, item_at, member_at}
use Rattle.path_set.specs.declared.moves.PathMove.{PathMove}
use Rattle.path_set.specs.KeptPaths.{AreShared, KeptPath, KeptPaths, NumberedPaths, pages_at, pages_of, pages_with}
use Rattle.path_set.specs.RebuiltPaths.{HaveRooms}
use Rattle.file_catalogue.specs.KeyedFiles.{HasRecordsOf}
use Rattle.record_fmt.specs.declared.formats.Field.{Field}
use Rattle.parts_model.specs.Indexed.{IsByPath, IsByRows, IsIndexed, IsView, IsViewBeside, ReadsBy, ReadsRowsBy, path_by, path_read}
use Rattle.parts_model.specs.Rows.{HoldDefaultsOf, ReadsRows}
use Rattle.parts_model.proofs.FindLemmas.{view-of}
use Rattle.parts_model.proofs.IndexPaths.{any-both}
use Rattle.parts_model.proofs.JoinReads.{AreListed, IsListed, each-there, primary-listed, secondaries-listed, with-bytes}
use Rattle.parts_model.proofs.OpenLooks.{found-own, records-there}

-- ---- how an open of a join reads

pub join-there : (bases : Bases) (kept : NumberedPaths) (view : JoinView) (o : Option JoinOrder) → ReadsRowsBy bases kept (LogicalFile (Join view)) o
    → (join : JoinOrder) × (o ≡ Some join) × IsByRows bases kept view join
join-there bases kept view None reads = absurd reads
join-there bases kept view (Some join) reads = (join, refl, reads)

-- it keeps a position among rows
pub rows-some : (o : Option (Bor OpenRows)) (join : JoinOrder) → join_by (option_copied o) ≡ Some join → is_some o ≡ true
rows-some None join told = absurd cc
rows-some (Some rows) join told = refl

pub rows-are : (o : Option (Bor OpenRows)) (rows : Bor OpenRows) (join : JoinOrder) → o ≡ Some rows → join_by (option_copied o) ≡ Some join
    → (let its : JoinOrder = record { paths = rows.now.paths; parts = rows.now.position.parts; sequences = rows.now.position.sequences } in its) ≡ join
rows-are o rows join some told = some-equal (sym (ap (λ (p : Option (Bor OpenRows)). join_by (option_copied p)) some) ∙ told)

-- ---- the paths by which it reads, and the records

pub record AreRowsOver (s : State) (kept : KeptPaths) (order : OpenOrder) (view : JoinView) : Type 0 where
  pub join : JoinOrder
  pub is : order.join ≡ Some join
  pub by : IsByRows (bases_in s.files) kept.paths view join
  pub number : ℕ
  pub path : order.path ≡ Some number
  pub primary : IsListed s.members kept (primary_path (bases_in s.files) view) number
  pub secondaries : AreListed s.members kept (map (secondary_of (bases_in s.files)) view.secondaries) join.paths
  pub its : IsView (bases_in s.files) (Join view)
  pub records : HaveRecords (bases_in s.files) (Join view) s.members

module _ (s : State) (orders : List (Named OpenOrder)) (moves : List (List (List PathMove))) (kept : KeptPaths) (lawful : IsLibrary s) (are : AreMembers s.members)
    (shared : AreShared kept.paths) (rooms : HaveRooms kept) (indexed : IsIndexed s.files s.members s.jobs orders moves kept) where
  names-recorded : (names : List (List ℕ)) → AllByRecursion (λ name. IsSome (physical_among name s.files)) names
      → AllByRecursion (λ name. HasRecordsOf (bases_in s.files name).fields (bases_in s.files name).member s.members) names
  names-recorded [] there = tt
  names-recorded (name ∷ names) there =
      let base : HasBase s name = has-base s lawful name there.0 in
      let own : IsThere (bases_in s.files name).fields (member_at (bases_in s.files name).member s.members) =
      subst (λ (fs : List Field). IsThere fs (member_at (bases_in s.files name).member s.members)) (sym base.fields) base.has.there in
      (records-there (bases_in s.files name).fields (bases_in s.files name).member s.members are indexed.bytes own, names-recorded names there.1)

  pub rows-over : (opened : KeptOpen) (view : JoinView) (spec : JoinSpec) → ReadsRows s.files kept.paths opened view spec → AreRowsOver s kept opened.order view
  rows-over opened view spec reads =
      let bases : Bases = bases_in s.files in
      let its : IsView bases (Join view) = subst (IsViewBeside s.files) reads.join (view-of s.files opened.state.file reads.file indexed.views reads.there) in
      let stands : StandsOver s.files reads.file.members (Join view) =
      subst (IsBased s.files opened.state.file reads.file.members) reads.join (lawful.bases opened.state.file reads.file reads.there) in
      let records : HaveRecords bases (Join view) s.members = names-recorded (base_names (Join view)) stands.bases in
      let rows = join-there bases kept.paths view opened.order.join (subst (λ (f : FileSpec). ReadsRowsBy bases kept.paths f opened.order.join) reads.join reads.rows) in
      let own : path_read bases reads.file opened.state ≡ Some (primary_path bases view) =
      λ i. path_by bases (is_keyed reads.file opened.state) (first_of opened.state.members) (reads.join i) in
      let along : IsByPath kept.paths (primary_path bases view) opened.order = subst (λ (o : Option PathSpec). ReadsBy kept.paths o opened.order) own reads.by in
      record {
        join = rows.0;
        is = rows.1;
        by = rows.2;
        number = along.path.0;
        path = along.path.1;
        primary = primary-listed (all_paths s.files) s.members kept shared rooms indexed.paths bases view its records along.path.0 along.path.2;
        secondaries = secondaries-listed (all_paths s.files) s.members kept shared rooms indexed.paths bases view its records rows.0.paths rows.2.paths;
        its = its;
        records = records;
      }

-- a kept path has pages
record IsPaged (kept : KeptPaths) (p : Numbered KeptPath) : Type 0 where
  here : item_at p.number kept.paths ≡ Some p.item
  room : IsSome (item_at p.number kept.rooms)

pub path-paged : (kept : KeptPaths) → AreShared kept.paths → HaveRooms kept → (spec : PathSpec) (id : ℕ) → Any (λ (q : Numbered KeptPath). (q.number ≡ id) × (q.item.spec ≡ spec)) kept.paths
    → (list : EntryList) × (pages_at kept id ≡ Some list)
path-paged kept shared rooms spec id any =
    let found =
    any-both (IsPaged kept) (λ (q : Numbered KeptPath). (q.number ≡ id) × (q.item.spec ≡ spec)) kept.paths
    (λ k d low. record { here = found-own kept.paths shared.ascend k d low; room = rooms k d low }) any in
    let room = some-of (item_at found.0.number kept.rooms) found.1.room in
    (pages_of found.0.item room.0, ap (pages_at kept) (sym found.2.0) ∙ (λ i. pages_with (found.1.here i) (room.1 i)))

-- so its rows can be read
pub rows-read : (s : State) (kept : KeptPaths) (order : OpenOrder) (view : JoinView) (over : AreRowsOver s kept order view) (spec : JoinSpec) → spec ≡ join_of (bases_in s.files) view
    → HoldDefaultsOf (bases_in s.files) view → (files : List Secondary) → files ≡ spec.secondaries → All (λ (file : Secondary). AreBytes file.default) files
    → IsReadOver (bases_in s.files) view s.members over.primary.list over.secondaries.lists
rows-read s kept order view over spec is fit files same bytes =
    let secondaries : files ≡ map (secondary_of (bases_in s.files)) view.secondaries = same ∙ ap (λ (j : JoinSpec). j.secondaries) is in
    record {
      keyed = over.its.keyed;
      linked = over.its.linked;
      records = over.records;
      defaults = with-bytes (bases_in s.files) view.secondaries fit
          (recursion_from_All (λ (file : Secondary). AreBytes file.default) (map (secondary_of (bases_in s.files)) view.secondaries)
          (subst (λ (fs : List Secondary). All (λ (file : Secondary). AreBytes file.default) fs) secondaries bytes));
      path = over.primary.is;
      paths = over.secondaries.are;
    }

pub join-same : (stand : JoinStand) (join spec : JoinSpec) (members : NumberedMembers) (primary own : EntryList) (secondaries lists : List EntryList) → spec ≡ join → primary ≡ own → secondaries ≡ lists
    → IsJoinOf stand join members own lists → IsJoinOf stand spec members primary secondaries
join-same stand join spec members primary own secondaries lists same path paths is =
    subst (λ (j : JoinSpec). IsJoinOf stand j members primary secondaries) (sym same)
    (subst (λ (p : EntryList). IsJoinOf stand join members p secondaries) (sym path) (subst (λ (ls : List EntryList). IsJoinOf stand join members own ls) (sym paths) is))

-- ---- paths that are given out

-- those that are asked for are all there
pub asked-there : (kept : KeptPaths) (ids own : List ℕ) (lists : List EntryList) → map (λ (id : ℕ). pages_at kept id) own ≡ map (λ (list : EntryList). Some list) lists → ids ≡ own
    → AllByRecursion (λ (id : ℕ). IsSome (pages_at kept id)) ids
asked-there kept ids own lists pages same = subst (λ (xs : List ℕ). AllByRecursion (λ (id : ℕ). IsSome (pages_at kept id)) xs) (sym same) (each-there kept own lists pages)

-- a path that is there is that of its pages
pub path-some : {A : Type 0} (o : Option (Bor A)) (a : A) → option_copied o ≡ Some a → is_some o ≡ true
path-some None a told = absurd cc
path-some (Some b) a told = refl

pub path-is : {A : Type 0} (o : Option (Bor A)) (b : Bor A) (a : A) → o ≡ Some b → option_copied o ≡ Some a → b.now ≡ a
path-is {A = A} o b a some told = some-equal (sym (ap (λ (p : Option (Bor A)). option_copied p) some) ∙ told)

pub all-given : {A : Type 0} (found : List (Bor A)) (lists : List A) → map (λ (b : Bor A). Some b.now) found ≡ map (λ (a : A). Some a) lists → map (λ (b : Bor A). b.now) found ≡ lists
all-given [] [] same = refl
all-given [] (a ∷ lists) same = absurd cc
all-given (b ∷ found) [] same = absurd cc
all-given {A = A} (b ∷ found) (a ∷ lists) same =
    let first : Some b.now ≡ Some a = cc in
    let rest : map (λ (c : Bor A). Some c.now) found ≡ map (λ (x : A). Some x) lists = cc in
    λ i. some-equal first i ∷ all-given found lists rest i

-- ---- the pages that are gathered for paths

pub record IsGathered (at : ℕ → Option EntryList) (ids : List ℕ) (place : ℕ) (found : List (Option EntryList)) : Type 0 where
  pub there : AllByRecursion (λ (id : ℕ). IsSome (at id)) (drop place ids)
  pub same : found ++ map at (drop place ids) ≡ map at ids

pub gathered-first : (at : ℕ → Option EntryList) (ids : List ℕ) (found : List (Option EntryList)) → AllByRecursion (λ (id : ℕ). IsSome (at id)) ids → found ≡ [] → IsGathered at ids 0 found
gathered-first at ids found there none = record { there = there; same = ap (λ (xs : List (Option EntryList)). xs ++ map at ids) none }

pub gathered-there : (at : ℕ → Option EntryList) (ids : List ℕ) (place : ℕ) (found : List (Option EntryList)) (id : ℕ) → drop place ids ≡ id ∷ drop (place + 1) ids → IsGathered at ids place found → IsSome (at id)
gathered-there at ids place found id next is = (subst (λ (xs : List ℕ). AllByRecursion (λ (x : ℕ). IsSome (at x)) xs) next is.there).0

pub gathered-next : (at : ℕ → Option EntryList) (ids : List ℕ) (place : ℕ) (found later : List (Option EntryList)) (id : ℕ) (list : EntryList) → drop place ids ≡ id ∷ drop (place + 1) ids
    → later ≡ found ++ Some list ∷ [] → at id ≡ Some list → IsGathered at ids place found → IsGathered at ids (place + 1) later
gathered-next at ids place found later id list next pushed here is = record {
  there = (subst (λ (xs : List ℕ). AllByRecursion (λ (x : ℕ). IsSome (at x)) xs) next is.there).1;
  same = ap (λ (xs : List (Option EntryList)). xs ++ map at (drop (place + 1) ids)) pushed
      ∙ append_assoc found (Some list ∷ []) (map at (drop (place + 1) ids))
      ∙ ap (λ (o : Option EntryList). found ++ o ∷ map at (drop (place + 1) ids)) (sym here)
      ∙ ap (λ (xs : List ℕ). found ++ map at xs) (sym next)
      ∙ is.same;
}

pub gathered-end : (at : ℕ → Option EntryList) (ids : List ℕ) (place : ℕ) (found : List (Option EntryList)) → drop place ids ≡ [] → IsGathered at ids place found → found ≡ map at ids
gathered-end at ids place found none is = sym (append-nil found) ∙ ap (λ (xs : List ℕ). found ++ map at xs) (sym none) ∙ is.same

-- What is known of a record that is to have its keys in a library: its paths can be asked about it, and each unique path over its member is kept.
use Rattle.std.proofs.Common.{◌≡◌, ℕ, ◌<◌, ◌&&◌, ◌||◌, ◌==◌, zero, nat_lt, length, Bool, true, false, cond, map, List, [], ◌∷◌, Contains, Option, Some, None, if◌then◌else◌, refl, sym, ap, subst, ◌∙◌, arith}
use Rattle.std.specs.Prelude.{All, unwrap_or}
use Rattle.std.specs.List.{AllByRecursion, IsDistinct, list_any}
use Rattle.std.specs.Map.{keys_of}
use Rattle.std.proofs.lemmas.Bool.{eqb-true}
use Rattle.std.proofs.lemmas.Bool.Decides.{nat_tests}
use Rattle.std.proofs.lemmas.List.Elements.{All-from_recursion, recursion_from_All}
use Rattle.library_steps.below.dds_physical.specs.declared.physical_files.PhysicalSpec.{PhysicalSpec}
use Rattle.library_steps.below.dds_logical.specs.declared.views.LogicalSpec.{LogicalSpec}
use Rattle.library_steps.below.dds_logical.specs.declared.views.LogicalSpec.TheVariants.{Simple, Multi, Join}
use Rattle.record_fmt.specs.declared.formats.Field.{Field}
use Rattle.file_model.specs.declared.paths.PathFormat.{PathFormat}
use Rattle.file_model.specs.declared.paths.PathSpec.{PathSpec}
use Rattle.file_model.specs.FilePaths.{every_record, own_fields, path_format, physical_path}
use Rattle.file_model.specs.Paths.{clash}
use Rattle.file_model.specs.Views.{view_of}
use Rattle.access_path.specs.KeyFields.{AreBytes}
use Rattle.access_path.proofs.ViewLemmas.{view-bytes}
use Rattle.library_steps.specs.Bases.{FileSpec, PhysicalFile, LogicalFile}
use Rattle.library_steps.specs.FilePaths.{is_over, logical_paths, view_format, views_path, primary_path}
use Rattle.member_slots.specs.declared.slot.Slot.{Slot}
use Rattle.member_slots.specs.declared.slot.Slot.TheVariants.{Live, Deleted}
use Rattle.member_slots.specs.Member.{FitsSlot}
use Rattle.member_slots.specs.Members.{Numbered, AreMembers, item_at, member_of}
use Rattle.journal_model.specs.Replay.{before_of}
use Rattle.journal_model.specs.Rollback.{MemberChange}
use Rattle.access_path.specs.PathBytes.{IsInBytes}
use Rattle.path_set.specs.declared.moves.PathMove.{PathMove}
use Rattle.path_set.specs.EqualKeys.{clash_in}
use Rattle.path_set.specs.KeptPaths.{KeptPath, NumberedPaths, AreShared, entries_of}
use Rattle.path_set.proofs.ClashLemmas.{clash-told}
use Rattle.file_catalogue.specs.KeyedFiles.{HasRecordsOf}
use Rattle.lawful_states.specs.Owners.{Owns}
use Rattle.job_table.specs.Opens.{OpenOrder}
use Rattle.library_model.specs.Named.{Named, named, same_name}
use Rattle.library_paths.specs.AllPaths.{all_paths, paths_by}
use Rattle.library_paths.proofs.KeptLemmas.{kept-once}
use Rattle.library_paths.proofs.NumberLemmas.{each-at}
use Rattle.library_paths.proofs.OwnerLemmas.{each-found, member-path, paths-contain}
use Rattle.library_steps.specs.LogicalFiles.{bases_in}
use Rattle.library_steps.specs.State.{State, FileState, fields_of, memory_of}
use Rattle.library_steps.specs.UniqueKeys.{has_member, own_unique, unique_paths, uniques_by, view_unique}
use Rattle.parts_model.specs.Indexed.{IsIndexed, IsView}
use Rattle.parts_model.specs.Keyed.{AllAreKeyed}
use Rattle.lawful_states.specs.Lawful.{GoesBack, HoldsValues, IsLibrary}
use Rattle.parts_model.specs.NewKeys.{AllAreAskedBefore, IsAskedBefore, IsAskedIn, IsFormatAt, IsKeptOver, IsNewFor}
use Rattle.parts_model.specs.Parts.{LibraryParts}
use Rattle.lawful_states.specs.Slots.{MayStand}
use Rattle.parts_model.proofs.FlatLemmas.{each-flat}
use Rattle.parts_model.proofs.GivenKeys.{has-status}
use Rattle.parts_model.proofs.IndexLaws.{laws}
use Rattle.parts_model.proofs.IndexLooks.{bases-have, each-kept, fields-are, records-of, takes-slot, takes-stood, view-of}
use Rattle.parts_model.proofs.IndexPaths.{IsOfMember, IsOfOwner, changes-all, kept-of}
use Rattle.parts_model.proofs.KeyLemmas.{asked-there}
use Rattle.view_records.specs.Steps.{shown_in_join}
use Rattle.parts_model.proofs.JoinedUnique.{join-unique}

or-none : (b : Bool) → (b || false) ≡ true → b ≡ true
or-none true h = refl
or-none false h = absurd cc

both-true : (a b : Bool) → (a && b) ≡ true → (a ≡ true) × (b ≡ true)
both-true true true h = (refl, refl)
both-true true false h = absurd cc
both-true false b h = absurd cc

-- a path of one format is over that one's member
over-one : (member : ℕ) (format : PathFormat) (formats : List PathFormat) → formats ≡ format ∷ [] → list_any (λ (f : PathFormat). f.member == member) formats ≡ true → format.member ≡ member
over-one member format formats is over =
    eqb-true format.member member (or-none (format.member == member) (sym (ap (list_any (λ (f : PathFormat). f.member == member)) is) ∙ over))

module _ (parts : LibraryParts) (member rrn : ℕ) (image : List ℕ) (orders : List (Named OpenOrder)) (moves : List (List (List PathMove))) (lawful : IsLibrary parts.state)
    (are : AreMembers parts.state.members) (indexed : IsIndexed parts.state.files parts.state.members parts.state.jobs orders moves parts.room.paths) (shared : AreShared parts.room.paths.paths)
    (distinct : IsDistinct same_name (keys_of parts.state.files)) (keyed : AllAreKeyed parts.state.files) where
  abbrev s : State
  s = parts.state

  abbrev paths : NumberedPaths
  paths = parts.room.paths.paths

  -- ---- each path over the member that may have no equal keys has one format

  one-format : (id : ℕ) (path : KeptPath) → item_at id parts.room.paths.paths ≡ Some path → path.spec.unique ≡ true → list_any (λ (f : PathFormat). f.member == member) path.spec.formats ≡ true
      → (format : PathFormat) × IsFormatAt id member format parts.room.paths.paths
  one-format id path at unique over =
      let its : IsOfOwner s.files path.spec =
      each-at (λ (q : Numbered KeptPath). IsOfOwner s.files q.item.spec) id path paths
      (recursion_from_All (λ (q : Numbered KeptPath). IsOfOwner s.files q.item.spec) paths (kept-of s.files s.members paths indexed.views shared indexed.paths)) at in
      let own : IsOfMember (its.one unique).0 path.spec = (its.one unique).1 in
      (own.format, record { path = path; at = at; formats = own.formats; its = over-one member own.format path.spec.formats own.formats over })

  -- ---- each path tells which record has the key

  physical-bytes : (name : List ℕ) (file : FileState) (number : ℕ) (spec : PhysicalSpec) → Owns parts.state.files name file number → file.spec ≡ PhysicalFile spec
      → IsInBytes (physical_path number spec.format.fields spec.keys) parts.state.members
  physical-bytes name file number spec owns is =
      laws.bytes spec number s.members (keyed name file spec owns.there is)
      (subst (λ (fs : List Field). HasRecordsOf fs number s.members) (fields-are file spec is) (records-of s name file number orders moves parts.room.paths lawful are indexed owns))

  logical-bytes : (name : List ℕ) (file : FileState) (spec : LogicalSpec) → named name parts.state.files ≡ Some file → file.spec ≡ LogicalFile spec
      → AllByRecursion (λ (path : PathSpec). IsInBytes path parts.state.members) (logical_paths (bases_in parts.state.files) spec)
  logical-bytes name file spec here is =
      recursion_from_All (λ (path : PathSpec). IsInBytes path s.members) (logical_paths (bases_in s.files) spec)
      (laws.view_bytes (bases_in s.files) spec s.members (view-of s.files name file spec indexed.views here is).keyed
      (bases-have s.files s.members lawful.bases (λ n f number owns. records-of s n f number orders moves parts.room.paths lawful are indexed owns) name file spec here is))

  clash-is : AreBytes image → (id : ℕ) (format : PathFormat) (over : IsFormatAt id member format parts.room.paths.paths)
      → clash_in 0 image rrn over.path ≡ clash format parts.state.members image rrn
  clash-is bytes id format over =
      let all : All (λ path. IsInBytes path.item.spec s.members) paths =
      each-kept s.files (λ (path : PathSpec). IsInBytes path s.members) physical-bytes logical-bytes distinct s.members paths shared indexed.paths in
      clash-told format s.members image rrn over.path over.formats
      (each-at (λ (q : Numbered KeptPath). q.item.entries ≡ entries_of q.item.spec s.members) id over.path paths
      (recursion_from_All (λ (q : Numbered KeptPath). q.item.entries ≡ entries_of q.item.spec s.members) paths indexed.paths.over) over.at)
      (each-at (λ (q : Numbered KeptPath). IsInBytes q.item.spec s.members) id over.path paths (recursion_from_All (λ (q : Numbered KeptPath). IsInBytes q.item.spec s.members) paths all) over.at)
      (All-from_recursion (λ b. b < 256) (view_of format.fields image) (view-bytes format.fields image (recursion_from_All (λ b. b < 256) image bytes)))

  -- ---- each unique path over the member is kept

  path-kept : (file : List ℕ) (spec : PathSpec) (format : PathFormat) → Contains (all_paths parts.state.files) spec → spec.unique ≡ true → spec.formats ≡ format ∷ [] → format.member ≡ member
      → IsKeptOver member parts.room.paths.paths (record { file = file; path = spec })
  path-kept file spec format among once formats its =
      let found = kept-once (all_paths s.files) s.members paths spec shared indexed.paths among in
      record {
        id = found.id;
        format = format;
        over = record { path = found.path; at = found.at; formats = ap (λ (p : PathSpec). p.formats) found.same ∙ formats; its = its };
        same = found.same;
        once = once;
      }

  physical-kept : (name : List ℕ) (file : FileState) (spec : PhysicalSpec) → named name parts.state.files ≡ Some file → file.spec ≡ PhysicalFile spec
      → AllByRecursion (IsKeptOver member parts.room.paths.paths) (own_unique name member spec file.members)
  physical-kept name file spec here is = by spec.keys.unique refl (has_member member file.members) refl
    where
      by : (u : Bool) → spec.keys.unique ≡ u → (h : Bool) → has_member member file.members ≡ h
          → AllByRecursion (IsKeptOver member paths) (if u && h then record { file = name; path = physical_path member spec.format.fields spec.keys } ∷ [] else [])
      by false unique h has = tt
      by true unique false has = tt
      by true unique true has =
          let some = (keyed name file spec here is).some unique in
          let key : nat_lt 0 (length spec.keys.parts) ≡ true = grind (arith, nat_tests, some) in
          let among = paths-contain s.files name file (physical_path member spec.format.fields spec.keys) here
          (subst (λ (f : FileSpec). Contains (paths_by s.files file.members f) (physical_path member spec.format.fields spec.keys)) (sym is)
          (member-path spec file.members member key (has-status member file.members has))) in
          (path-kept name (physical_path member spec.format.fields spec.keys) (path_format member every_record (own_fields spec.format.fields) spec.keys.parts) among unique refl refl, tt)

  logical-kept : (name : List ℕ) (file : FileState) → named name parts.state.files ≡ Some file → (spec : LogicalSpec) → file.spec ≡ LogicalFile spec → IsView (bases_in parts.state.files) spec
      → AllByRecursion (IsKeptOver member parts.room.paths.paths) (view_unique (memory_of parts.state) name member spec)
  logical-kept name file here (Simple view) is its =
      by (view.keys.unique && is_over member (views_path (bases_in s.files) view.keys.unique (view ∷ []))) refl
    where
      by : (b : Bool) → (view.keys.unique && is_over member (views_path (bases_in s.files) view.keys.unique (view ∷ []))) ≡ b
          → AllByRecursion (IsKeptOver member paths)
          (map (λ (path : PathSpec). record { file = name; path = path }) (cond b (views_path (bases_in s.files) view.keys.unique (view ∷ []) ∷ []) []))
      by false fails = tt
      by true passes =
          let whole = views_path (bases_in s.files) view.keys.unique (view ∷ []) in
          let format = view_format (bases_in s.files) view in
          let among = paths-contain s.files name file whole here
          (subst (λ (f : FileSpec). Contains (paths_by s.files file.members f) whole) (sym is) (zero, omega arith, refl)) in
          let both = both-true view.keys.unique (is_over member whole) passes in
          (path-kept name whole format among both.0 refl (over-one member format (format ∷ []) refl both.1), tt)
  logical-kept name file here (Multi views) is its = tt
  logical-kept name file here (Join view) is its =
      subst (λ (ps : List PathSpec). AllByRecursion (IsKeptOver member paths) (map (λ (path : PathSpec). record { file = name; path = path }) ps)) (sym (join-unique (bases_in s.files) view member))
      (by (view.keys.unique && is_over member (primary_path (bases_in s.files) view)) refl)
    where
      by : (b : Bool) → (view.keys.unique && is_over member (primary_path (bases_in s.files) view)) ≡ b
          → AllByRecursion (IsKeptOver member paths) (map (λ (path : PathSpec). record { file = name; path = path }) (cond b (primary_path (bases_in s.files) view ∷ []) []))
      by false fails = tt
      by true passes =
          let whole = primary_path (bases_in s.files) view in
          let format = path_format (bases_in s.files view.primary).member every_record (shown_in_join view.fields) view.keys.parts in
          let among = paths-contain s.files name file whole here
          (subst (λ (f : FileSpec). Contains (paths_by s.files file.members f) whole) (sym is) (zero, omega arith, refl)) in
          let both = both-true view.keys.unique (is_over member whole) passes in
          (path-kept name whole format among both.0 refl (over-one member format (format ∷ []) refl both.1), tt)

  file-kept : (name : List ℕ) (file : FileState) → named name parts.state.files ≡ Some file
      → AllByRecursion (IsKeptOver member parts.room.paths.paths) (uniques_by file.spec (memory_of parts.state) member (name, file))
  file-kept name file here = by file.spec refl
    where
      by : (its : FileSpec) → file.spec ≡ its → AllByRecursion (IsKeptOver member paths) (uniques_by its (memory_of s) member (name, file))
      by (PhysicalFile spec) is = physical-kept name file spec here is
      by (LogicalFile spec) is = logical-kept name file here spec is (view-of s.files name file spec indexed.views here is)

  uniques-kept : AllByRecursion (IsKeptOver member parts.room.paths.paths) (unique_paths member (memory_of parts.state))
  uniques-kept =
      each-flat (IsKeptOver member paths) (λ (entry : List ℕ × FileState). uniques_by entry.1.spec (memory_of s) member entry) s.files
      (each-found (λ (name : List ℕ) (file : FileState). AllByRecursion (IsKeptOver member paths) (uniques_by file.spec (memory_of s) member (name, file))) s.files distinct file-kept)

  -- ---- what changes took away can be asked

  before-asked : (id : ℕ) (format : PathFormat) → IsFormatAt id member format parts.room.paths.paths → (sequence : ℕ) (undo : MemberChange)
      → GoesBack parts.state.files parts.state.members sequence undo → IsAskedBefore format member undo
  before-asked id format over sequence undo back same = by undo.change.before refl
    where
      by : (o : Option Slot) → undo.change.before ≡ o → IsAskedIn format o
      by None is = tt
      by (Some Deleted) is = tt
      by (Some (Live old)) is = λ bytes.
          let slot : before_of undo.change ≡ Live old = ap (λ (o : Option Slot). unwrap_or o Deleted) is in
          let may : MayStand s member (Live old) = λ name file owns.
          subst (HoldsValues (fields_of file)) slot (back.values name file (subst (λ (n : ℕ). Owns s.files name file n) (sym same) owns)) in
          let fits : FitsSlot (member_of member s.members).record_length (Live old) =
          subst (λ (n : ℕ). FitsSlot (member_of n s.members).record_length (Live old)) same
          (subst (FitsSlot (member_of undo.member s.members).record_length) slot back.place.fits) in
          asked-there id member old format paths
          (takes-slot s member (Live old) orders moves parts.room.paths laws keyed distinct lawful shared indexed may fits bytes) over

  all-before : (id : ℕ) (format : PathFormat) → IsFormatAt id member format parts.room.paths.paths → AllAreAskedBefore format member parts.state.jobs
  all-before id format over = changes-all s.files s.members (IsAskedBefore format member) (before-asked id format over) s.jobs lawful.changes

  pub is-new : MayStand parts.state member (Live image) → FitsSlot (member_of member parts.state.members).record_length (Live image) → AreBytes image → IsNewFor parts member rrn image
  is-new may fits bytes = record {
    new = takes-slot s member (Live image) orders moves parts.room.paths laws keyed distinct lawful shared indexed may fits bytes;
    old = takes-stood s member rrn orders moves parts.room.paths laws keyed distinct lawful shared are indexed;
    before = all-before;
    bytes = bytes;
    shared = shared;
    one = one-format;
    told = clash-is bytes;
    kept = uniques-kept;
  }

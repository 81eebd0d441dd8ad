-- What an open reads by: its order among those of its job, and the kept path of its file, with the entries that the members give it.
use Rattle.std.proofs.Common.{ℕ, zero, suc, ◌-◌, ◌<◌, ◌≤◌, ◌≡◌, ◌==◌, ◌&&◌, nat_lt, if◌then◌else◌, IsTrue, Bool, true, false, cond, List, [], ◌∷◌, length, get_or, slice_get, Option, Some, map, None, IsSome, refl, sym, ap, arith, ◌∙◌, subst}
use Rattle.parts_model.proofs.AlikeParts.{views-length}
use Rattle.library_steps.specs.FilePaths.{view_format}
use Rattle.file_model.specs.declared.paths.PathFormat.{PathFormat}
use Rattle.library_steps.below.dds_logical.specs.declared.views.View.{View}
use Rattle.std.specs.Prelude.{All, AllPairs, unwrap_or}
use Rattle.std.specs.List.{AllByRecursion, AllZip}
use Rattle.std.proofs.lemmas.Bool.{cond-true, cond-false, ltb-false}
use Rattle.std.proofs.lemmas.Bool.Decides.{nat_tests}
use Rattle.std.proofs.lemmas.List.Elements.{All-from_recursion, recursion_from_All}
use Rattle.record_fmt.specs.declared.formats.Field.{Field}
use Rattle.record_fmt.specs.Layout.{record_length}
use Rattle.key_spec.specs.declared.KeyPart.{KeyPart}
use Rattle.key_pages.specs.EntryList.{EntryList}
use Rattle.member_slots.specs.declared.slot.Slot.{Slot}
use Rattle.member_slots.specs.declared.slot.Slot.TheVariants.{Live, Deleted}
use Rattle.member_slots.specs.Member.{MemberState, FitsSlot, IsMember, empty_member}
use Rattle.member_slots.specs.Members.{Numbered, NumberedMembers, AreMembers, item_at, member_at, member_of}
use Rattle.library_steps.below.dds_physical.specs.declared.physical_files.PhysicalSpec.{PhysicalSpec}
use Rattle.library_steps.below.dds_logical.specs.declared.views.LogicalSpec.TheVariants.{Simple, Multi, Join}
use Rattle.file_model.specs.declared.paths.PathSpec.{PathSpec}
use Rattle.file_model.specs.FilePaths.{key_parts, physical_path}
use Rattle.file_model.specs.KeyOrder.{merged_parts}
use Rattle.access_path.specs.PathBytes.{IsInBytes, is_falling}
use Rattle.job_table.specs.PositionBytes.{HasKeysWithin}
use Rattle.library_steps.specs.Bases.{Bases, FileSpec, PhysicalFile, LogicalFile}
use Rattle.library_steps.specs.Formats.{has_key, parts_in}
use Rattle.view_records.proofs.KeyLemmas.{parts-length}
use Rattle.open_position.specs.Reads.{IsPathOver}
use Rattle.path_set.specs.declared.moves.PathMove.{PathMove}
use Rattle.path_set.specs.KeptPaths.{KeptPath, KeptPaths, NumberedPaths, PathRoom, AreShared, entries_of, pages_at, pages_of, pages_with}
use Rattle.path_set.specs.RebuiltPaths.{HaveRooms}
use Rattle.path_set.proofs.ShareLemmas.{entries-path}
use Rattle.file_catalogue.specs.KeyedFiles.{IsRecordSlot, HasRecordsOf}
use Rattle.library_paths.specs.AllPaths.{AreKeptFor}
use Rattle.lawful_states.proofs.NameLemmas.{some-equal}
use Rattle.job_table.specs.Opens.{OpenOrder, SameOpen}
use Rattle.job_table.specs.Table.{job_of_number}
use Rattle.library_model.specs.Named.{Named, named, same_name}
use Rattle.library_steps.specs.History.{is_running}
use Rattle.library_steps.specs.LogicalFiles.{bases_in}
use Rattle.library_steps.specs.Opens.{first_of}
use Rattle.library_steps.specs.Records.{is_file_path, is_keyed}
use Rattle.library_steps.specs.State.{FileState, OpenState, JobState, job_at, or_new}
use Rattle.parts_model.specs.Indexed.{AreOfBytes, HasBytes, IsByPath, IsReadSo, MemberHasBytes, ReadsBy, ReadsFile, ReadsIn, OpensRead, path_by, path_read, IsIndexed, ReadsRowsBy}
use Rattle.lawful_states.specs.Lawful.{HoldsValues, IsThere}
use Rattle.parts_model.specs.Reads.{formats_by, formats_read, has_positions}
use Rattle.lawful_states.proofs.BaseLemmas.{some-of}
use Rattle.lawful_states.proofs.MemberLemmas.{HasRecords-member_of}
use Rattle.parts_model.proofs.IndexPaths.{any-both}

-- ---- how the open of a name reads

module _ (files : Named FileState) (paths : NumberedPaths) (name : List ℕ) (opened : OpenState) (order : OpenOrder) where
  reads-opens : (opens : Named OpenState) (its : Named OpenOrder) → AllZip (ReadsIn files paths) opens its → AllZip SameOpen opens its → named name opens ≡ Some opened → named name its ≡ Some order
      → ReadsFile (bases_in files) paths opened order (named opened.file files)
  reads-opens [] its reads same at also = absurd cc
  reads-opens (entry ∷ opens) [] reads same at also = absurd reads
  reads-opens (entry ∷ opens) (first ∷ its) reads same at also =
      elim (same_name name entry.0) as (λ b. cond b (Some entry.1) (named name opens) ≡ Some opened → cond b (Some first.1) (named name its) ≡ Some order
      → ReadsFile (bases_in files) paths opened order (named opened.file files)) [
        | true ↦ λ e o.
            subst (λ (x : OpenState). ReadsFile (bases_in files) paths x order (named x.file files)) (some-equal e)
            (subst (λ (r : OpenOrder). ReadsFile (bases_in files) paths entry.1 r (named entry.1.file files)) (some-equal o) reads.0)
        | false ↦ λ e o. reads-opens opens its reads.1 same.1 e o
      ] at (subst (λ (n : List ℕ). cond (same_name name n) (Some first.1) (named name its) ≡ Some order) (sym same.0.0) also)

  reads-place : (place : ℕ) (jobs : List JobState) (orders : List (Named OpenOrder)) → AllZip (OpensRead files paths) jobs orders
      → AllZip (λ (job : JobState) (its : Named OpenOrder). AllZip SameOpen job.opens its) jobs orders → IsTrue (is_running (slice_get jobs place))
      → named name (or_new (slice_get jobs place)).opens ≡ Some opened → named name (get_or orders place []) ≡ Some order
      → ReadsFile (bases_in files) paths opened order (named opened.file files)
  reads-place place [] orders reads same running at also = absurd cc
  reads-place place (job ∷ jobs) [] reads same running at also = absurd reads
  reads-place zero (job ∷ jobs) (its ∷ orders) reads same running at also = reads-opens job.opens its reads.0 same.0 at also
  reads-place (suc place) (job ∷ jobs) (its ∷ orders) reads same running at also = reads-place place jobs orders reads.1 same.1 running at also

-- the open of a name reads by its order
pub reads-named : (files : Named FileState) (members : NumberedMembers) (jobs : List JobState) (orders : List (Named OpenOrder)) (moves : List (List (List PathMove))) (kept : KeptPaths)
    (number : ℕ) (name : List ℕ) (opened : OpenState) (order : OpenOrder) → IsIndexed files members jobs orders moves kept
    → AllZip (λ (job : JobState) (its : Named OpenOrder). AllZip SameOpen job.opens its) jobs orders → IsTrue (is_running (job_at number jobs))
    → named name (job_of_number number jobs).opens ≡ Some opened → named name (get_or orders (number - 1) []) ≡ Some order
    → ReadsFile (bases_in files) kept.paths opened order (named opened.file files)
reads-named files members jobs orders moves kept number name opened order indexed same running at also =
    elim (number == 0) as (λ b. IsTrue (is_running (if b then None else slice_get jobs (number - 1)))
    → named name (or_new (if b then None else slice_get jobs (number - 1))).opens ≡ Some opened → ReadsFile (bases_in files) kept.paths opened order (named opened.file files)) [
      | true ↦ λ h e. absurd cc
      | false ↦ λ h e. reads-place files kept.paths name opened order (number - 1) jobs orders indexed.orders same h e also
    ] running at

-- by whatever number it goes
pub reads-renumbered : (bases : Bases) (paths : NumberedPaths) (opened : OpenState) (order other : OpenOrder) (file : Option FileState) → other.path ≡ order.path → other.formats ≡ order.formats
    → other.join ≡ order.join → ReadsFile bases paths opened order file
    → ReadsFile bases paths opened other file
reads-renumbered bases paths opened order other None path formats join reads = reads
reads-renumbered bases paths opened order other (Some file) path formats join reads = (by (path_read bases file opened) reads.0, reads.1, subst (ReadsRowsBy bases paths file.spec) (sym join) reads.2)
  where
    by : (o : Option PathSpec) → ReadsBy paths o order → ReadsBy paths o other
    by None is = record { path = path ∙ is.path; formats = formats ∙ is.formats }
    by (Some spec) is = record { path = (is.path.0, path ∙ is.path.1, is.path.2); formats = formats ∙ is.formats }

-- ---- the positions of the key by which it reads

pub merged-one : (ps : List KeyPart) → merged_parts (ps ∷ []) ≡ ps
merged-one [] = refl
merged-one (p ∷ ps) = refl

both-are : (a b : Bool) → (a && b) ≡ true → b ≡ true
both-are true b h = h
both-are false b h = absurd cc

no-parts : (ps : List KeyPart) → nat_lt 0 (length ps) ≡ false → ps ≡ []
no-parts [] none = refl
no-parts (p ∷ ps) none = let low : suc (length ps) ≤ 0 = ltb-false 0 (suc (length ps)) none in absurd (omega (arith, low))

-- those of its file's key, where it reads by it
abbrev pub own_parts : (keyed : Bool) → FileSpec → List KeyPart
own_parts keyed spec = if keyed then parts_in spec else []

-- a file of one format, or a join, which is read by the key of its primary file
abbrev pub HasOneFormat : FileSpec → Type 0
HasOneFormat (PhysicalFile spec) = Unit {0}
HasOneFormat (LogicalFile (Simple view)) = Unit {0}
HasOneFormat (LogicalFile (Multi views)) = ⊥
HasOneFormat (LogicalFile (Join view)) = Unit {0}

pub formats-are : (bases : Bases) (file : FileState) (opened : OpenState) → HasOneFormat file.spec → IsReadSo (is_file_path opened.access_path) file.spec
    → formats_read bases file opened ≡ key_parts 0 (own_parts (is_keyed file opened) file.spec) ∷ []
formats-are bases file opened one so = kind file.spec one so
  where
    access : Bool
    access = is_file_path opened.access_path

    physical : (b : Bool) (spec : PhysicalSpec)
        → formats_by (if b then Some (physical_path (first_of opened.members) spec.format.fields spec.keys) else None) ≡ key_parts 0 (if b then spec.keys.parts else []) ∷ []
    physical true spec = refl
    physical false spec = refl

    logical : (ps : List KeyPart) (b : Bool) → nat_lt 0 (length ps) ≡ b → key_parts 0 ps ∷ [] ≡ key_parts 0 (if b then ps else []) ∷ []
    logical ps true some = refl
    logical ps false none = ap (λ (qs : List KeyPart). key_parts 0 qs ∷ []) (no-parts ps none)

    kind : (spec : FileSpec) → HasOneFormat spec → IsReadSo access spec
        → formats_by (path_by bases (access && has_key spec) (first_of opened.members) spec) ≡ key_parts 0 (own_parts (access && has_key spec) spec) ∷ []
    kind (PhysicalFile spec) one so = physical (access && has_key (PhysicalFile spec)) spec
    kind (LogicalFile (Simple view)) one so =
        logical view.keys.parts (nat_lt 0 (length view.keys.parts)) refl
        ∙ ap (λ (a : Bool). key_parts 0 (own_parts (a && has_key (LogicalFile (Simple view))) (LogicalFile (Simple view))) ∷ []) (sym so)
    kind (LogicalFile (Multi views)) one so = absurd one
    kind (LogicalFile (Join view)) one so =
        logical view.keys.parts (nat_lt 0 (length view.keys.parts)) refl
        ∙ ap (λ (a : Bool). key_parts 0 (own_parts (a && has_key (LogicalFile (Join view))) (LogicalFile (Join view))) ∷ []) (sym so)

-- of several formats, in their order
pub keys-of-views : (bases : Bases) (views : List View) → map (λ (f : PathFormat). f.key) (map (view_format bases) views) ≡ map (λ (view : View). key_parts 0 view.keys.parts) views
keys-of-views bases [] = refl
keys-of-views bases (view ∷ views) = ap (λ (rest : List (List KeyPart)). key_parts 0 view.keys.parts ∷ rest) (keys-of-views bases views)

pub formats-of-views : (bases : Bases) (file : FileState) (opened : OpenState) (views : List View) → file.spec ≡ LogicalFile (Multi views)
    → formats_read bases file opened ≡ map (λ (view : View). key_parts 0 view.keys.parts) views
formats-of-views bases file opened views is =
    ap (λ (spec : FileSpec). formats_by (path_by bases (is_file_path opened.access_path && has_key spec) (first_of opened.members) spec)) is ∙ keys-of-views bases views

has-parts : (ps : List KeyPart) → has_positions (key_parts 0 ps ∷ []) ≡ nat_lt 0 (length ps)
has-parts ps = ap (λ (qs : List KeyPart). nat_lt 0 (length qs)) (merged-one (key_parts 0 ps)) ∙ ap (λ (n : ℕ). nat_lt 0 n) (parts-length ps 0)

-- it reads by a key where it has such positions
pub reads-keyed : (bases : Bases) (file : FileState) (opened : OpenState) → IsReadSo (is_file_path opened.access_path) file.spec
    → has_positions (formats_read bases file opened) ≡ is_keyed file opened
reads-keyed bases file opened so = kind file.spec refl
  where
    by : (b : Bool) → is_keyed file opened ≡ b → nat_lt 0 (length (own_parts b file.spec)) ≡ b
    by true keyed = both-are (is_file_path opened.access_path) (has_key file.spec) keyed
    by false keyed = refl

    single : HasOneFormat file.spec → has_positions (formats_read bases file opened) ≡ is_keyed file opened
    single one = ap has_positions (formats-are bases file opened one so) ∙ has-parts (own_parts (is_keyed file opened) file.spec) ∙ by (is_keyed file opened) refl

    several : (views : List View) → file.spec ≡ LogicalFile (Multi views) → has_positions (formats_read bases file opened) ≡ is_keyed file opened
    several views is =
        ap has_positions (formats-of-views bases file opened views is)
        ∙ ap (λ (n : ℕ). nat_lt 0 n) (views-length views)
        ∙ ap has_key (sym is)
        ∙ ap (λ (a : Bool). a && has_key file.spec) (sym (subst (IsReadSo (is_file_path opened.access_path)) is so))

    kind : (spec : FileSpec) → file.spec ≡ spec → has_positions (formats_read bases file opened) ≡ is_keyed file opened
    kind (PhysicalFile spec) is = single (subst HasOneFormat (sym is) tt)
    kind (LogicalFile (Simple view)) is = single (subst HasOneFormat (sym is) tt)
    kind (LogicalFile (Multi views)) is = several views is
    kind (LogicalFile (Join view)) is = single (subst HasOneFormat (sym is) tt)

-- ---- records

bytes-in : (number : ℕ) (members : NumberedMembers) → AreOfBytes members → MemberHasBytes (member_of number members)
bytes-in number [] all = tt
bytes-in number (entry ∷ members) all =
    elim (entry.number == number) as (λ b. MemberHasBytes (unwrap_or (if b then Some entry.item else item_at number members) (empty_member 0))) [
      | true ↦ all.0
      | false ↦ bytes-in number members all.1
    ]

-- a member that is there
pub member-is : (fields : List Field) (number : ℕ) (members : NumberedMembers) → AllByRecursion (λ (entry : Numbered MemberState). IsMember entry.item) members
    → IsThere fields (member_at number members) → IsMember (member_of number members)
member-is fields number [] all there = absurd there
member-is fields number (entry ∷ members) all there =
    elim (entry.number == number) as (λ b. IsThere fields (if b then Some entry.item else item_at number members)
    → IsMember (unwrap_or (if b then Some entry.item else item_at number members) (empty_member 0))) [
      | true ↦ λ t. all.0
      | false ↦ λ t. member-is fields number members all.1 t
    ] there

are-records : (fields : List Field) (long : ℕ) (slots : List Slot) → long ≡ record_length fields → AllByRecursion (HoldsValues fields) slots → AllByRecursion HasBytes slots
    → AllByRecursion (FitsSlot long) slots → AllByRecursion (IsRecordSlot fields) slots
are-records fields long [] is values bytes fits = tt
are-records fields long (Live image ∷ slots) is values bytes fits =
    (record { long = fits.0 ∙ is; held = values.0; bytes = bytes.0 }, are-records fields long slots is values.1 bytes.1 fits.1)
are-records fields long (Deleted ∷ slots) is values bytes fits = (tt, are-records fields long slots is values.1 bytes.1 fits.1)

-- a member has records of the fields that it is there with
pub records-there : (fields : List Field) (number : ℕ) (members : NumberedMembers) → AreMembers members → AreOfBytes members → IsThere fields (member_at number members) → HasRecordsOf fields number members
records-there fields number members are bytes there =
    let has = HasRecords-member_of fields number members there in
    let is = member-is fields number members (recursion_from_All (λ (entry : Numbered MemberState). IsMember entry.item) members are.each) there in
    All-from_recursion (IsRecordSlot fields) (member_of number members).slots
    (are-records fields (member_of number members).record_length (member_of number members).slots has.long has.values (bytes-in number members bytes)
    (recursion_from_All (FitsSlot (member_of number members).record_length) (member_of number members).slots is.records))

-- ---- a path that is read by

-- it is kept, with the entries of the definition's path
pub record IsReadBy (members : NumberedMembers) (kept : KeptPaths) (order : OpenOrder) (spec : PathSpec) : Type 0 where
  pub path : ℕ
  pub list : EntryList
  pub number_is : order.path ≡ Some path
  pub pages : pages_at kept path ≡ Some list
  pub over : IsPathOver order.formats spec members list

-- a path's number finds it
pub found-own : (paths : NumberedPaths) → AllPairs (λ (former later : Numbered KeptPath). former.number < later.number) paths → All (λ (p : Numbered KeptPath). item_at p.number paths ≡ Some p.item) paths
found-own [] ascend k d low = absurd (omega (arith, low))
found-own (p ∷ paths) ascend zero d low = cond-true (p.number == p.number) (Some p.item) (item_at p.number paths) (let e : (p.number == p.number) ≡ true = grind (arith, nat_tests) in e)
found-own (p ∷ paths) ascend (suc k) d low =
    let less : p.number < (get_or paths k d).number = ascend zero (suc k) d (omega arith) (omega (arith, low)) in
    cond-false (p.number == (get_or paths k d).number) (Some p.item) (item_at (get_or paths k d).number paths)
    (let e : (p.number == (get_or paths k d).number) ≡ false = grind (arith, nat_tests) in e)
    ∙ found-own paths (λ i j e lt within. ascend (suc i) (suc j) e (omega (arith, lt)) (omega (arith, within))) k d (omega (arith, low))

-- what is known of each kept path
pub record IsFound (members : NumberedMembers) (kept : KeptPaths) (p : Numbered KeptPath) : Type 0 where
  pub here : item_at p.number kept.paths ≡ Some p.item
  pub room : IsSome (item_at p.number kept.rooms)
  pub entries : p.item.entries ≡ entries_of p.item.spec members

pub reads-path : (specs : List PathSpec) (members : NumberedMembers) (kept : KeptPaths) (order : OpenOrder) (spec : PathSpec) → AreShared kept.paths → HaveRooms kept → AreKeptFor specs members kept.paths
    → IsInBytes spec members → (most : ℕ) × All (HasKeysWithin most members) spec.formats → IsByPath kept.paths spec order → IsReadBy members kept order spec
reads-path specs members kept order spec shared rooms are bytes within read = record {
  path = read.path.0;
  list = pages_of p.item room.0;
  number_is = read.path.1;
  pages = ap (pages_at kept) (sym found.2.0) ∙ (λ i. pages_with (found.1.here i) (room.1 i));
  over = record {
    keys = sym read.formats;
    entries = found.1.entries ∙ ap (λ (q : PathSpec). entries_of q members) found.2.1 ∙ entries-path spec members bytes;
    falling = ap (λ (q : PathSpec). is_falling q.ties) found.2.1;
    comparable = bytes;
    held = within;
  };
}
  where
    found : (p : Numbered KeptPath) × IsFound members kept p × ((p.number ≡ read.path.0) × (p.item.spec ≡ spec))
    found =
        any-both (IsFound members kept) (λ (q : Numbered KeptPath). (q.number ≡ read.path.0) × (q.item.spec ≡ spec)) kept.paths
        (λ k d low. record { here = found-own kept.paths shared.ascend k d low; room = rooms k d low; entries = are.over k d low }) read.path.2

    p : Numbered KeptPath
    p = found.0

    room : (r : PathRoom) × (item_at p.number kept.rooms ≡ Some r)
    room = some-of (item_at p.number kept.rooms) found.1.room

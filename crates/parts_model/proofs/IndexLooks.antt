-- What holds of the paths of physical and of logical files holds of each kept path: it can be asked about an image that holds values in the fields of the
-- physical file that has the member.
use Rattle.std.proofs.Common.{ℕ, ◌-◌, ◌≡◌, ◌≢◌, ◌==◌, ◌||◌, inl, inr, if◌then◌else◌, true, false, cond, List, [], ◌∷◌, length, get_or, slice_get, Contains, Option, Some, None, IsSome, refl, sym, ap, arith, ◌∙◌, subst}
use Rattle.std.specs.Prelude.{All, unwrap_or}
use Rattle.std.specs.List.{AllByRecursion, IsDistinct}
use Rattle.std.specs.Map.{keys_of}
use Rattle.std.proofs.lemmas.Bool.{cases_eq}
use Rattle.std.proofs.lemmas.Bool.Decides.{nat_tests}
use Rattle.std.proofs.lemmas.List.Elements.{All-from_recursion, recursion_from_All}
use Rattle.record_fmt.specs.declared.formats.Field.{Field}
use Rattle.record_fmt.specs.Layout.{record_length}
use Rattle.access_path.specs.KeyFields.{AreBytes, key_width}
use Rattle.member_slots.specs.declared.slot.Slot.{Slot}
use Rattle.member_slots.specs.declared.slot.Slot.TheVariants.{Live, Deleted}
use Rattle.member_slots.specs.Member.{MemberState, FitsSlot, IsMember, empty_member, slot_at}
use Rattle.member_slots.specs.Members.{Numbered, NumberedMembers, AreMembers, item_at, member_of}
use Rattle.library_steps.below.dds_physical.specs.declared.physical_files.PhysicalSpec.{PhysicalSpec}
use Rattle.library_steps.below.dds_logical.specs.declared.views.LogicalSpec.{LogicalSpec}
use Rattle.file_model.specs.declared.paths.PathFormat.{PathFormat}
use Rattle.file_model.specs.declared.paths.PathSpec.{PathSpec}
use Rattle.file_model.specs.FilePaths.{key_parts, physical_path}
use Rattle.access_path.specs.PathBytes.{IsInBytes}
use Rattle.job_table.specs.PositionBytes.{HasKeysWithin}
use Rattle.library_steps.specs.Bases.{Base, Bases, FileSpec, PhysicalFile, LogicalFile, base_names}
use Rattle.library_steps.specs.FilePaths.{logical_paths}
use Rattle.library_paths.proofs.LogicalLawsListLemmas.{each-contained}
use Rattle.view_records.specs.KeyedViews.{HaveRecords, IsKeyedLogical, IsRecordOfBases}
use Rattle.path_set.specs.Formats.{IsAskable}
use Rattle.path_set.specs.declared.moves.PathMove.{PathMove}
use Rattle.path_set.specs.KeptPaths.{KeptPaths, NumberedPaths, AreShared}
use Rattle.path_set.specs.MemberSteps.{image_in}
use Rattle.path_set.specs.RecordChanges.{TakeImage, TakesImage}
use Rattle.path_set.specs.Sharing.{CanBeKept}
use Rattle.file_catalogue.specs.KeyedFiles.{IsKeyed, IsRecord, IsRecordSlot, HasRecordsOf}
use Rattle.lawful_states.specs.Owners.{Owns, has_number}
use Rattle.lawful_states.specs.Physical.{IsPhysical}
use Rattle.lawful_states.proofs.StatusLemmas.{has_number-cons}
use Rattle.job_table.specs.Opens.{OpenOrder}
use Rattle.library_model.specs.Named.{Named, named, same_name}
use Rattle.library_paths.specs.AllPaths.{AreKeptFor, all_paths, paths_by}
use Rattle.library_paths.proofs.KeptLemmas.{kept-contained}
use Rattle.library_paths.proofs.NameLemmas.{each-named}
use Rattle.library_paths.proofs.OwnerLemmas.{path-member, paths-owner}
use Rattle.library_steps.specs.LogicalFiles.{bases_in}
use Rattle.library_steps.specs.State.{State, FileState, MemberStatus, fields_of, format_in, physical_among}
use Rattle.parts_model.specs.Indexed.{AreViews, HasBytes, IsIndexed, IsView, IsViewBeside}
use Rattle.parts_model.specs.Keyed.{AllAreKeyed}
use Rattle.lawful_states.specs.Lawful.{AreBased, HoldsValues, IsBased, IsLibrary, StandsOver}
use Rattle.lawful_states.specs.Slots.{MayStand}
use Rattle.lawful_states.proofs.BaseLemmas.{base-is, each-name, physical-found, physical-member, some-of}
use Rattle.lawful_states.proofs.MemberLemmas.{AllByRecursion-get, HasRecords-member_of, HoldsValues-at}
use Rattle.parts_model.proofs.IndexPaths.{IsOfMember, physical-of}
use Rattle.parts_model.proofs.IndexRecords.{bytes-member}

-- the laws of the paths of files
pub record AreLaws : Type 0 where
  pub image : (spec : PhysicalSpec) (member : ℕ) (image : List ℕ) → IsKeyed spec → IsRecord spec.format.fields image
      → TakesImage member (Some image) (physical_path member spec.format.fields spec.keys)
  pub kept : (spec : PhysicalSpec) (member : ℕ) (members : NumberedMembers) → IsKeyed spec → HasRecordsOf spec.format.fields member members
      → CanBeKept (physical_path member spec.format.fields spec.keys) members
  pub bytes : (spec : PhysicalSpec) (member : ℕ) (members : NumberedMembers) → IsKeyed spec → HasRecordsOf spec.format.fields member members
      → IsInBytes (physical_path member spec.format.fields spec.keys) members
  pub within : (spec : PhysicalSpec) (member : ℕ) (members : NumberedMembers) → IsKeyed spec → HasRecordsOf spec.format.fields member members
      → All (HasKeysWithin (key_width (key_parts 0 spec.keys.parts)) members) (physical_path member spec.format.fields spec.keys).formats
  pub view_image : (bases : Bases) (spec : LogicalSpec) (member : ℕ) (image : List ℕ) → IsKeyedLogical bases spec → IsRecordOfBases bases spec member image
      → All (λ path. TakesImage member (Some image) path) (logical_paths bases spec)
  pub view_kept : (bases : Bases) (spec : LogicalSpec) (members : NumberedMembers) → IsKeyedLogical bases spec → HaveRecords bases spec members
      → All (λ path. CanBeKept path members) (logical_paths bases spec)
  pub view_bytes : (bases : Bases) (spec : LogicalSpec) (members : NumberedMembers) → IsKeyedLogical bases spec → HaveRecords bases spec members
      → All (λ path. IsInBytes path members) (logical_paths bases spec)
  pub view_within : (bases : Bases) (spec : LogicalSpec) (members : NumberedMembers) → IsKeyedLogical bases spec → HaveRecords bases spec members
      → All (λ path. All (λ format. HasKeysWithin (key_width format.key) members format) path.formats) (logical_paths bases spec)

-- ---- whose path each is

-- what holds of the paths of each file holds of each kept path
module _ (files : Named FileState) (P : PathSpec → Type 0)
    (physical : (name : List ℕ) (file : FileState) (number : ℕ) (spec : PhysicalSpec) → Owns files name file number → file.spec ≡ PhysicalFile spec
    → P (physical_path number spec.format.fields spec.keys))
    (logical : (name : List ℕ) (file : FileState) (spec : LogicalSpec) → named name files ≡ Some file → file.spec ≡ LogicalFile spec → AllByRecursion P (logical_paths (bases_in files) spec)) where
  path-kind : (name : List ℕ) (file : FileState) (path : PathSpec) → named name files ≡ Some file → (its : FileSpec) → file.spec ≡ its → Contains (paths_by files file.members its) path → P path
  path-kind name file path here (PhysicalFile spec) is among =
      let own = path-member spec file.members path among in
      subst P own.is (physical name file own.number spec (record { there = here; has = own.has }) is)
  path-kind name file path here (LogicalFile spec) is among = each-contained P (logical_paths (bases_in files) spec) path (logical name file spec here is) among

  pub each-kept : IsDistinct same_name (keys_of files) → (members : NumberedMembers) (kept : NumberedPaths) → AreShared kept → AreKeptFor (all_paths files) members kept
      → All (λ path. P path.item.spec) kept
  each-kept distinct members kept shared is = λ k d low.
      let path = (get_or kept k d).item.spec in
      let own = paths-owner files path distinct (kept-contained (all_paths files) members kept shared is k d low) in
      path-kind own.name own.file path own.at own.file.spec refl own.among

-- a logical file is a view
pub view-of : (files : Named FileState) (name : List ℕ) (file : FileState) (spec : LogicalSpec) → AreViews files → named name files ≡ Some file → file.spec ≡ LogicalFile spec
    → IsView (bases_in files) spec
view-of files name file spec views here is =
    subst (IsViewBeside files) is (each-named (λ (other : List ℕ) (f : FileState). IsViewBeside files f.spec) name files file views here)

-- ---- bases

-- a member that is found by its name has its number
number-named : (name : List ℕ) (members : Named MemberStatus) (status : MemberStatus) → named name members ≡ Some status → has_number status.number members ≡ true
number-named name [] status found = absurd cc
number-named name (first ∷ members) status found =
    has_number-cons status.number first members ∙
    elim (same_name name first.0) as (λ b. cond b (Some first.1) (named name members) ≡ Some status → ((first.1.number == status.number) || has_number status.number members) ≡ true) [
      | true ↦ λ here. let e : first.1 ≡ status = cc in subst (λ (other : MemberStatus). ((first.1.number == other.number) || has_number other.number members) ≡ true) e (grind (arith, nat_tests))
      | false ↦ λ later. let rest = number-named name members status later in grind (arith, nat_tests, rest)
    ] found

-- a base is a physical file that is there, and has the member
pub record IsBase (files : Named FileState) (name : List ℕ) : Type 0 where
  pub file : FileState
  pub physical : IsPhysical file.spec
  pub owns : Owns files name file (bases_in files name).member
  pub fields : fields_of file ≡ (bases_in files name).fields

base-of : (files : Named FileState) → AreBased files → (name : List ℕ) → IsSome (physical_among name files) → IsBase files name
base-of files based name there =
    let file = some-of (physical_among name files) there in
    let found = physical-found name files file.0 file.1 in
    let first = some-of (named name file.0.members) (physical-member files name file.0.members file.0.spec found.1 (based name file.0 found.0)) in
    let is = base-is files name file.0 first.0 file.1 first.1 in
    let number : first.0.number ≡ (bases_in files name).member = sym (ap (λ (b : Base). b.member) is) in
    record {
      file = file.0;
      physical = found.1;
      owns = record { there = found.0; has = subst (λ (n : ℕ). has_number n file.0.members ≡ true) number (number-named name file.0.members first.0 first.1) };
      fields = sym (ap (λ (b : Base). b.fields) is);
    }

-- so is each base of a logical file
pub bases-of : (files : Named FileState) → AreBased files → (name : List ℕ) (file : FileState) (spec : LogicalSpec) → named name files ≡ Some file → file.spec ≡ LogicalFile spec
    → AllByRecursion (IsBase files) (base_names spec)
bases-of files based name file spec here is =
    let stands : StandsOver files file.members spec = subst (IsBased files name file.members) is (based name file here) in
    each-name (λ base. IsSome (physical_among base files)) (IsBase files) (base-of files based) (base_names spec) stands.bases

-- where each member has records of its file, so have those of the bases
pub bases-have : (files : Named FileState) (members : NumberedMembers) → AreBased files
    → ((name : List ℕ) (file : FileState) (number : ℕ) → Owns files name file number → HasRecordsOf (fields_of file) number members)
    → (name : List ℕ) (file : FileState) (spec : LogicalSpec) → named name files ≡ Some file → file.spec ≡ LogicalFile spec → HaveRecords (bases_in files) spec members
bases-have files members based records name file spec here is =
    each-name (IsBase files) (λ base. HasRecordsOf (bases_in files base).fields (bases_in files base).member members)
    (λ base its. subst (λ (fs : List Field). HasRecordsOf fs (bases_in files base).member members) its.fields (records base its.file (bases_in files base).member its.owns))
    (base_names spec) (bases-of files based name file spec here is)

-- the fields of a physical file
pub fields-are : (file : FileState) (spec : PhysicalSpec) → file.spec ≡ PhysicalFile spec → fields_of file ≡ spec.format.fields
fields-are file spec is = ap (λ (f : FileSpec). (format_in f).fields) is

-- ---- records

-- each record of a member has its record length
pub fits-of : (number : ℕ) (members : NumberedMembers) → AllByRecursion (λ (entry : Numbered MemberState). IsMember entry.item) members
    → AllByRecursion (FitsSlot (member_of number members).record_length) (member_of number members).slots
fits-of number [] all = tt
fits-of number (entry ∷ members) all =
    elim (entry.number == number) as (λ b. AllByRecursion (FitsSlot (unwrap_or (if b then Some entry.item else item_at number members) (empty_member 0)).record_length)
    (unwrap_or (if b then Some entry.item else item_at number members) (empty_member 0)).slots) [
      | true ↦ recursion_from_All (FitsSlot entry.item.record_length) entry.item.slots all.0.records
      | false ↦ fits-of number members all.1
    ]

are-records : (fields : List Field) (long : ℕ) (slots : List Slot) → long ≡ record_length fields → AllByRecursion (HoldsValues fields) slots → AllByRecursion HasBytes slots
    → AllByRecursion (FitsSlot long) slots → AllByRecursion (IsRecordSlot fields) slots
are-records fields long [] is values bytes fits = tt
are-records fields long (Live image ∷ slots) is values bytes fits =
    (record { long = fits.0 ∙ is; held = values.0; bytes = bytes.0 }, are-records fields long slots is values.1 bytes.1 fits.1)
are-records fields long (Deleted ∷ slots) is values bytes fits = (tt, are-records fields long slots is values.1 bytes.1 fits.1)

-- a member of a file has records of its fields
pub records-of : (s : State) (name : List ℕ) (file : FileState) (number : ℕ) (orders : List (Named OpenOrder)) (moves : List (List (List PathMove))) (kept : KeptPaths) → IsLibrary s
    → AreMembers s.members
    → IsIndexed s.files s.members s.jobs orders moves kept → Owns s.files name file number → HasRecordsOf (fields_of file) number s.members
records-of s name file number orders moves kept lawful are indexed owns =
    let has = HasRecords-member_of (fields_of file) number s.members (lawful.members name file number owns) in
    All-from_recursion (IsRecordSlot (fields_of file)) (member_of number s.members).slots
    (are-records (fields_of file) (member_of number s.members).record_length (member_of number s.members).slots has.long has.values (bytes-member number s.members indexed.bytes)
    (fits-of number s.members (recursion_from_All (λ (entry : Numbered MemberState). IsMember entry.item) s.members are.each)))

-- a path of another member isn't asked
takes-other : (number member : ℕ) (image : List ℕ) (path : PathSpec) → IsOfMember number path → number ≢ member → TakesImage member (Some image) path
takes-other number member image path is differs =
    subst (λ (fs : List PathFormat). All (λ (f : PathFormat). f.member ≡ member → IsAskable f image) fs) (sym is.formats)
    (All-from_recursion (λ (f : PathFormat). f.member ≡ member → IsAskable f image) (is.format ∷ []) ((λ same. absurd (differs (sym is.member ∙ same))), tt))

-- an image that may stand in the member can be asked of each path
pub takes-image : (s : State) (member : ℕ) (image : List ℕ) (orders : List (Named OpenOrder)) (moves : List (List (List PathMove))) (kept : KeptPaths) → AreLaws → AllAreKeyed s.files
    → IsDistinct same_name (keys_of s.files) → IsLibrary s → AreShared kept.paths
    → IsIndexed s.files s.members s.jobs orders moves kept → MayStand s member (Live image) → length image ≡ (member_of member s.members).record_length → AreBytes image
    → TakeImage member (Some image) kept.paths
takes-image s member image orders moves kept laws keyed distinct lawful shared indexed may long bytes =
    each-kept s.files (λ (path : PathSpec). TakesImage member (Some image) path) physical logical distinct s.members kept.paths shared indexed.paths
  where
    record-of : (name : List ℕ) (file : FileState) → Owns s.files name file member → IsRecord (fields_of file) image
    record-of name file owns =
        let has = HasRecords-member_of (fields_of file) member s.members (lawful.members name file member owns) in
        record { long = long ∙ has.long; held = may name file owns; bytes = bytes }

    physical : (name : List ℕ) (file : FileState) (number : ℕ) (spec : PhysicalSpec) → Owns s.files name file number → file.spec ≡ PhysicalFile spec
        → TakesImage member (Some image) (physical_path number spec.format.fields spec.keys)
    physical name file number spec owns is =
        elim (cases_eq number member) [
          | inl same ↦ subst (λ (n : ℕ). TakesImage member (Some image) (physical_path n spec.format.fields spec.keys)) (sym same)
              (laws.image spec member image (keyed name file spec owns.there is)
              (subst (λ (fs : List Field). IsRecord fs image) (fields-are file spec is) (record-of name file (subst (Owns s.files name file) same owns))))
          | inr differs ↦ takes-other number member image (physical_path number spec.format.fields spec.keys) (physical-of number spec) differs
        ]

    logical : (name : List ℕ) (file : FileState) (spec : LogicalSpec) → named name s.files ≡ Some file → file.spec ≡ LogicalFile spec
        → AllByRecursion (λ (path : PathSpec). TakesImage member (Some image) path) (logical_paths (bases_in s.files) spec)
    logical name file spec here is =
        recursion_from_All (λ (path : PathSpec). TakesImage member (Some image) path) (logical_paths (bases_in s.files) spec)
        (laws.view_image (bases_in s.files) spec member image (view-of s.files name file spec indexed.views here is).keyed
        (each-name (IsBase s.files) (λ base. (bases_in s.files base).member ≡ member → IsRecord (bases_in s.files base).fields image)
        (λ base its same. subst (λ (fs : List Field). IsRecord fs image) its.fields (record-of base its.file (subst (Owns s.files base its.file) same its.owns)))
        (base_names spec) (bases-of s.files lawful.bases name file spec here is)))

-- ---- slots

-- a slot of a member that is there may stand in it, as it does
module _ (s : State) (member rrn : ℕ) (slot : Slot) (orders : List (Named OpenOrder)) (moves : List (List (List PathMove))) (kept : KeptPaths) (lawful : IsLibrary s)
    (indexed : IsIndexed s.files s.members s.jobs orders moves kept) (at : slot_at (member_of member s.members) rrn ≡ Some slot) where
  at-its-place : (P : Slot → Type 0) → AllByRecursion P (member_of member s.members).slots → P slot
  at-its-place P all =
      elim (rrn == 0) as (λ b. (if b then None else slice_get (member_of member s.members).slots (rrn - 1)) ≡ Some slot → P slot) [
        | true ↦ λ e. absurd cc
        | false ↦ λ e. AllByRecursion-get P (member_of member s.members).slots (rrn - 1) slot all e
      ] at

  pub stands-may : MayStand s member slot
  stands-may name file owns = HoldsValues-at (fields_of file) (member_of member s.members) rrn slot (HasRecords-member_of (fields_of file) member s.members (lawful.members name file member owns)) at

  pub stands-fits : AreMembers s.members → FitsSlot (member_of member s.members).record_length slot
  stands-fits are =
      at-its-place (FitsSlot (member_of member s.members).record_length)
      (fits-of member s.members (recursion_from_All (λ (entry : Numbered MemberState). IsMember entry.item) s.members are.each))

  pub stands-bytes : HasBytes slot
  stands-bytes = at-its-place HasBytes (bytes-member member s.members indexed.bytes)

-- each path can be asked about the image in a slot that may stand in the member
pub takes-slot : (s : State) (member : ℕ) (slot : Slot) (orders : List (Named OpenOrder)) (moves : List (List (List PathMove))) (kept : KeptPaths) → AreLaws → AllAreKeyed s.files
    → IsDistinct same_name (keys_of s.files) → IsLibrary s → AreShared kept.paths
    → IsIndexed s.files s.members s.jobs orders moves kept → MayStand s member slot → FitsSlot (member_of member s.members).record_length slot → HasBytes slot
    → TakeImage member (image_in slot) kept.paths
takes-slot s member (Live image) orders moves kept laws keyed distinct lawful shared indexed may fits bytes =
    takes-image s member image orders moves kept laws keyed distinct lawful shared indexed may fits bytes
takes-slot s member Deleted orders moves kept laws keyed distinct lawful shared indexed may fits bytes = λ k d low. tt

-- so it can about the one that stands there
pub takes-stood : (s : State) (member rrn : ℕ) (orders : List (Named OpenOrder)) (moves : List (List (List PathMove))) (kept : KeptPaths) → AreLaws → AllAreKeyed s.files
    → IsDistinct same_name (keys_of s.files) → IsLibrary s → AreShared kept.paths
    → AreMembers s.members
    → IsIndexed s.files s.members s.jobs orders moves kept → TakeImage member (image_in (unwrap_or (slot_at (member_of member s.members) rrn) Deleted)) kept.paths
takes-stood s member rrn orders moves kept laws keyed distinct lawful shared are indexed = by (slot_at (member_of member s.members) rrn) refl
  where
    by : (o : Option Slot) → slot_at (member_of member s.members) rrn ≡ o → TakeImage member (image_in (unwrap_or o Deleted)) kept.paths
    by None is = λ k d low. tt
    by (Some slot) is =
        takes-slot s member slot orders moves kept laws keyed distinct lawful shared indexed (stands-may s member rrn slot orders moves kept lawful indexed is)
        (stands-fits s member rrn slot orders moves kept lawful indexed is are) (stands-bytes s member rrn slot orders moves kept lawful indexed is)

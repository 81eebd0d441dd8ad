-- The rows of a join can be read over members that have records of its files, by its paths.
use Rattle.std.proofs.Common.{◌≡◌, ℕ, suc, ◌+◌, true, false, Option, Some, None, is_some, List, [], ◌∷◌, map, slice_get, refl, sym, ◌∙◌, ap, subst, arith}
use Rattle.std.specs.Prelude.{All, unwrap_or}
use Rattle.std.specs.List.{AllByRecursion}
use Rattle.std.proofs.lemmas.List.Elements.{All-from_recursion, recursion_from_All}
use Rattle.record_fmt.specs.declared.formats.Field.{Field}
use Rattle.record_fmt.specs.Layout.{IsLaidOut, lies_from}
use Rattle.key_spec.specs.declared.KeyPart.{KeyPart}
use Rattle.key_spec.specs.declared.KeyPart.TheVariants.{Field as KeyField, Absent}
use Rattle.key_spec.specs.declared.Ties.TheVariants.{Rising}
use Rattle.access_path.specs.KeyFields.{AreBytes, HasPosition, key_width}
use Rattle.key_pages.specs.EntryList.{EntryList}
use Rattle.member_slots.specs.declared.slot.Slot.{Slot}
use Rattle.member_slots.specs.declared.slot.Slot.TheVariants.{Live, Deleted}
use Rattle.member_slots.specs.Member.{records, records_from}
use Rattle.member_slots.specs.Members.{NumberedMembers, member_of}
use Rattle.file_model.specs.declared.joins.JoinPair.{JoinPair}
use Rattle.file_model.specs.declared.joins.Secondary.{Secondary}
use Rattle.file_model.specs.declared.paths.PathFormat.{PathFormat}
use Rattle.file_model.specs.declared.paths.PathSpec.{PathSpec}
use Rattle.file_model.specs.declared.views.FieldSource.TheVariants.{Copied}
use Rattle.file_model.specs.declared.views.ViewField.{ViewField}
use Rattle.file_model.specs.FilePaths.{every_record, key_parts, path_format}
use Rattle.file_model.specs.Views.{default_image, field_value}
use Rattle.access_path.specs.PathBytes.{IsInBytes}
use Rattle.join_rows.specs.PositionBytes.{HasKeysWithin}
use Rattle.logical_paths.specs.Shown.{HasValue}
use Rattle.dds_logical.specs.declared.join_views.JoinedFile.{JoinedFile}
use Rattle.dds_logical.specs.declared.join_views.JoinView.{JoinView}
use Rattle.dds_logical.specs.declared.views.View.{View}
use Rattle.dds_logical.specs.declared.views.LogicalSpec.TheVariants.{Simple, Join}
use Rattle.dds_logical.specs.JoinLines.{fields_at}
use Rattle.logical_model.specs.Bases.{Bases}
use Rattle.logical_model.specs.FilePaths.{join_of, logical_paths, secondary_of}
use Rattle.logical_paths.specs.Mapped.{HoldDefaults}
use Rattle.logical_paths.specs.Found.{HoldsRecord}
use Rattle.logical_paths.proofs.GivenLemmas.{given-makes}
use Rattle.logical_paths.specs.KeyedFiles.{IsRecord, IsRecordSlot, HasRecordsOf}
use Rattle.logical_paths.specs.Steps.{shown_in_join}
use Rattle.logical_paths.specs.KeyedViews.{IsShownOf, IsSequenceOf, IsFileOver, IsKeyedJoin}
use Rattle.logical_paths.proofs.ShownLemmas.{at-lies, shown-value}
use Rattle.logical_paths.proofs.ViewLemmas.{keys-short, paths-bytes}
use Rattle.join_rows.specs.Matches.{HasJoined}
use Rattle.join_rows.specs.Reading.{Feeds, AreReadable}
use Rattle.join_rows.specs.Rows.{CanBeRead}
use Rattle.join_rows.specs.WantedBytes.{CanBeSought}
use Rattle.join_position.specs.RowReads.{HasSequences, IsJoinOf}
use Rattle.join_position.specs.RowStand.{JoinStand}
use Rattle.join_records.specs.Linked.{AreLinked, fields_under}
use Rattle.join_records.specs.ReadOver.{ArePathsOf, HasDefaults, IsReadOver}
use Rattle.join_records.proofs.DescribedLemmas.{at-each, each-weaker}

-- ---- the records of a member

record-images : (P : List ℕ → Type 0) (fields : List Field) → ((image : List ℕ) → IsRecord fields image → P image) → (rrn : ℕ) (slots : List Slot) → AllByRecursion (IsRecordSlot fields) slots
    → AllByRecursion (λ (pair : ℕ × List ℕ). P pair.1) (records_from rrn slots)
record-images P fields so rrn [] all = tt
record-images P fields so rrn (Live image ∷ slots) all = (so image all.0, record-images P fields so (rrn + 1) slots all.1)
record-images P fields so rrn (Deleted ∷ slots) all = record-images P fields so (rrn + 1) slots all.1

pub member-images : (members : NumberedMembers) (P : List ℕ → Type 0) (fields : List Field) (member : ℕ) → ((image : List ℕ) → IsRecord fields image → P image) → HasRecordsOf fields member members
    → All (λ (pair : ℕ × List ℕ). P pair.1) (records (member_of member members))
member-images members P fields member so has =
    All-from_recursion (λ (pair : ℕ × List ℕ). P pair.1) (records (member_of member members))
    (record-images P fields so 1 (member_of member members).slots (recursion_from_All (IsRecordSlot fields) (member_of member members).slots has))

-- the record of default values is one
pub default-record : (fields : List Field) → IsLaidOut fields → HoldDefaults fields → AreBytes (default_image fields) → IsRecord fields (default_image fields)
default-record fields laid fit bytes = record { long = holds.long; held = holds.values; bytes = bytes }
  where
    bases : Bases
    bases name = record { member = 0; fields = fields }

    view : View
    view = record { base = []; format = record { name = []; fields = [] }; mapping = []; rules = every_record; keys = record { parts = []; unique = false; ties = Rising } }

    holds : HoldsRecord fields (default_image fields)
    holds = given-makes bases (Simple view) 0 [] [] None (default_image fields) tt refl laid fit tt refl

-- ---- values that are looked for

has-value : (base : List Field) → lies_from 0 base ≡ true → (image : List ℕ) → IsRecord base image → (f : ViewField) → IsShownOf base f → HasValue image f
has-value base lies image is f shown = let shows = shown-value base lies image is f shown in record { shown = shows.shown; there = shows.value }

-- a record has the value of JDUPSEQ
has-sequence : (base : List Field) → IsLaidOut base → (sequence : KeyPart) → IsSequenceOf base sequence → (image : List ℕ) → IsRecord base image → HasPosition sequence image
has-sequence base laid (KeyField t offset descend absval) at image is =
    let f : ViewField = record { ty = t; source = Copied offset } in
    let shown : IsShownOf base f = record { allowed = (at-lies base t offset laid.lies at).allowed; source = at } in
    let shows = shown-value base laid.lies image is f shown in
    record { allowed = shown.allowed; within = shows.shown.source; there = shows.value }
has-sequence base laid Absent at image is = tt

-- what stands at a place, where the rest begins there
at-place : {A : Type 0} (all rest : List A) (place : ℕ) → ((i : ℕ) → slice_get all (place + i) ≡ slice_get rest i) → slice_get all place ≡ slice_get rest 0
at-place all rest place at = let start : place ≡ place + 0 = omega arith in ap (slice_get all) start ∙ at 0

at-next : {A : Type 0} (all rest : List A) (x : A) (place : ℕ) → ((i : ℕ) → slice_get all (place + i) ≡ slice_get (x ∷ rest) i) → (i : ℕ) → slice_get all (place + 1 + i) ≡ slice_get rest i
at-next all rest x place at i = let next : place + 1 + i ≡ place + suc i = omega arith in ap (slice_get all) next ∙ at (suc i)

-- the fields of the files of secondary files
abbrev pub fields_of_files : Bases → List JoinedFile → List (List Field)
fields_of_files bases files = map (λ (name : List ℕ). (bases name).fields) (map (λ (joined : JoinedFile). joined.file) files)

module _ (bases : Bases) (members : NumberedMembers) (all : List (List Field)) (lies : (place : ℕ) → lies_from 0 (fields_at all place) ≡ true) where
  sought : (place : ℕ) (image : List ℕ) → IsRecord (fields_at all place) image → (to : List Field) (pairs : List JoinPair)
      → AllByRecursion (λ pair. IsShownOf (fields_at all place) pair.from) pairs → AllByRecursion (λ pair. IsShownOf to pair.to) pairs → AllByRecursion (CanBeSought image) pairs
  sought place image is to [] from shown = tt
  sought place image is to (pair ∷ pairs) from shown = (
    record { from = has-value (fields_at all place) (lies place) image is pair.from from.0; to = shown.0.allowed },
    sought place image is to pairs from.1 shown.1,
  )

  feeds : (place : ℕ) (image : List ℕ) → IsRecord (fields_at all place) image → (number : ℕ) (files : List JoinedFile) → AreLinked all number files → AllByRecursion (IsFileOver bases) files
      → Feeds place (map (secondary_of bases) files) image
  feeds place image is number [] linked keyed = tt
  feeds place image is number (joined ∷ files) linked keyed = (
    λ same. record {
      bytes = is.bytes;
      sought = sought place image is (bases joined.file).fields joined.pairs
          (subst (λ (k : ℕ). AllByRecursion (λ pair. IsShownOf (fields_at all k) pair.from) joined.pairs) same linked.0.pairs) keyed.0.pairs;
    },
    feeds place image is (number + 1) files linked.1 keyed.1,
  )

  readable : (number : ℕ) (files : List JoinedFile) (lists : List EntryList) → ((i : ℕ) → slice_get all (number + i) ≡ slice_get (fields_of_files bases files) i) → AreLinked all number files
      → AllByRecursion (IsFileOver bases) files
      → AllByRecursion (λ name. HasRecordsOf (bases name).fields (bases name).member members) (map (λ (joined : JoinedFile). joined.file) files)
      → AllByRecursion (HasDefaults bases) files → ArePathsOf members (map (secondary_of bases) files) lists → AreReadable members number (map (secondary_of bases) files) lists
  readable number [] lists at linked keyed have defaults paths = tt
  readable number (joined ∷ files) [] at linked keyed have defaults paths = absurd paths
  readable number (joined ∷ files) (list ∷ lists) at linked keyed have defaults paths =
      let base : List Field = (bases joined.file).fields in
      let member : ℕ = (bases joined.file).member in
      let here : slice_get all number ≡ Some base = at-place all (fields_of_files bases (joined ∷ files)) number at in
      let own : base ≡ fields_at all number = sym (ap (λ (o : Option (List Field)). unwrap_or o []) here) in
      let further : (image : List ℕ) → IsRecord base image → Feeds number (map (secondary_of bases) files) image =
      λ image is. feeds number image (subst (λ (fields : List Field). IsRecord fields image) own is) (number + 1) files linked.1 keyed.1 in (
        record {
          from = linked.0.from;
          path = paths.0;
          joinable = record {
            joined = member-images members (HasJoined (secondary_of bases joined)) base member
                (λ image is.
                All-from_recursion (λ (pair : JoinPair). is_some (field_value image pair.to) ≡ true) joined.pairs
                (each-weaker (λ (pair : JoinPair). IsShownOf base pair.to) (λ (pair : JoinPair). is_some (field_value image pair.to) ≡ true) joined.pairs
                (λ pair shown. (has-value base keyed.0.laid.lies image is pair.to shown).there) keyed.0.pairs)) have.0;
            bytes = member-images members AreBytes base member (λ image is. is.bytes) have.0;
          };
          records = member-images members (Feeds number (map (secondary_of bases) files)) base member further have.0;
          default = further (default_image base) (default-record base keyed.0.laid defaults.0.fit defaults.0.bytes);
        },
        readable (number + 1) files lists (at-next all (fields_of_files bases files) base number at) linked.1 keyed.1 have.1 defaults.1 paths.1,
      )

files-lie : (bases : Bases) (files : List JoinedFile) → AllByRecursion (IsFileOver bases) files → AllByRecursion (λ (fields : List Field). lies_from 0 fields ≡ true) (fields_of_files bases files)
files-lie bases [] keyed = tt
files-lie bases (joined ∷ files) keyed = (keyed.0.laid.lies, files-lie bases files keyed.1)

pub all-lie : (bases : Bases) (view : JoinView) → IsKeyedJoin bases view → (place : ℕ) → lies_from 0 (fields_at (fields_under bases view) place) ≡ true
all-lie bases view keyed =
    at-each (λ (fields : List Field). lies_from 0 fields ≡ true) (fields_under bases view) refl (keyed.laid.lies, files-lie bases view.secondaries keyed.secondaries)

pub behind-primary : (bases : Bases) (view : JoinView) (i : ℕ) → slice_get (fields_under bases view) (1 + i) ≡ slice_get (fields_of_files bases view.secondaries) i
behind-primary bases view i = let next : 1 + i ≡ suc i = omega arith in ap (slice_get (fields_under bases view)) next

-- ---- the whole

module _ (bases : Bases) (view : JoinView) (members : NumberedMembers) (primary : EntryList) (secondaries : List EntryList) (over : IsReadOver bases view members primary secondaries) where
  abbrev own_format : PathFormat
  own_format = path_format (bases view.primary).member every_record (shown_in_join view.fields) view.keys.parts

  pub can-read : CanBeRead (join_of bases view) members primary secondaries
  can-read =
      let all : List (List Field) = fields_under bases view in
      let lies : (place : ℕ) → lies_from 0 (fields_at all place) ≡ true = all-lie bases view over.keyed in
      record {
        format = own_format;
        one = refl;
        path = over.path;
        keys = (recursion_from_All (λ (p : PathSpec). IsInBytes p members) (logical_paths bases (Join view)) (paths-bytes bases (Join view) members over.keyed over.records)).0;
        records = member-images members (Feeds 0 (map (secondary_of bases) view.secondaries)) (bases view.primary).fields (bases view.primary).member
            (λ image is. feeds bases members all lies 0 image is 1 view.secondaries over.linked.linked over.keyed.secondaries) over.records.0;
        files = readable bases members all lies 1 view.secondaries secondaries (behind-primary bases view) over.linked.linked over.keyed.secondaries over.records.1 over.defaults over.paths;
      }

  sequenced : (files : List JoinedFile) → AllByRecursion (IsFileOver bases) files
      → AllByRecursion (λ name. HasRecordsOf (bases name).fields (bases name).member members) (map (λ (joined : JoinedFile). joined.file) files)
      → AllByRecursion (HasSequences members) (map (secondary_of bases) files)
  sequenced [] keyed have = tt
  sequenced (joined ∷ files) keyed have = (
    member-images members (HasPosition joined.sequence) (bases joined.file).fields (bases joined.file).member
        (λ image is. has-sequence (bases joined.file).fields keyed.0.laid joined.sequence keyed.0.sequence image is) have.0,
    sequenced files keyed.1 have.1,
  )

  same-sequences : (files : List JoinedFile) → map (λ (file : Secondary). file.sequence) (map (secondary_of bases) files) ≡ map (λ (joined : JoinedFile). joined.sequence) files
  same-sequences [] = refl
  same-sequences (joined ∷ files) = ap (λ (rest : List KeyPart). joined.sequence ∷ rest) (same-sequences files)

  -- an open that stands among its rows can find them
  pub is-join : (stand : JoinStand) → key_parts 0 view.keys.parts ≡ stand.parts → map (λ (joined : JoinedFile). joined.sequence) view.secondaries ≡ stand.sequences
      → IsJoinOf stand (join_of bases view) members primary secondaries
  is-join stand parts sequences =
      let short = (recursion_from_All (λ (p : PathSpec). All (λ (f : PathFormat). HasKeysWithin (key_width f.key) members f) p.formats) (logical_paths bases (Join view))
      (keys-short bases (Join view) members over.keyed over.records)).0 in
      let own = (recursion_from_All (λ (f : PathFormat). HasKeysWithin (key_width f.key) members f) (own_format ∷ []) short).0 in
      record {
        read = can-read;
        parts = parts;
        sequences = same-sequences view.secondaries ∙ sequences;
        held = (key_width own_format.key, All-from_recursion (HasKeysWithin (key_width own_format.key) members) (own_format ∷ []) (own, tt));
        sequenced = All-from_recursion (HasSequences members) (map (secondary_of bases) view.secondaries) (sequenced view.secondaries over.keyed.secondaries over.records.1);
      }

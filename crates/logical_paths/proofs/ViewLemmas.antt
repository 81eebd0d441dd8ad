-- The records of base files can stand in the paths of a logical file over them.
use Rattle.std.proofs.Common.{◌≡◌, ℕ, zero, suc, ◌+◌, ◌<◌, ◌≤◌, Some, List, [], ◌∷◌, ◌++◌, length, map, get_or, refl, sym, ◌∙◌, ap, subst, arith}
use Rattle.std.specs.Prelude.{All, AllPairs}
use Rattle.std.specs.List.{AllByRecursion}
use Rattle.std.proofs.lemmas.List.Elements.{All-from_recursion}
use Rattle.file_model.below.record_fmt.specs.declared.formats.Field.{Field}
use Rattle.file_model.specs.Layout.{IsLaidOut}
use Rattle.key_spec.specs.declared.KeyPart.{KeyPart}
use Rattle.key_spec.specs.declared.KeyPart.TheVariants.{Field as KeyField, Absent}
use Rattle.access_path.below.key_order.specs.declared.widths.TheConstants.{MOST_POSITIONS}
use Rattle.access_path.specs.KeyFields.{ArePositions, Matches, key_width}
use Rattle.member_slots.specs.Members.{NumberedMembers}
use Rattle.file_model.specs.declared.joins.JoinPair.{JoinPair}
use Rattle.file_model.specs.declared.paths.PathFormat.{PathFormat}
use Rattle.file_model.specs.declared.paths.PathSpec.{PathSpec}
use Rattle.file_model.specs.declared.rules.Rules.{Rules}
use Rattle.file_model.specs.declared.views.ViewField.{ViewField}
use Rattle.file_model.specs.FilePaths.{every_record, key_parts, path_format}
use Rattle.file_model.specs.Joins.{joined_fields, parts_from, secondary_path, sequence_field, sequence_part, total_width}
use Rattle.file_model.proofs.PathLemmas.{all-append, all-map, weaker}
use Rattle.access_path.specs.PathBytes.{IsInBytes, ShowsBytes}
use Rattle.path_entrants.specs.declared.entrant.TheConstants.{MOST_FORMATS}
use Rattle.path_entrants.specs.Formats.{IsAskable}
use Rattle.physical_paths.specs.Sharing.{CanBeKept}
use Rattle.physical_paths.specs.RecordChanges.{TakesImage}
use Rattle.physical_paths.specs.PositionBytes.{HasKeysWithin}
use Rattle.dds_logical.specs.declared.join_views.JoinedFile.{JoinedFile}
use Rattle.dds_logical.specs.declared.views.LogicalSpec.{LogicalSpec}
use Rattle.dds_logical.specs.declared.views.LogicalSpec.TheVariants.{Simple, Multi, Join}
use Rattle.dds_logical.specs.declared.views.View.{View}
use Rattle.logical_laws.specs.Bases.{Bases, base_names}
use Rattle.logical_laws.specs.FilePaths.{logical_paths, primary_path, secondary_of, view_format, views_path}
use Rattle.physical_paths.specs.KeyedFiles.{IsRecord, HasRecordsOf}
use Rattle.logical_paths.specs.Steps.{shown_in_join, shown_of}
use Rattle.logical_paths.specs.KeyedViews.{IsShownOf, IsPartOver, AreRulesOver, IsKeyedView, IsViewOver, IsSequenceOf, IsFileOver, IsKeyedLogical, IsRecordOfBases, HaveRecords}
use Rattle.logical_paths.proofs.ShownLemmas.{at-lies}
use Rattle.logical_paths.proofs.KeyLemmas.{parts-allowed, parts-behind, parts-length, parts-match, parts-shown, secondary-behind, secondary-length}
use Rattle.logical_paths.proofs.FormatLemmas.{IsFormatOver, IsFilled, askable, keys-within, path-kept, shows-bytes}

-- ---- formats over a base file

format-over : (base : List Field) (member : ℕ) (rules : Rules) (fields : List ViewField) (parts : List KeyPart) → IsLaidOut base → AreRulesOver base rules
    → AllByRecursion (IsPartOver base fields) parts → length parts ≤ MOST_POSITIONS → IsFormatOver base (path_format member rules fields parts)
format-over base member rules fields parts laid over all few = record {
  laid = laid;
  rules = over;
  fields = parts-shown base fields parts all;
  behind = parts-behind base fields parts 0 all;
  few = subst (λ (n : ℕ). n ≤ MOST_POSITIONS) (sym (parts-length parts 0)) few;
}

view-over : (bases : Bases) (view : View) → IsViewOver bases view → IsFormatOver (bases view.base).fields (view_format bases view)
view-over bases view keyed = format-over (bases view.base).fields (bases view.base).member view.rules (shown_of view.mapping) view.keys.parts keyed.laid keyed.rules keyed.parts keyed.few

sequence-shown : (base : List Field) (sequence : KeyPart) → IsLaidOut base → IsSequenceOf base sequence → AllByRecursion (IsShownOf base) (sequence_field sequence)
sequence-shown base (KeyField t offset descend absval) laid is = (record { allowed = (at-lies base t offset laid.lies is).allowed; source = is }, tt)
sequence-shown base Absent laid is = tt

to-length : (pairs : List JoinPair) → length (map (λ pair. pair.to) pairs) ≡ length pairs
to-length [] = refl
to-length (pair ∷ pairs) = ap suc (to-length pairs)

-- the only format of a secondary file's path
abbrev secondary_format : Bases → JoinedFile → PathFormat
secondary_format bases joined = record {
  member = (bases joined.file).member;
  rules = every_record;
  fields = joined_fields (secondary_of bases joined) ++ sequence_field joined.sequence;
  key = parts_from 0 (joined_fields (secondary_of bases joined)) ++ sequence_part (total_width (joined_fields (secondary_of bases joined))) joined.sequence;
}

secondary-over : (bases : Bases) (joined : JoinedFile) → IsFileOver bases joined → IsFormatOver (bases joined.file).fields (secondary_format bases joined)
secondary-over bases joined keyed =
    let base : List Field = (bases joined.file).fields in
    let fields : List ViewField = joined_fields (secondary_of bases joined) in
    let end : total_width fields ≡ 0 + total_width fields = omega arith in
    let low : length joined.pairs < MOST_POSITIONS = keyed.few in
    let many : length fields ≡ length joined.pairs = to-length joined.pairs in
    record {
      laid = keyed.laid;
      rules = tt;
      fields = all-append (IsShownOf base) fields (sequence_field joined.sequence) (all-map (IsShownOf base) (λ pair. pair.to) joined.pairs keyed.pairs)
          (sequence-shown base joined.sequence keyed.laid keyed.sequence);
      behind = secondary-behind fields 0 (total_width fields) joined.sequence end;
      few = few-behind (length joined.pairs) (length fields) (length (secondary_format bases joined).key) MOST_POSITIONS low many (secondary-length fields 0 (total_width fields) joined.sequence);
    }
  where
    few-behind : (pairs fields key most : ℕ) → pairs < most → fields ≡ pairs → key ≤ fields + 1 → key ≤ most
    few-behind pairs fields key most low many long = omega (arith, low, many, long)

-- ---- all formats of a file's paths

-- what holds of a format over a base file by what holds of that file's name holds of all formats of a path, and of all paths
module _ (bases : Bases) (Q : List ℕ → Type 0) (R : PathFormat → Type 0)
    (so : (name : List ℕ) (format : PathFormat) → format.member ≡ (bases name).member → IsFormatOver (bases name).fields format → Q name → R format) where
  views-so : (views : List View) → AllByRecursion (IsViewOver bases) views → AllByRecursion Q (map (λ view. view.base) views) → AllByRecursion R (map (view_format bases) views)
  views-so [] keyed all = tt
  views-so (view ∷ views) keyed all = (so view.base (view_format bases view) refl (view-over bases view keyed.0) all.0, views-so views keyed.1 all.1)

  secondaries-so : (secondaries : List JoinedFile) → AllByRecursion (IsFileOver bases) secondaries → AllByRecursion Q (map (λ joined. joined.file) secondaries)
      → AllByRecursion (λ (path : PathSpec). AllByRecursion R path.formats) (map secondary_path (map (secondary_of bases) secondaries))
  secondaries-so [] keyed all = tt
  secondaries-so (joined ∷ more) keyed all =
      ((so joined.file (secondary_format bases joined) refl (secondary-over bases joined keyed.0) all.0, tt), secondaries-so more keyed.1 all.1)

  paths-so : (spec : LogicalSpec) → IsKeyedLogical bases spec → AllByRecursion Q (base_names spec) → AllByRecursion (λ (path : PathSpec). AllByRecursion R path.formats) (logical_paths bases spec)
  paths-so (Simple view) keyed all = ((so view.base (view_format bases view) refl (view-over bases view keyed) all.0, tt), tt)
  paths-so (Multi views) keyed all = (views-so views keyed.each all, tt)
  paths-so (Join view) keyed all =
      let own : PathFormat = path_format (bases view.primary).member every_record (shown_in_join view.fields) view.keys.parts in
      let primary : IsFormatOver (bases view.primary).fields own =
      format-over (bases view.primary).fields (bases view.primary).member every_record (shown_in_join view.fields) view.keys.parts keyed.laid tt keyed.parts keyed.few in
      ((so view.primary own refl primary all.0, tt), secondaries-so view.secondaries keyed.secondaries all.1)

-- ---- how many formats a path has, and how their keys match

each-more : {A : Type 0} (P Q S : A → Type 0) → ((x : A) → P x → Q x → S x) → (xs : List A) → AllByRecursion P xs → AllByRecursion Q xs → AllByRecursion S xs
each-more P Q S so [] all more = tt
each-more P Q S so (x ∷ xs) all more = (so x all.0 more.0, each-more P Q S so xs all.1 more.1)

-- the formats can be numbered, and their keys be compared
record AreMatched (path : PathSpec) : Type 0 where
  few : length path.formats ≤ MOST_FORMATS
  match : AllPairs Matches (map (λ (format : PathFormat). format.key) path.formats)

one-matched : (path : PathSpec) (format : PathFormat) → path.formats ≡ format ∷ [] → AreMatched path
one-matched path format is = record {
  few = subst (λ (formats : List PathFormat). length formats ≤ MOST_FORMATS) (sym is) (let one : 1 ≤ 65535 = omega arith in one);
  match = subst (λ (formats : List PathFormat). AllPairs Matches (map (λ (f : PathFormat). f.key) formats)) (sym is)
      (λ i j d before within. absurd (let first : j < 1 = within in omega (arith, before, first)));
}

secondaries-matched : (bases : Bases) (secondaries : List JoinedFile) → AllByRecursion AreMatched (map secondary_path (map (secondary_of bases) secondaries))
secondaries-matched bases [] = tt
secondaries-matched bases (joined ∷ more) = (one-matched (secondary_path (secondary_of bases joined)) (secondary_format bases joined) refl, secondaries-matched bases more)

-- the positions of the keys, where they stand in the path
own-key : (bases : Bases) (views : List View) (i : ℕ) (d : List KeyPart) → i < length views
    → get_or (map (λ (format : PathFormat). format.key) (map (view_format bases) views)) i d ≡ key_parts 0 (get_or (map (λ (view : View). view.keys.parts) views) i d)
own-key bases [] i d low = absurd (omega (arith, low))
own-key bases (view ∷ views) zero d low = refl
own-key bases (view ∷ views) (suc i) d low = own-key bases views i d (let less : i < length views = omega (arith, low) in less)

views-long : (bases : Bases) (views : List View) → length (map (λ (format : PathFormat). format.key) (map (view_format bases) views)) ≡ length views
views-long bases [] = refl
views-long bases (view ∷ views) = ap suc (views-long bases views)

parts-long : (views : List View) → length (map (λ (view : View). view.keys.parts) views) ≡ length views
parts-long [] = refl
parts-long (view ∷ views) = ap suc (parts-long views)

formats-long : (bases : Bases) (views : List View) → length (map (view_format bases) views) ≡ length views
formats-long bases [] = refl
formats-long bases (view ∷ views) = ap suc (formats-long bases views)

views-match : (bases : Bases) (views : List View) → AllPairs Matches (map (λ (view : View). view.keys.parts) views)
    → AllPairs Matches (map (λ (format : PathFormat). format.key) (map (view_format bases) views))
views-match bases views match i j d before within =
    let all : length (map (λ (format : PathFormat). format.key) (map (view_format bases) views)) ≡ length views = views-long bases views in
    let many : length (map (λ (view : View). view.keys.parts) views) ≡ length views = parts-long views in
    let low : j < length views = omega (arith, within, all) in
    let also : i < length views = omega (arith, before, low) in
    let there : j < length (map (λ (view : View). view.keys.parts) views) = omega (arith, low, many) in
    let parts : List (List KeyPart) = map (λ (view : View). view.keys.parts) views in
    subst (λ (keys : List KeyPart). Matches keys (get_or (map (λ (format : PathFormat). format.key) (map (view_format bases) views)) j d)) (sym (own-key bases views i d also))
    (subst (λ (keys : List KeyPart). Matches (key_parts 0 (get_or parts i d)) keys) (sym (own-key bases views j d low))
    (parts-match (get_or parts i d) (get_or parts j d) 0 0 (match i j d before there)))

all-matched : (bases : Bases) (spec : LogicalSpec) → IsKeyedLogical bases spec → AllByRecursion AreMatched (logical_paths bases spec)
all-matched bases (Simple view) keyed = (one-matched (views_path bases view.keys.unique (view ∷ [])) (view_format bases view) refl, tt)
all-matched bases (Multi views) keyed = (
  record {
    few = subst (λ (n : ℕ). n ≤ MOST_FORMATS) (sym (formats-long bases views)) keyed.few;
    match = views-match bases views keyed.match;
  },
  tt,
)
all-matched bases (Join view) keyed =
    (one-matched (primary_path bases view) (path_format (bases view.primary).member every_record (shown_in_join view.fields) view.keys.parts) refl, secondaries-matched bases view.secondaries)

-- ---- the laws

image-so : (base : List Field) (member : ℕ) (image : List ℕ) (format : PathFormat) (own : ℕ) → format.member ≡ own → IsFormatOver base format → (own ≡ member → IsRecord base image)
    → format.member ≡ member → IsAskable format image
image-so base member image format own is over record_of same = askable base format image over (record_of (sym is ∙ same))

filled-so : (base : List Field) (members : NumberedMembers) (format : PathFormat) (own : ℕ) → format.member ≡ own → IsFormatOver base format → HasRecordsOf base own members → IsFilled members format
filled-so base members format own is over records = record { base = base; over = over; records = subst (λ (n : ℕ). HasRecordsOf base n members) (sym is) records }

pub images-taken : (bases : Bases) (spec : LogicalSpec) (member : ℕ) (image : List ℕ) → IsKeyedLogical bases spec → IsRecordOfBases bases spec member image
    → All (λ path. TakesImage member (Some image) path) (logical_paths bases spec)
images-taken bases spec member image keyed records =
    let R : PathFormat → Type 0 = λ format. format.member ≡ member → IsAskable format image in
    All-from_recursion (λ (path : PathSpec). TakesImage member (Some image) path) (logical_paths bases spec)
    (weaker (λ (path : PathSpec). AllByRecursion R path.formats) (λ (path : PathSpec). TakesImage member (Some image) path)
    (λ path all. All-from_recursion R path.formats all) (logical_paths bases spec)
    (paths-so bases (λ name. (bases name).member ≡ member → IsRecord (bases name).fields image) R
    (λ name format is over record_of. image-so (bases name).fields member image format (bases name).member is over record_of) spec keyed records))

all-filled : (bases : Bases) (spec : LogicalSpec) (members : NumberedMembers) → IsKeyedLogical bases spec → HaveRecords bases spec members
    → AllByRecursion (λ (path : PathSpec). AllByRecursion (IsFilled members) path.formats) (logical_paths bases spec)
all-filled bases spec members keyed records =
    paths-so bases (λ name. HasRecordsOf (bases name).fields (bases name).member members) (IsFilled members)
    (λ name format is over have. filled-so (bases name).fields members format (bases name).member is over have) spec keyed records

pub paths-kept : (bases : Bases) (spec : LogicalSpec) (members : NumberedMembers) → IsKeyedLogical bases spec → HaveRecords bases spec members
    → All (λ path. CanBeKept path members) (logical_paths bases spec)
paths-kept bases spec members keyed records =
    All-from_recursion (λ (path : PathSpec). CanBeKept path members) (logical_paths bases spec)
    (each-more AreMatched (λ (path : PathSpec). AllByRecursion (IsFilled members) path.formats) (λ (path : PathSpec). CanBeKept path members)
    (λ path matched filled. path-kept members path matched.few filled) (logical_paths bases spec) (all-matched bases spec keyed) (all-filled bases spec members keyed records))

path-bytes : (members : NumberedMembers) (path : PathSpec) → AreMatched path → AllByRecursion (IsFilled members) path.formats → IsInBytes path members
path-bytes members path matched filled = record {
  match = matched.match;
  shown = All-from_recursion (ShowsBytes members) path.formats (weaker (IsFilled members) (ShowsBytes members) (shows-bytes members) path.formats filled);
}

pub paths-bytes : (bases : Bases) (spec : LogicalSpec) (members : NumberedMembers) → IsKeyedLogical bases spec → HaveRecords bases spec members
    → All (λ path. IsInBytes path members) (logical_paths bases spec)
paths-bytes bases spec members keyed records =
    All-from_recursion (λ (path : PathSpec). IsInBytes path members) (logical_paths bases spec)
    (each-more AreMatched (λ (path : PathSpec). AllByRecursion (IsFilled members) path.formats) (λ (path : PathSpec). IsInBytes path members) (path-bytes members) (logical_paths bases spec)
    (all-matched bases spec keyed) (all-filled bases spec members keyed records))

pub keys-short : (bases : Bases) (spec : LogicalSpec) (members : NumberedMembers) → IsKeyedLogical bases spec → HaveRecords bases spec members
    → All (λ path. All (λ format. HasKeysWithin (key_width format.key) members format) path.formats) (logical_paths bases spec)
keys-short bases spec members keyed records =
    let R : PathFormat → Type 0 = λ format. HasKeysWithin (key_width format.key) members format in
    All-from_recursion (λ (path : PathSpec). All R path.formats) (logical_paths bases spec)
    (weaker (λ (path : PathSpec). AllByRecursion (IsFilled members) path.formats) (λ (path : PathSpec). All R path.formats)
    (λ path filled. All-from_recursion R path.formats (weaker (IsFilled members) R (keys-within members) path.formats filled)) (logical_paths bases spec)
    (all-filled bases spec members keyed records))

-- ---- positions

pub same-keys : (bases : Bases) (views : List View) → map (λ format. format.key) (map (view_format bases) views) ≡ map (λ view. key_parts 0 view.keys.parts) views
same-keys bases [] = refl
same-keys bases (view ∷ views) = ap (λ (keys : List (List KeyPart)). key_parts 0 view.keys.parts ∷ keys) (same-keys bases views)

pub view-allowed : (base : List Field) (view : View) → IsKeyedView base view → ArePositions (key_parts 0 view.keys.parts)
view-allowed base view keyed = parts-allowed base (shown_of view.mapping) view.keys.parts keyed.parts

pub view-few : (base : List Field) (view : View) → IsKeyedView base view → length (key_parts 0 view.keys.parts) ≤ MOST_POSITIONS
view-few base view keyed = subst (λ (n : ℕ). n ≤ MOST_POSITIONS) (sym (parts-length view.keys.parts 0)) keyed.few

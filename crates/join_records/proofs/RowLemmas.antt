-- Each row of a join is made of records of its files.
use Rattle.std.proofs.Common.{◌≡◌, ℕ, zero, suc, ◌+◌, ◌-◌, ◌==◌, Bool, Option, Some, None, List, [], ◌∷◌, ◌++◌, map, slice_get, get_or, refl, sym, ◌∙◌, ap, subst, arith}
use Rattle.std.specs.Prelude.{IfSome, filter}
use Rattle.std.specs.List.{AllByRecursion, find, list_all}
use Rattle.std.specs.Ordering.{is_eq}
use Rattle.std.proofs.lemmas.Bool.{cond_both, cond-false, ne_eqb}
use Rattle.std.proofs.lemmas.List.Elements.{recursion_from_All}
use Rattle.record_fmt.specs.declared.formats.Field.{Field}
use Rattle.record_fmt.specs.Records.{record_held}
use Rattle.member_slots.specs.declared.slot.Slot.{Slot}
use Rattle.member_slots.specs.declared.slot.Slot.TheVariants.{Live, Deleted}
use Rattle.member_slots.specs.Member.{MemberState, records, records_from, slot_at}
use Rattle.member_slots.specs.Members.{NumberedMembers, member_of}
use Rattle.file_model.specs.declared.joins.Secondary.{Secondary}
use Rattle.file_model.specs.declared.paths.PathFormat.{PathFormat}
use Rattle.file_model.specs.Joins.{JoinRow, Matched, RowPlace, compare_matched, compare_places, image_in, image_of_entry, is_joined, joined_rows, matched, matches_of, or_missing, primary_records, primary_row, row_with, rows_of}
use Rattle.file_model.specs.Paths.{PathEntry, compare_entries, entries_from, entries_of, entry_of, path, selected_of}
use Rattle.file_model.specs.Selection.{selects}
use Rattle.file_model.specs.Views.{default_image}
use Rattle.file_model.proofs.PathLemmas.{all-append, all-map, weaker}
use Rattle.logical_paths.proofs.ListLemmas.{each-filter, each-flat, each-in_order}
use Rattle.dds_logical.specs.declared.join_views.JoinedFile.{JoinedFile}
use Rattle.dds_logical.specs.declared.join_views.JoinView.{JoinView}
use Rattle.dds_logical.specs.declared.views.LogicalSpec.TheVariants.{Join}
use Rattle.dds_logical.specs.JoinLines.{fields_at}
use Rattle.logical_model.specs.Bases.{Bases}
use Rattle.logical_model.specs.FilePaths.{join_of, primary_path, secondary_of}
use Rattle.logical_paths.specs.KeyedFiles.{IsRecord, IsRecordSlot, HasRecordsOf}
use Rattle.logical_paths.specs.KeyedViews.{HaveRecords, IsFileOver, IsKeyedJoin}
use Rattle.join_rows.specs.Numbers.{image_at, image_of}
use Rattle.join_records.proofs.EntryLemmas.{entry-image}
use Rattle.join_position.proofs.FindLemmas.{find-holds}
use Rattle.join_records.specs.Linked.{fields_under}
use Rattle.join_records.specs.ReadOver.{HasDefaults}
use Rattle.join_records.specs.Shown.{AreRecordsOf}
use Rattle.join_records.proofs.ReadLemmas.{all-lie, default-record, fields_of_files, member-images}

-- ---- records, file by file

abbrev pub ImagesOf : List (List Field) → List (List ℕ) → Type 0
ImagesOf [] [] = Unit {0}
ImagesOf [] (image ∷ images) = ⊥
ImagesOf (fields ∷ all) [] = ⊥
ImagesOf (fields ∷ all) (image ∷ images) = IsRecord fields image × ImagesOf all images

images-more : (front : List (List Field)) (images : List (List ℕ)) (fields : List Field) (image : List ℕ) → ImagesOf front images → IsRecord fields image → ImagesOf (front ++ fields ∷ []) (images ++ image ∷ [])
images-more [] [] fields image all is = (is, tt)
images-more [] (other ∷ images) fields image all is = absurd all
images-more (first ∷ front) [] fields image all is = absurd all
images-more (first ∷ front) (other ∷ images) fields image all is = (all.0, images-more front images fields image all.1 is)

no-record : IsRecord [] []
unfolding record_held
no-record = record { long = refl; held = refl; bytes = λ k d low. absurd (omega (arith, low)) }

images-at : (all : List (List Field)) (images : List (List ℕ)) → ImagesOf all images → (place : ℕ) → IsRecord (fields_at all place) (image_in place images)
images-at [] [] is place = no-record
images-at [] (image ∷ images) is place = absurd is
images-at (fields ∷ all) [] is place = absurd is
images-at (fields ∷ all) (image ∷ images) is zero = is.0
images-at (fields ∷ all) (image ∷ images) is (suc place) = images-at all images is.1 place

-- ---- lists

front-moved : (front : List (List Field)) (fields : List Field) (rest : List (List Field)) → (front ++ fields ∷ []) ++ rest ≡ front ++ fields ∷ rest
front-moved [] fields rest = refl
front-moved (first ∷ front) fields rest = ap (λ (more : List (List Field)). first ∷ more) (front-moved front fields rest)

front-alone : (front : List (List Field)) → front ≡ front ++ []
front-alone [] = refl
front-alone (first ∷ front) = ap (λ (more : List (List Field)). first ∷ more) (front-alone front)

-- ---- the records of the secondary files

module _ (bases : Bases) (members : NumberedMembers) (keeps_missing : Bool) where
  matches-are : (joined : JoinedFile) (row : JoinRow) → HasRecordsOf (bases joined.file).fields (bases joined.file).member members
      → AllByRecursion (λ (m : Matched). IsRecord (bases joined.file).fields m.image) (matches_of (secondary_of bases joined) members row)
  matches-are joined row have =
      let file : Secondary = secondary_of bases joined in
      let base : List Field = (bases joined.file).fields in
      let pairs : List (ℕ × List ℕ) = records (member_of file.member members) in
      each-in_order compare_matched (λ (m : Matched). IsRecord base m.image)
      (map (matched file) (filter (λ (pair : ℕ × List ℕ). list_all (is_joined (image_in file.from row.images) pair.1) file.pairs) pairs))
      (all-map (λ (m : Matched). IsRecord base m.image) (matched file) (filter (λ (pair : ℕ × List ℕ). list_all (is_joined (image_in file.from row.images) pair.1) file.pairs) pairs)
      (each-filter (λ (pair : ℕ × List ℕ). IsRecord base pair.1) (λ (pair : ℕ × List ℕ). list_all (is_joined (image_in file.from row.images) pair.1) file.pairs) pairs
      (recursion_from_All (λ (pair : ℕ × List ℕ). IsRecord base pair.1) pairs (member-images members (IsRecord base) base (bases joined.file).member (λ image is. is) have))))

  missing-are : (joined : JoinedFile) (found : List Matched) → IsRecord (bases joined.file).fields (default_image (bases joined.file).fields)
      → AllByRecursion (λ (m : Matched). IsRecord (bases joined.file).fields m.image) found
      → AllByRecursion (λ (m : Matched). IsRecord (bases joined.file).fields m.image) (or_missing keeps_missing (secondary_of bases joined) found)
  missing-are joined (m ∷ found) default all = all
  missing-are joined [] default all =
      cond_both keeps_missing _ [] (λ (ms : List Matched). AllByRecursion (λ (m : Matched). IsRecord (bases joined.file).fields m.image) ms) (λ _. (default, tt)) (λ _. tt)

  rows-below : (front : List (List Field)) (files : List JoinedFile) (row : JoinRow) → ImagesOf front row.images → AllByRecursion (IsFileOver bases) files
      → AllByRecursion (λ name. HasRecordsOf (bases name).fields (bases name).member members) (map (λ (joined : JoinedFile). joined.file) files) → AllByRecursion (HasDefaults bases) files
      → AllByRecursion (λ (r : JoinRow). ImagesOf (front ++ fields_of_files bases files) r.images) (joined_rows keeps_missing (map (secondary_of bases) files) members row)
  rows-below front [] row is keyed have defaults = (subst (λ (all : List (List Field)). ImagesOf all row.images) (front-alone front) is, tt)
  rows-below front (joined ∷ files) row is keyed have defaults =
      let base : List Field = (bases joined.file).fields in
      each-flat (λ (m : Matched). IsRecord base m.image) (λ (r : JoinRow). ImagesOf (front ++ base ∷ fields_of_files bases files) r.images)
      (λ m. joined_rows keeps_missing (map (secondary_of bases) files) members (row_with row m))
      (λ m own. subst (λ (all : List (List Field)). AllByRecursion (λ (r : JoinRow). ImagesOf all r.images) (joined_rows keeps_missing (map (secondary_of bases) files) members (row_with row m)))
      (front-moved front base (fields_of_files bases files))
      (rows-below (front ++ base ∷ []) files (row_with row m) (images-more front row.images base m.image is own) keyed.1 have.1 defaults.1))
      (or_missing keeps_missing (secondary_of bases joined) (matches_of (secondary_of bases joined) members row))
      (missing-are joined (matches_of (secondary_of bases joined) members row) (default-record base keyed.0.laid defaults.0.fit defaults.0.bytes) (matches-are joined row have.0))

-- ---- the primary's records

slot-there : (member : MemberState) (i : ℕ) → slot_at member (1 + i) ≡ slice_get member.slots i
slot-there member i =
    cond-false (1 + i == 0) None (slice_get member.slots (1 + i - 1)) (ne_eqb (1 + i) 0 (λ e. absurd (omega (arith, e))))
    ∙ (let same : 1 + i - 1 ≡ i = omega arith in ap (slice_get member.slots) same)

images-there : (fields : List Field) (member : MemberState) (rrn : ℕ) (slots : List Slot) → ((i : ℕ) → slot_at member (rrn + i) ≡ slice_get slots i) → AllByRecursion (IsRecordSlot fields) slots
    → AllByRecursion (λ (pair : ℕ × List ℕ). IsRecord fields (image_at member pair.0)) (records_from rrn slots)
images-there fields member rrn [] here all = tt
images-there fields member rrn (Live image ∷ slots) here all = (
  (let start : rrn ≡ rrn + 0 = omega arith in
      subst (λ (o : Option Slot). IsRecord fields (image_of o)) (sym (ap (slot_at member) start ∙ here 0)) all.0),
  images-there fields member (rrn + 1) slots (λ i. (let next : rrn + 1 + i ≡ rrn + suc i = omega arith in ap (slot_at member) next ∙ here (suc i))) all.1,
)
images-there fields member rrn (Deleted ∷ slots) here all =
    images-there fields member (rrn + 1) slots (λ i. (let next : rrn + 1 + i ≡ rrn + suc i = omega arith in ap (slot_at member) next ∙ here (suc i))) all.1

module _ (bases : Bases) (view : JoinView) (members : NumberedMembers) (keyed : IsKeyedJoin bases view) (have : HaveRecords bases (Join view) members)
    (defaults : AllByRecursion (HasDefaults bases) view.secondaries) where
  abbrev own : PathFormat
  own = get_or (primary_path bases view).formats 0 (record { member = 0; rules = record { statements = []; all = None }; fields = []; key = [] })

  abbrev member : MemberState
  member = member_of (bases view.primary).member members

  IsOfPrimary : PathEntry → Type 0
  IsOfPrimary entry = IsRecord (bases view.primary).fields (image_of_entry entry (records member))

  entries-are : (number : ℕ) (format : PathFormat) → AllByRecursion (λ (pair : ℕ × List ℕ). IsRecord (bases view.primary).fields (image_at member pair.0)) (selected_of format member.slots)
      → AllByRecursion IsOfPrimary (map (entry_of number format) (selected_of format member.slots))
  unfolding IsOfPrimary
  entries-are number format all =
      all-map IsOfPrimary (entry_of number format) (selected_of format member.slots)
      (weaker (λ (pair : ℕ × List ℕ). IsRecord (bases view.primary).fields (image_at member pair.0)) (λ (pair : ℕ × List ℕ). IsOfPrimary (entry_of number format pair))
      (λ pair is. subst (IsRecord (bases view.primary).fields) (sym (entry-image (entry_of number format pair) member)) is) (selected_of format member.slots) all)

  path-are : AllByRecursion IsOfPrimary (path (primary_path bases view) members)
  path-are =
      each-in_order (compare_entries view.keys.ties) IsOfPrimary (entries_from 0 (primary_path bases view).formats members)
      (all-append IsOfPrimary (entries_of 0 own members) []
      (entries-are 0 own (each-filter (λ (pair : ℕ × List ℕ). IsRecord (bases view.primary).fields (image_at member pair.0)) (λ (pair : ℕ × List ℕ). selects own.rules pair.1) (records_from 1 member.slots)
      (images-there (bases view.primary).fields member 1 member.slots (slot-there member) (recursion_from_All (IsRecordSlot (bases view.primary).fields) member.slots have.0)))) tt)

  rows-are : AllByRecursion (λ (r : JoinRow). ImagesOf (fields_under bases view) r.images) (rows_of (join_of bases view) members)
  unfolding IsOfPrimary
  rows-are =
      each-flat IsOfPrimary (λ (r : JoinRow). ImagesOf (fields_under bases view) r.images)
      (λ entry. joined_rows view.keeps_missing (map (secondary_of bases) view.secondaries) members (primary_row (primary_records (primary_path bases view).formats members) entry))
      (λ entry is. rows-below bases members view.keeps_missing ((bases view.primary).fields ∷ []) view.secondaries (primary_row (primary_records (primary_path bases view).formats members) entry) (is, tt)
      keyed.secondaries have.1 defaults)
      (path (primary_path bases view) members) path-are

  -- so is the one at a place
  pub row-is : (place : RowPlace) (row : JoinRow) → find (λ (other : JoinRow). is_eq (compare_places view.keys.ties other.place place)) (rows_of (join_of bases view) members) ≡ Some row
      → AreRecordsOf (fields_under bases view) row.images
  row-is place row found = record {
    lies = all-lie bases view keyed;
    each = images-at (fields_under bases view) row.images
        (subst (λ (o : Option JoinRow). IfSome o (λ (r : JoinRow). ImagesOf (fields_under bases view) r.images)) found
        (find-holds (λ (r : JoinRow). ImagesOf (fields_under bases view) r.images) (λ (other : JoinRow). is_eq (compare_places view.keys.ties other.place place))
        (rows_of (join_of bases view) members) rows-are));
  }

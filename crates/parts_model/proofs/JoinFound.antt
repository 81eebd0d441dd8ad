-- What is found among the rows of a join is its row at that place, of whose records it shows values.
use Rattle.std.proofs.Common.{◌≡◌, ◌∙◌, ℕ, Option, Some, None, List, [], ◌∷◌, ◌++◌, refl, sym, ap, subst, append_assoc, append-nil}
use Rattle.std.specs.List.{find}
use Rattle.std.specs.Option.{option_map}
use Rattle.std.specs.Ordering.{is_eq}
use Rattle.library_steps.below.dds_logical.specs.declared.join_views.JoinView.{JoinView}
use Rattle.file_model.specs.declared.joins.JoinSpec.{JoinSpec}
use Rattle.file_model.specs.declared.joins.Secondary.{Secondary}
use Rattle.file_model.specs.FilePaths.{key_parts}
use Rattle.file_model.specs.Joins.{JoinRow, RowPlace, compare_places, row_with, rows_of}
use Rattle.file_model.specs.Positions.{Position}
use Rattle.job_table.specs.RowReads.{CanBeKept, asked_row, place_of}
use Rattle.job_table.proofs.FindLemmas.{Finds, asked-place}
use Rattle.join_records.proofs.EntryLemmas.{entry-image}
use Rattle.join_records.specs.Linked.{fields_under}
use Rattle.join_records.specs.ReadOver.{IsReadOver}
use Rattle.join_records.specs.Shown.{AreRecordsOf}
use Rattle.join_records.below.join_rows.specs.declared.rows.Row.{Row}
use Rattle.join_records.specs.NextRow.{row_of_entry}
use Rattle.join_records.specs.Numbers.{image_at, matched_number, row_by}
use Rattle.join_records.specs.Rows.{IsFound, IsRow}
use Rattle.key_pages.specs.declared.entries.Entry.{Entry}
use Rattle.key_pages.specs.EntryList.{EntryList}
use Rattle.key_spec.specs.declared.KeyPart.{KeyPart}
use Rattle.lawful_states.proofs.NameLemmas.{some-equal}
use Rattle.library_steps.specs.LogicalFiles.{bases_of}
use Rattle.library_steps.specs.State.{Memory, OpenState}
use Rattle.library_steps.specs.Bases.{Bases}
use Rattle.library_steps.specs.FilePaths.{join_of}
use Rattle.member_slots.specs.Members.{NumberedMembers, member_of}
use Rattle.open_position.specs.declared.reads.ReadBy.{ReadBy}
use Rattle.parts_model.specs.declared.rows.RowFound.{RowFound}
use Rattle.parts_model.specs.Rows.{FindsRow, IsRowAt, images_found, images_matched, row_found_by}

-- ---- the records of a row

module _ (members : NumberedMembers) where
  by-images : (files : List Secondary) (row : JoinRow) (numbers : List (Option ℕ)) → (row_by members files row numbers).images ≡ row.images ++ images_matched members files numbers
  by-images [] row [] = sym (append-nil row.images)
  by-images [] row (n ∷ numbers) = sym (append-nil row.images)
  by-images (file ∷ files) row [] = sym (append-nil row.images)
  by-images (file ∷ files) row (n ∷ numbers) =
      by-images files (row_with row (matched_number file members n)) numbers
      ∙ append_assoc row.images ((matched_number file members n).image ∷ []) (images_matched members files numbers)

-- ---- a row that was found

-- what the laws of joins say of the rows of this one
pub record AreRowsKnown (bases : Bases) (view : JoinView) (members : NumberedMembers) : Type 0 where
  pub made : (place : RowPlace) (row : JoinRow) → find (λ other. is_eq (compare_places view.keys.ties other.place place)) (rows_of (join_of bases view) members) ≡ Some row
      → AreRecordsOf (fields_under bases view) row.images
  pub at : (by : ReadBy) (parts : List KeyPart) (position : Position RowPlace) (row : JoinRow) → asked_row by parts (join_of bases view) members position ≡ Some row
      → find (λ other. is_eq (compare_places view.keys.ties other.place row.place)) (rows_of (join_of bases view) members) ≡ Some row

abbrev pub row_found : JoinSpec → Row → RowFound
row_found spec row = record { spec = spec; primary = row.primary.now; numbers = row.numbers }

module _ (m : Memory) (view : JoinView) (primary : EntryList) (secondaries : List EntryList) (over : IsReadOver (bases_of m) view m.members primary secondaries)
    (known : AreRowsKnown (bases_of m) view m.members) where
  abbrev spec : JoinSpec
  spec = join_of (bases_of m) view

  abbrev parts : List KeyPart
  parts = key_parts 0 view.keys.parts

  abbrev own : ℕ
  own = (bases_of m view.primary).member

  images-are : (row : Row) (its : JoinRow) → IsRow spec m.members row its → its.images ≡ images_found m.members own (row_found spec row)
  images-are row its is =
      let number : is.entry.rrn ≡ row.primary.now.rrn = ap (λ (e : Entry). e.rrn) is.primary in
      ap (λ (r : JoinRow). r.images) is.is
      ∙ by-images m.members spec.secondaries (row_of_entry spec m.members is.entry) row.numbers.items
      ∙ ap (λ (image : List ℕ). image ∷ images_matched m.members spec.secondaries row.numbers.items)
      (entry-image is.entry (member_of own m.members) ∙ ap (image_at (member_of own m.members)) number)

  row-at : (by : ReadBy) (position : Position RowPlace) (row : Row) (its : JoinRow) → asked_row by parts spec m.members position ≡ Some its → IsRow spec m.members row its
      → its.place ≡ place_of parts spec m.members row → CanBeKept parts spec m.members row → IsRowAt view m (place_of parts spec m.members row) (row_found spec row)
  row-at by position row its asked is place kept =
      let images : its.images ≡ images_found m.members own (row_found spec row) = images-are row its is in
      let at = known.at by parts position its asked in
      record {
        spec = refl;
        told = refl;
        stood = record { first = kept.first; some = kept.some; most = kept.most; key = kept.key; short = kept.short; numbers = kept.numbers };
        row = (its, subst (λ (p : RowPlace). find (λ other. is_eq (compare_places view.keys.ties other.place p)) (rows_of spec m.members) ≡ Some its) place at, images);
        shows = record {
          all = fields_under (bases_of m) view;
          fields = over.linked.shown;
          format = over.linked.format;
          records = subst (AreRecordsOf (fields_under (bases_of m) view)) images (known.made its.place its at);
        };
      }

  row-there : (by : ReadBy) (opened : OpenState) (row : Row) → Finds parts spec m.members by opened.rows (Some row) → FindsRow view m (Some (row_found spec row)) (row_found_by by view opened m)
  row-there by opened row finds = kind (asked_row by parts spec m.members opened.rows) refl finds.row
    where
      kind : (o : Option JoinRow) → asked_row by parts spec m.members opened.rows ≡ o → IsFound spec m.members (Some row) o
          → FindsRow view m (Some (row_found spec row)) (row_found_by by view opened m)
      kind None is h = absurd h
      kind (Some its) is h =
          let place : Some its.place ≡ Some (place_of parts spec m.members row) =
          sym (ap (option_map (λ (r : JoinRow). r.place)) is) ∙ asked-place spec m.members by parts opened.rows ∙ sym finds.place in
          (place_of parts spec m.members row, sym finds.place, row-at by opened.rows row its is h (some-equal place) finds.kept)

  pub rows-found : (by : ReadBy) (opened : OpenState) (o : Option Row) → Finds parts spec m.members by opened.rows o → FindsRow view m (option_map (row_found spec) o) (row_found_by by view opened m)
  rows-found by opened None finds = sym finds.place
  rows-found by opened (Some row) finds = row-there by opened row finds

-- ---- by the position that an open keeps

pub finds-as : (mine other : List KeyPart) (made join : JoinSpec) (members : NumberedMembers) (by : ReadBy) (position at : Position RowPlace) (o : Option Row) → mine ≡ other → made ≡ join → position ≡ at
    → Finds mine made members by position o → Finds other join members by at o
finds-as mine other made join members by position at o keys same stands finds =
    subst (λ (p : Position RowPlace). Finds other join members by p o) stands
    (subst (λ (j : JoinSpec). Finds other j members by position o) same (subst (λ (k : List KeyPart). Finds k made members by position o) keys finds))

-- what is given out of it
pub given-out : (view : JoinView) (m : Memory) (wanted : Option RowPlace) (made join : JoinSpec) (row : Row) (primary : Entry) → made ≡ join → primary ≡ row.primary.now
    → FindsRow view m (Some (row_found join row)) wanted → FindsRow view m (Some (record { spec = made; primary = primary; numbers = row.numbers })) wanted
given-out view m wanted made join row primary same copy found =
    subst (λ (f : RowFound). FindsRow view m (Some f) wanted) (λ i. record { spec = (sym same) i; primary = (sym copy) i; numbers = row.numbers }) found

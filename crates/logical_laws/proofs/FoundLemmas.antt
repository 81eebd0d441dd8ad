-- What stands in the path of a logical file, and in the rows of a join, are records of its base members.
use Rattle.std.proofs.Common.{◌≡◌, ℕ, zero, suc, ◌+◌, ◌-◌, ◌==◌, ◌∙◌, refl, sym, ap, arith, Bool, false, Some, None, List, [], ◌∷◌, map, slice_get, Contains}
use Rattle.std.specs.List.{AllByRecursion}
use Rattle.std.proofs.lemmas.Bool.{cond-false, ne_eqb}
use Rattle.member_slots.specs.declared.slot.Slot.{Slot}
use Rattle.member_slots.specs.declared.slot.Slot.TheVariants.{Live, Deleted}
use Rattle.member_slots.specs.Member.{MemberState, slot_at, records_from}
use Rattle.member_slots.specs.Members.{NumberedMembers, member_of}
use Rattle.logical_model.below.dds_logical.specs.declared.views.View.{View}
use Rattle.logical_model.below.dds_logical.specs.declared.views.LogicalSpec.{LogicalSpec}
use Rattle.logical_model.below.dds_logical.specs.declared.views.LogicalSpec.TheVariants.{Simple, Multi, Join}
use Rattle.logical_model.below.dds_logical.specs.declared.join_views.JoinView.{JoinView}
use Rattle.file_model.specs.declared.joins.Secondary.{Secondary}
use Rattle.file_model.specs.declared.paths.PathFormat.{PathFormat}
use Rattle.file_model.specs.declared.paths.PathSpec.{PathSpec}
use Rattle.file_model.specs.Paths.{PathEntry, compare_entries, entry_of, selected_of, entries_of, entries_from, path}
use Rattle.file_model.specs.Selection.{selects}
use Rattle.file_model.specs.Joins.{RowPlace, JoinRow, row_with, matches_of, or_missing, joined_rows, primary_row, primary_records, rows_of}
use Rattle.logical_model.specs.Bases.{Bases, base_members}
use Rattle.logical_model.specs.FilePaths.{view_format, views_path, primary_path, join_of}
use Rattle.logical_model.specs.Readings.{logical_reading, rows_reading}
use Rattle.logical_laws.specs.Found.{StandsIn}
use Rattle.logical_laws.proofs.ListLemmas.{each-contained, each-weaker, each-append, each-map, each-filter, each-flat, always-flat, each-in_order}

-- ---- records of a member

slot-there : (member : MemberState) (i : ℕ) → slot_at member (1 + i) ≡ slice_get member.slots i
slot-there member i =
    cond-false (1 + i == 0) None (slice_get member.slots (1 + i - 1)) (ne_eqb (1 + i) 0 (λ e. absurd (omega (arith, e))))
    ∙ (let same : 1 + i - 1 ≡ i = omega arith in ap (slice_get member.slots) same)

records-there : (member : MemberState) (rrn : ℕ) (slots : List Slot) → ((i : ℕ) → slot_at member (rrn + i) ≡ slice_get slots i)
    → AllByRecursion (λ pair. slot_at member pair.0 ≡ Some (Live pair.1)) (records_from rrn slots)
records-there member rrn [] here = tt
records-there member rrn (Live image ∷ slots) here = (
  (let same : rrn ≡ rrn + 0 = omega arith in ap (slot_at member) same ∙ here 0),
  records-there member (rrn + 1) slots (λ i. (let same : rrn + 1 + i ≡ rrn + suc i = omega arith in ap (slot_at member) same ∙ here (suc i))),
)
records-there member rrn (Deleted ∷ slots) here =
    records-there member (rrn + 1) slots (λ i. (let same : rrn + 1 + i ≡ rrn + suc i = omega arith in ap (slot_at member) same ∙ here (suc i)))

-- ---- entries of formats

-- the formats from this number on have these members
abbrev HasMembers : List ℕ → ℕ → List PathFormat → Type 0
HasMembers base number formats = (i member : ℕ) → slice_get (map (λ format. format.member) formats) i ≡ Some member → slice_get base (number + i) ≡ Some member

format-stands : (base : List ℕ) (members : NumberedMembers) (number : ℕ) (format : PathFormat) → slice_get base number ≡ Some format.member
    → AllByRecursion (StandsIn base members) (entries_of number format members)
format-stands base members number format here =
    let slots : List Slot = (member_of format.member members).slots in
    let there = records-there (member_of format.member members) 1 slots (slot-there (member_of format.member members)) in
    each-map (StandsIn base members) (entry_of number format) (selected_of format slots)
    (each-weaker (λ pair. slot_at (member_of format.member members) pair.0 ≡ Some (Live pair.1)) (λ pair. StandsIn base members (entry_of number format pair))
    (λ pair live. record { member = format.member; image = pair.1; is = here; live = live }) (selected_of format slots)
    (each-filter (λ pair. slot_at (member_of format.member members) pair.0 ≡ Some (Live pair.1)) (λ pair. selects format.rules pair.1) (records_from 1 slots) there))

formats-stand : (base : List ℕ) (members : NumberedMembers) (number : ℕ) (formats : List PathFormat) → HasMembers base number formats
    → AllByRecursion (StandsIn base members) (entries_from number formats members)
formats-stand base members number [] has = tt
formats-stand base members number (format ∷ formats) has =
    let first : slice_get base number ≡ Some format.member = (let same : number ≡ number + 0 = omega arith in ap (slice_get base) same ∙ has 0 format.member refl) in
    each-append (StandsIn base members) (entries_of number format members) (entries_from (number + 1) formats members)
    (format-stands base members number format first)
    (formats-stand base members (number + 1) formats (λ i member at. (let same : number + 1 + i ≡ number + suc i = omega arith in ap (slice_get base) same ∙ has (suc i) member at)))

path-stands : (base : List ℕ) (members : NumberedMembers) (spec : PathSpec) → HasMembers base 0 spec.formats → AllByRecursion (StandsIn base members) (path spec members)
path-stands base members spec has =
    each-in_order (compare_entries spec.ties) (StandsIn base members) (entries_from 0 spec.formats members) (formats-stand base members 0 spec.formats has)

-- ---- a logical file

members-of-views : (bases : Bases) (views : List View) → map (λ name. (bases name).member) (map (λ view. view.base) views) ≡ map (λ format. format.member) (map (view_format bases) views)
members-of-views bases [] = refl
members-of-views bases (view ∷ views) = ap (λ (more : List ℕ). (bases view.base).member ∷ more) (members-of-views bases views)

views-have : (bases : Bases) (views : List View) → HasMembers (map (λ name. (bases name).member) (map (λ view. view.base) views)) 0 (map (view_format bases) views)
views-have bases views =
    let base : List ℕ = map (λ name. (bases name).member) (map (λ view. view.base) views) in
    λ i member at. (let same : 0 + i ≡ i = omega arith in ap (slice_get base) same ∙ ap (λ (others : List ℕ). slice_get others i) (members-of-views bases views) ∙ at)

-- the first of the base members is that of the only format
first-has : (formats : List PathFormat) (only : ℕ) (others : List ℕ) → map (λ format. format.member) formats ≡ only ∷ [] → HasMembers (only ∷ others) 0 formats
first-has formats only others one = λ i member at. by i member (ap (λ (members : List ℕ). slice_get members i) (sym one) ∙ at)
  where
    by : (i member : ℕ) → slice_get (only ∷ []) i ≡ Some member → slice_get (only ∷ others) (0 + i) ≡ Some member
    by zero member at = at
    by (suc i) member at = absurd cc

entries-stand : (bases : Bases) (spec : LogicalSpec) (members : NumberedMembers) → AllByRecursion (StandsIn (base_members bases spec) members) (logical_reading bases spec members).items
entries-stand bases (Simple view) members = path-stands (base_members bases (Simple view)) members (views_path bases view.keys.unique (view ∷ [])) (views-have bases (view ∷ []))
entries-stand bases (Multi views) members = path-stands (base_members bases (Multi views)) members (views_path bases false views) (views-have bases views)
entries-stand bases (Join view) members =
    path-stands (base_members bases (Join view)) members (primary_path bases view)
    (first-has (primary_path bases view).formats (bases view.primary).member (map (λ name. (bases name).member) (map (λ joined. joined.file) view.secondaries)) refl)

pub entry-stands : (bases : Bases) (spec : LogicalSpec) (members : NumberedMembers) (entry : PathEntry) → Contains (logical_reading bases spec members).items entry
    → StandsIn (base_members bases spec) members entry
entry-stands bases spec members entry there = each-contained (StandsIn (base_members bases spec) members) (logical_reading bases spec members).items entry (entries-stand bases spec members) there

-- ---- the rows of a join

-- a row keeps its primary record
rows-begin : (P : PathEntry → Type 0) (keeps_missing : Bool) (files : List Secondary) (members : NumberedMembers) (row : JoinRow) → P row.place.primary
    → AllByRecursion (λ (made : JoinRow). P made.place.primary) (joined_rows keeps_missing files members row)
rows-begin P keeps_missing [] members row here = (here, tt)
rows-begin P keeps_missing (file ∷ files) members row here =
    always-flat (λ (made : JoinRow). P made.place.primary) (λ m. joined_rows keeps_missing files members (row_with row m))
    (λ m. rows-begin P keeps_missing files members (row_with row m) here) (or_missing keeps_missing file (matches_of file members row))

rows-stand : (bases : Bases) (view : JoinView) (members : NumberedMembers)
    → AllByRecursion (λ (row : JoinRow). StandsIn ((bases view.primary).member ∷ []) members row.place.primary) (rows_of (join_of bases view) members)
rows-stand bases view members =
    let base : List ℕ = (bases view.primary).member ∷ [] in
    each-flat (StandsIn base members) (λ (row : JoinRow). StandsIn base members row.place.primary)
    (λ entry. joined_rows view.keeps_missing (join_of bases view).secondaries members (primary_row (primary_records (primary_path bases view).formats members) entry))
    (λ entry stands. rows-begin (StandsIn base members) view.keeps_missing (join_of bases view).secondaries members
    (primary_row (primary_records (primary_path bases view).formats members) entry) stands)
    (path (primary_path bases view) members)
    (path-stands base members (primary_path bases view) (first-has (primary_path bases view).formats (bases view.primary).member [] refl))

pub row-stands : (bases : Bases) (view : JoinView) (members : NumberedMembers) (place : RowPlace) → Contains (rows_reading bases view members).items place
    → StandsIn ((bases view.primary).member ∷ []) members place.primary
row-stands bases view members place there =
    each-contained (λ (found : RowPlace). StandsIn ((bases view.primary).member ∷ []) members found.primary) (rows_reading bases view members).items place
    (each-map (λ (found : RowPlace). StandsIn ((bases view.primary).member ∷ []) members found.primary) (λ row. row.place) (rows_of (join_of bases view) members) (rows-stand bases view members)) there

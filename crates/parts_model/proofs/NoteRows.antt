-- What is noted of a row that was read: an open of the join can stand on it, and the open goes on at its place.
use Rattle.std.proofs.Common.{◌≡◌, ◌∙◌, ℕ, ◌≤◌, ◌<◌, Option, Some, List, [], ◌∷◌, length, map, refl, sym, ap, subst, arith}
use Rattle.library_steps.below.dds_logical.specs.declared.join_views.JoinedFile.{JoinedFile}
use Rattle.library_steps.below.dds_logical.specs.declared.join_views.JoinView.{JoinView}
use Rattle.library_steps.below.dds_logical.specs.declared.views.LogicalSpec.TheVariants.{Join}
use Rattle.file_model.specs.declared.joins.JoinSpec.{JoinSpec}
use Rattle.file_model.specs.declared.joins.Secondary.{Secondary}
use Rattle.file_model.specs.declared.paths.PathSpec.{PathSpec}
use Rattle.file_model.specs.FilePaths.{key_parts}
use Rattle.file_model.specs.Joins.{RowPlace}
use Rattle.job_table.specs.declared.opens.RowRead.{RowRead}
use Rattle.job_table.specs.OpenChanges.{IsRowRead, place_by}
use Rattle.job_table.specs.Opens.{AllOfNumber, JoinOrder, KeptOpen, OpenOrder}
use Rattle.job_table.specs.Kept.{IsKeyOf}
use Rattle.job_table.specs.RowReads.{AreNumbers, CanBeKept, matches_by}
use Rattle.access_path.specs.KeyFields.{key_width}
use Rattle.key_pages.specs.declared.entries.Entry.{Entry}
use Rattle.key_spec.specs.declared.KeyPart.{KeyPart}
use Rattle.library_model.specs.Named.{Named}
use Rattle.library_steps.specs.LogicalFiles.{bases_of}
use Rattle.library_steps.specs.Opens.{first_of}
use Rattle.library_steps.specs.Records.{is_keyed}
use Rattle.library_steps.specs.State.{FileState, Memory}
use Rattle.library_steps.specs.Bases.{Bases, FileSpec, LogicalFile}
use Rattle.library_steps.specs.FilePaths.{primary_path, secondary_of}
use Rattle.member_slots.specs.Members.{NumberedMembers}
use Rattle.open_position.specs.OpenStand.{entry_by}
use Rattle.path_set.specs.KeptPaths.{NumberedPaths}
use Rattle.parts_model.specs.declared.rows.RowFound.{RowFound}
use Rattle.parts_model.specs.Indexed.{IsByPath, IsByRows, ReadsBy, ReadsRowsBy, path_by, path_read}
use Rattle.parts_model.specs.Rows.{IsRowAt, place_found}
use Rattle.parts_model.proofs.PlaceLemmas.{of-number}
use Rattle.parts_model.proofs.RowsOver.{join-there}

same-sequences : (bases : Bases) (files : List JoinedFile) → map (λ (file : Secondary). file.sequence) (map (secondary_of bases) files) ≡ map (λ (joined : JoinedFile). joined.sequence) files
same-sequences bases [] = refl
same-sequences bases (joined ∷ files) = ap (λ (rest : List KeyPart). joined.sequence ∷ rest) (same-sequences bases files)

-- a row that is handed over is the one that was found
pub record IsHanded (own : NumberedMembers) (found : RowFound) (read : RowRead) : Type 0 where
  pub spec : read.join.spec.now ≡ found.spec
  pub members : read.join.members.now.members ≡ own
  pub primary : read.row.now.primary.now ≡ found.primary
  pub numbers : read.row.now.numbers.items ≡ found.numbers.items

module _ (m : Memory) (paths : NumberedPaths) (kept : KeptOpen) (file : FileState) (view : JoinView) (is : file.spec ≡ LogicalFile (Join view))
    (by : ReadsBy paths (path_read (bases_of m) file kept.state) kept.order) (rows : ReadsRowsBy (bases_of m) paths file.spec kept.order.join)
    (place : RowPlace) (found : RowFound) (its : IsRowAt view m place found) where
  its-rows : (join : JoinOrder) × (kept.order.join ≡ Some join) × IsByRows (bases_of m) paths view join
  its-rows = join-there (bases_of m) paths view kept.order.join (subst (λ (f : FileSpec). ReadsRowsBy (bases_of m) paths f kept.order.join) is rows)

  pub along : IsByPath paths (primary_path (bases_of m) view) kept.order
  along =
      let own : path_read (bases_of m) file kept.state ≡ Some (primary_path (bases_of m) view) = λ i. path_by (bases_of m) (is_keyed file kept.state) (first_of kept.state.members) (is i) in
      subst (λ (o : Option PathSpec). ReadsBy paths o kept.order) own by

  -- it reads one format
  pub row-low : place.primary.format < length kept.order.formats
  row-low =
      let first : place.primary.format ≡ 0 = ap (λ (p : RowPlace). p.primary.format) (sym its.told) ∙ its.stood.first in
      let one : length kept.order.formats ≡ 1 = ap length along.formats in
      omega (arith, first, one)

  module _ (read : RowRead) (handed : IsHanded m.members found read) where
    can-keep : (parts : List KeyPart) → key_parts 0 view.keys.parts ≡ parts → CanBeKept parts read.join.spec.now read.join.members.now.members read.row.now
    can-keep parts same =
        subst (λ (p : List KeyPart). CanBeKept p read.join.spec.now read.join.members.now.members read.row.now) same
        (record {
          first = ap (λ (e : Entry). e.format) handed.primary ∙ its.stood.first;
          some = subst (λ (e : Entry). 1 ≤ e.rrn) (sym handed.primary) its.stood.some;
          most = subst (λ (e : Entry). e.rrn < 4294967295) (sym handed.primary) its.stood.most;
          key = subst (λ (e : Entry). IsKeyOf (key_parts 0 view.keys.parts) e.key) (sym handed.primary) its.stood.key;
          short = subst (λ (e : Entry). length e.key ≤ key_width (key_parts 0 view.keys.parts)) (sym handed.primary) its.stood.short;
          numbers = subst (λ (ns : List (Option ℕ)). AreNumbers read.join.members.now.members read.join.spec.now.secondaries ns) (sym handed.numbers)
              (subst (λ (ms : NumberedMembers). AreNumbers ms read.join.spec.now.secondaries found.numbers.items) (sym handed.members)
              (subst (λ (j : JoinSpec). AreNumbers m.members j.secondaries found.numbers.items) (sym handed.spec) its.stood.numbers));
        })

    row-read : IsRowRead kept.order.join read
    row-read =
        let join = its-rows in
        subst (λ (o : Option JoinOrder). IsRowRead o read) (sym join.1)
        ((
          ap (λ (j : JoinSpec). map (λ (f : Secondary). f.sequence) j.secondaries) (handed.spec ∙ its.spec) ∙ same-sequences (bases_of m) view.secondaries ∙ join.2.sequences,
          can-keep join.0.parts join.2.parts,
        ))

    row-place : place_by kept.order.join read ≡ place
    row-place =
        let join = its-rows in
        let same : place_by (Some join.0) read ≡ place_found (key_parts 0 view.keys.parts) m.members found =
        λ i. record {
          primary = entry_by ((sym join.2.parts) i) (handed.primary i);
          matches = matches_by (handed.members i) ((handed.spec i).secondaries) (handed.numbers i);
        } in
        ap (λ (o : Option JoinOrder). place_by o read) join.1 ∙ same ∙ its.told

    -- so it may be noted in all opens of this number, of which there is one
    pub row-can : (number : ℕ) (orders : Named OpenOrder) → AllOfNumber number (λ order. order ≡ kept.order) orders → AllOfNumber number (λ order. IsRowRead order.join read) orders
    row-can number orders alone = of-number number kept.order (λ (order : OpenOrder). IsRowRead order.join read) orders alone row-read

    pub row-placed : (number : ℕ) (orders : Named OpenOrder) → AllOfNumber number (λ order. order ≡ kept.order) orders → AllOfNumber number (λ order. place_by order.join read ≡ place) orders
    row-placed number orders alone = of-number number kept.order (λ (order : OpenOrder). place_by order.join read ≡ place) orders alone row-place

-- What an open finds, of a join among its rows.
use Rattle.std.proofs.Common.{◌≡◌, ◌∙◌, ℕ, true, false, IfOk, Option, Some, None, is_some, Result, Ok, Err, List, [], ◌∷◌, refl, sym, ap, subst}
use Rattle.std.specs.Option.{option_and_then, option_map}
use Rattle.std.specs.List.{AllByRecursion}
use Rattle.dds_logical.specs.declared.join_views.JoinView.{JoinView}
use Rattle.dds_logical.specs.declared.join_views.JoinedFile.{JoinedFile}
use Rattle.dds_logical.specs.declared.views.LogicalSpec.TheVariants.{Join}
use Rattle.file_model.specs.FilePaths.{key_parts}
use Rattle.file_model.specs.Joins.{RowPlace}
use Rattle.file_model.specs.Paths.{PathEntry}
use Rattle.key_spec.specs.declared.KeyPart.{KeyPart}
use Rattle.logical_laws.specs.Mapped.{HoldDefaults}
use Rattle.logical_model.specs.Bases.{FileSpec, PhysicalFile, LogicalFile}
use Rattle.logical_model.specs.Readings.{join_in, rows_reading}
use Rattle.joint_state.specs.Views.{HaveDefaults}
use Rattle.open_position.specs.declared.reads.ReadBy.{ReadBy}
use Rattle.library_model.specs.Named.{Named, named}
use Rattle.library_steps.specs.LogicalFiles.{base_in, bases_in, bases_of}
use Rattle.library_steps.specs.Reads.{entry_found, find_by, row_found}
use Rattle.library_steps.specs.State.{Memory, FileState, OpenState, if_physical}
use Rattle.library_parts.specs.Indexed.{IsUnjoined}
use Rattle.library_parts.specs.Reads.{formats_read, found_by, parts_read}
use Rattle.library_parts.specs.Rows.{HoldDefaultsOf, row_found_by}
use Rattle.record_reads.specs.declared.asked.AskedBy.{AskedBy}
use Rattle.record_reads.specs.declared.asked.AskedBy.TheVariants.{Next, Prior, NextEqual, PriorEqual, FirstEqual, Number}
use Rattle.record_reads.specs.Asked.{AsksThe, HasNumberFor, IsOfFormats, IsOfParts, found_in, found_through}
use Rattle.library_parts.proofs.PlaceLemmas.{joined-parts}
use Rattle.library_parts.below.parts_model.specs.declared.rows.RowFound.{RowFound}
use Rattle.library_parts.below.parts_model.specs.declared.stop.Stop.{Stop}
use Rattle.record_reads.specs.declared.plans.FoundAt.{FoundAt}
use Rattle.record_reads.proofs.SimpleLemmas.{find_in-unjoined}

module _ (m : Memory) (file : FileState) (opened : OpenState) (asks : AskedBy) (by : ReadBy) (same : AsksThe asks by) where
  -- ---- a file that is no join

  pub entry-found : (o : Option PathEntry) → IsUnjoined file.spec → found_by by file opened m ≡ o → found_through asks file opened m ≡ option_map entry_found o
  entry-found o unjoined is =
      find_in-unjoined (record { opened = opened; file = file }) m (λ reading. found_in asks (parts_read (bases_of m) file opened) reading opened.position)
      (λ reading. found_in asks (parts_read (bases_of m) file opened) reading opened.rows) unjoined
      ∙ ap (option_map entry_found) (sym (same.found _ _ _) ∙ is)

  -- ---- a join

  module _ (view : JoinView) (join : file.spec ≡ LogicalFile (Join view)) where
    parts : parts_read (bases_of m) file opened ≡ key_parts 0 view.keys.parts
    parts = joined-parts (bases_of m) (record { opened = opened; file = file }) view join

    pub row-found : (o : Option RowPlace) → row_found_by by view opened m ≡ o → found_through asks file opened m ≡ option_map row_found o
    row-found o is =
        ap (λ (j : Option JoinView). find_by j (record { opened = opened; file = file }) m (λ reading. found_in asks (parts_read (bases_of m) file opened) reading opened.position)
        (λ reading. found_in asks (parts_read (bases_of m) file opened) reading opened.rows)) (ap join_in join)
        ∙ ap (λ (ps : List KeyPart). option_map row_found (found_in asks ps (rows_reading (bases_of m) view m.members) opened.rows)) parts
        ∙ ap (option_map row_found) (sym (same.among _ _ _) ∙ is)

    of-parts : (a : AskedBy) → IsOfFormats a (formats_read (bases_of m) file opened) → HasNumberFor a file.spec → IsOfParts a (parts_read (bases_of m) file opened)
    of-parts Next formats numbered = tt
    of-parts Prior formats numbered = tt
    of-parts (NextEqual key) formats numbered = formats
    of-parts (PriorEqual key) formats numbered = formats
    of-parts (FirstEqual key) formats numbered = formats
    of-parts (Number rrn) formats numbered = absurd (let none : join_in (LogicalFile (Join view)) ≡ None = ap join_in (sym join) ∙ numbered in cc)

    pub row-asked : IsOfFormats asks (formats_read (bases_of m) file opened) → HasNumberFor asks file.spec → IsOfParts asks (key_parts 0 view.keys.parts)
    row-asked formats numbered = subst (IsOfParts asks) parts (of-parts asks formats numbered)

-- ---- the default values of base files

pub defaults-of : (files : Named FileState) (name : List ℕ) → HaveDefaults files → HoldDefaults (bases_in files name).fields
defaults-of files name defaults = by (named name files) refl
  where
    kind : (file : FileState) → named name files ≡ Some file → (spec : FileSpec) → file.spec ≡ spec → HoldDefaults (base_in name (if_physical spec file)).fields
    kind file found (PhysicalFile spec) is = defaults name file found
    kind file found (LogicalFile spec) is = tt

    by : (o : Option FileState) → named name files ≡ o → HoldDefaults (base_in name (option_and_then (λ (file : FileState). if_physical file.spec file) o)).fields
    by None found = tt
    by (Some file) found = kind file found file.spec refl

each-defaults : (files : Named FileState) (joined : List JoinedFile) → HaveDefaults files → AllByRecursion (λ (j : JoinedFile). HoldDefaults (bases_in files j.file).fields) joined
each-defaults files [] defaults = tt
each-defaults files (j ∷ joined) defaults = (defaults-of files j.file defaults, each-defaults files joined defaults)

pub join-defaults : (files : Named FileState) (view : JoinView) → HaveDefaults files → HoldDefaultsOf (bases_in files) view
join-defaults files view defaults = each-defaults files view.secondaries defaults

-- ---- what of it is shown by the record alone

pub shown-of-row : (P : FoundAt → Type 0) (result : Result FoundAt Stop) → IfOk result (λ (at : FoundAt). is_some at.row ≡ true) → IfOk result (λ (at : FoundAt). at.row ≡ None → P at)
shown-of-row P (Ok at) some = λ none. absurd (let e : false ≡ true = ap (λ (row : Option RowFound). is_some row) (sym none) ∙ some in cc)
shown-of-row P (Err stop) some = tt

pub shown-of-entry : (P : FoundAt → Type 0) (result : Result FoundAt Stop) → IfOk result P → IfOk result (λ (at : FoundAt). at.row ≡ None → P at)
shown-of-entry P (Ok at) shows = λ none. shows
shown-of-entry P (Err stop) shows = tt

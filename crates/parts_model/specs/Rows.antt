-- What a read through an open of a join file finds among its rows, and what a row shows. (Database Programming, "Reading database records"; DDS for
-- Physical and Logical Files, join logical files.)
use Rattle.std.specs.Prelude.{◌≡◌, ℕ, ◌≤◌, ◌<◌, Option, Some, None, Ok, List, [], ◌∷◌, length}
use Rattle.std.specs.List.{AllByRecursion, find}
use Rattle.std.specs.Ordering.{is_eq}
use Rattle.library_steps.below.dds_logical.specs.declared.join_views.JoinView.{JoinView}
use Rattle.library_steps.below.dds_logical.specs.declared.views.LogicalSpec.TheVariants.{Join}
use Rattle.file_model.specs.declared.joins.JoinSpec.{JoinSpec}
use Rattle.file_model.specs.declared.joins.Secondary.{Secondary}
use Rattle.file_model.specs.FilePaths.{key_parts}
use Rattle.file_model.specs.Joins.{JoinRow, RowPlace, compare_places, rows_of}
use Rattle.job_table.specs.Kept.{IsKeyOf}
use Rattle.job_table.specs.RowReads.{AreNumbers, asked_of, matches_by}
use Rattle.join_records.specs.Shown.{IsShownBy}
use Rattle.join_records.specs.Numbers.{image_at, matched_number}
use Rattle.access_path.specs.KeyFields.{key_width}
use Rattle.job_table.specs.Opens.{KeptOpen}
use Rattle.key_spec.specs.declared.KeyPart.{KeyPart}
use Rattle.library_model.specs.Named.{Named, named}
use Rattle.library_steps.specs.LogicalFiles.{bases_in, bases_of}
use Rattle.library_steps.specs.Refusals.{OpenedFile, opened_file}
use Rattle.library_steps.specs.State.{FileState, Memory, OpenState, memory_of}
use Rattle.library_paths.specs.Mapped.{HoldDefaults}
use Rattle.library_steps.specs.Bases.{Bases, LogicalFile}
use Rattle.library_steps.specs.FilePaths.{join_of}
use Rattle.library_steps.specs.Readings.{rows_reading}
use Rattle.member_slots.specs.Members.{NumberedMembers, member_of}
use Rattle.open_position.specs.OpenStand.{entry_by}
use Rattle.open_position.specs.declared.reads.ReadBy.{ReadBy}
use Rattle.parts_model.specs.declared.rows.RowFound.{RowFound}
use Rattle.path_set.specs.KeptPaths.{NumberedPaths}
use Rattle.parts_model.specs.Indexed.{ReadsBy, ReadsRowsBy, path_read}
use Rattle.parts_model.specs.Parts.{LibraryParts}

-- the default values of the secondary files may stand in their fields
abbrev pub HoldDefaultsOf : Bases → JoinView → Type 0
HoldDefaultsOf bases view = AllByRecursion (λ joined. HoldDefaults (bases joined.file).fields) view.secondaries

-- the open reads the rows of this join, which is that of its file
pub record ReadsRows (files : Named FileState) (kept : NumberedPaths) (opened : KeptOpen) (view : JoinView) (spec : JoinSpec) : Type 0 where
  pub file : FileState
  pub there : named opened.state.file files ≡ Some file
  pub join : file.spec ≡ LogicalFile (Join view)
  pub by : ReadsBy kept (path_read (bases_in files) file opened.state) opened.order
  pub rows : ReadsRowsBy (bases_in files) kept file.spec opened.order.join
  pub defaults : HoldDefaultsOf (bases_in files) view
  pub is : spec ≡ join_of (bases_in files) view

-- ---- what is found

-- the records of the secondary files with these numbers, or their default values
abbrev pub images_matched : NumberedMembers → List Secondary → List (Option ℕ) → List (List ℕ)
images_matched members [] numbers = []
images_matched members (file ∷ files) [] = []
images_matched members (file ∷ files) (n ∷ numbers) = (matched_number file members n).image ∷ images_matched members files numbers

-- the records of a row that was found, the primary's first
abbrev pub images_found : NumberedMembers → (primary : ℕ) → RowFound → List (List ℕ)
images_found members primary found = image_at (member_of primary members) found.primary.rrn ∷ images_matched members found.spec.secondaries found.numbers.items

-- the place of a row that was found
abbrev pub place_found : List KeyPart → NumberedMembers → RowFound → RowPlace
place_found parts members found = record { primary = entry_by parts found.primary; matches = matches_by members found.spec.secondaries found.numbers.items }

-- an open can stand on it
pub record CanBeStoodOn (parts : List KeyPart) (members : NumberedMembers) (found : RowFound) : Type 0 where
  pub first : found.primary.format ≡ 0
  pub some : 1 ≤ found.primary.rrn
  pub most : found.primary.rrn < 4294967295
  pub key : IsKeyOf parts found.primary.key
  pub short : length found.primary.key ≤ key_width parts
  pub numbers : AreNumbers members found.spec.secondaries found.numbers.items

-- the place that a read finds from where the open stands
abbrev pub row_found_by : ReadBy → JoinView → OpenState → Memory → Option RowPlace
row_found_by by view opened m = asked_of by (key_parts 0 view.keys.parts) (rows_reading (bases_of m) view m.members) opened.rows

-- it is the join's row at this place, of whose records the join shows values
pub record IsRowAt (view : JoinView) (m : Memory) (place : RowPlace) (found : RowFound) : Type 0 where
  pub spec : found.spec ≡ join_of (bases_of m) view
  pub told : place_found (key_parts 0 view.keys.parts) m.members found ≡ place
  pub stood : CanBeStoodOn (key_parts 0 view.keys.parts) m.members found
  pub row : (row : JoinRow) × (find (λ other. is_eq (compare_places view.keys.ties other.place place)) (rows_of (join_of (bases_of m) view) m.members) ≡ Some row)
      × (row.images ≡ images_found m.members (bases_of m view.primary).member found)
  pub shows : IsShownBy view (images_found m.members (bases_of m view.primary).member found)

abbrev pub FindsRow : JoinView → Memory → Option RowFound → Option RowPlace → Type 0
FindsRow view m None wanted = wanted ≡ None
FindsRow view m (Some found) wanted = (place : RowPlace) × (wanted ≡ Some place) × IsRowAt view m place found

-- the job's open of this name, of this join, has found it
pub record CanNoteRow (parts : LibraryParts) (job : ℕ) (name : List ℕ) (found : RowFound) : Type 0 where
  pub its : OpenedFile
  pub opened : opened_file name job (memory_of parts.state) ≡ Ok its
  pub view : JoinView
  pub join : its.file.spec ≡ LogicalFile (Join view)
  pub place : RowPlace
  pub row : IsRowAt view (memory_of parts.state) place found

-- Through which formats of files records are written, and of which fields these are: the file's own, or those of the physical file that the format is
-- over. (DDS for Physical and Logical Files, "PFILE".)
use Rattle.std.specs.Prelude.{ℕ, IsSome, List, [], ◌≡◌, Option, Some, None, slice_get}
use Rattle.record_fmt.specs.declared.formats.Field.{Field}
use Rattle.dds_logical.specs.declared.views.View.{View}
use Rattle.dds_logical.specs.declared.views.LogicalSpec.TheVariants.{Simple, Multi, Join}
use Rattle.logical_model.specs.Bases.{Bases, FileSpec, PhysicalFile, LogicalFile, base_names}
use Rattle.library_model.specs.Named.{Named}
use Rattle.library_steps.specs.State.{FileState, physical_among}
use Rattle.library_steps.specs.LogicalFiles.{bases_in}
use Rattle.view_records.specs.Through.{IsFormatOf, IsWrittenThrough}

-- the fields of a format's base file
abbrev pub fields_of_view : Bases → Option View → List Field
fields_of_view bases None = []
fields_of_view bases (Some view) = (bases view.base).fields

-- those of a base file of a join
abbrev pub fields_at : Bases → Option (List ℕ) → List Field
fields_at bases None = []
fields_at bases (Some name) = (bases name).fields

-- the fields of the records that are written through the format of this number
abbrev pub fields_under : Bases → FileSpec → (number : ℕ) → List Field
fields_under bases (PhysicalFile spec) number = spec.format.fields
fields_under bases (LogicalFile (Simple view)) number = (bases view.base).fields
fields_under bases (LogicalFile (Multi views)) number = fields_of_view bases (slice_get views number)
fields_under bases (LogicalFile (Join view)) number = fields_at bases (slice_get (base_names (Join view)) number)

-- the physical file that the format is over is there, and values that are given through the format make records of it
pub record IsWritable (files : Named FileState) (view : View) : Type 0 where
  pub there : IsSome (physical_among view.base files)
  pub written : IsWrittenThrough (bases_in files view.base).fields view
  pub format : IsFormatOf view

-- values that are given through the format of this number make records; through a join none can be given
abbrev pub IsWrittenIn : Named FileState → FileSpec → (number : ℕ) → Type 0
IsWrittenIn files (PhysicalFile spec) number = Unit {0}
IsWrittenIn files (LogicalFile (Simple view)) number = IsWritable files view
IsWrittenIn files (LogicalFile (Multi views)) number = (view : View) × (slice_get views number ≡ Some view) × IsWritable files view
IsWrittenIn files (LogicalFile (Join view)) number = Unit {0}

-- Of which images does a format of a file show the values? (DDS for Physical and Logical Files, "PFILE". That a record has a value in each of its fields
-- is our own.)
use Rattle.std.specs.Prelude.{ℕ, List, ◌≡◌, Some, slice_get}
use Rattle.dds_logical.specs.declared.views.View.{View}
use Rattle.record_fmt.specs.declared.formats.Format.{Format}
use Rattle.physical_paths.specs.KeyedFiles.{IsRecord}
use Rattle.dds_logical.specs.declared.views.LogicalSpec.TheVariants.{Simple, Multi, Join}
use Rattle.logical_model.specs.Bases.{FileSpec, PhysicalFile, LogicalFile}
use Rattle.logical_model.specs.Formats.{Shown, values_shown}
use Rattle.view_records.specs.Through.{IsFormatOf, IsReadThrough}

-- the image is a record of the physical file, or of the base file of the format of this number of a logical one, which is that of what it shows
abbrev pub ShowsImage : FileSpec → (number : ℕ) → (image : List ℕ) → Type 0
ShowsImage (PhysicalFile spec) number image = IsRecord spec.format.fields image
ShowsImage (LogicalFile (Simple view)) number image = IsReadThrough view image × IsFormatOf view
ShowsImage (LogicalFile (Multi views)) number image = (view : View) × (slice_get views number ≡ Some view) × IsReadThrough view image × IsFormatOf view
ShowsImage (LogicalFile (Join view)) number image = ⊥

-- what a format shows of a record of its own
abbrev pub shown_as_held : Format → (image : List ℕ) → Shown
shown_as_held format image = record { format = format.name; values = values_shown format.fields image }

-- In which order are the records of a file read? (Database Programming, "Processing a database file": keyed and arrival sequence.)
use Rattle.std.specs.Prelude.{ℕ, Bool, true, false, Option, Some, None, [], ◌∷◌}
use Rattle.dds_logical.below.dds_physical.specs.declared.physical_files.PhysicalSpec.{PhysicalSpec}
use Rattle.dds_logical.specs.declared.views.LogicalSpec.{LogicalSpec}
use Rattle.dds_logical.specs.declared.views.LogicalSpec.TheVariants.{Simple, Multi, Join}
use Rattle.dds_logical.specs.declared.join_views.JoinView.{JoinView}
use Rattle.dds_logical.below.file_model.specs.declared.paths.PathSpec.{PathSpec}
use Rattle.dds_logical.specs.FilePaths.{physical_path}
use Rattle.dds_logical.specs.Joins.{RowPlace, rows_of}
use Rattle.dds_logical.specs.Paths.{PathEntry, path}
use Rattle.dds_logical.specs.Positions.{Reading, path_reading, arrival_reading, join_reading}
use Rattle.member_slots.specs.Members.{NumberedMembers, member_of}
use Rattle.logical_model.specs.Bases.{Bases, FileSpec, PhysicalFile, LogicalFile}
use Rattle.logical_model.specs.FilePaths.{views_path, primary_path, join_of}

-- a member of a physical file is read by the file's key, or in arrival order
abbrev pub physical_reading : (keyed : Bool) → PhysicalSpec → (member : ℕ) → NumberedMembers → Reading PathEntry
physical_reading true spec member members = path_reading spec.keys.ties (path (physical_path member spec.format.fields spec.keys) members)
physical_reading false spec member members = arrival_reading (member_of member members)

abbrev pub by_path : PathSpec → NumberedMembers → Reading PathEntry
by_path spec members = path_reading spec.ties (path spec members)

-- a logical file is read by its path, which is by the relative record number where there is no key; of a join the primary's
abbrev pub logical_reading : Bases → LogicalSpec → NumberedMembers → Reading PathEntry
logical_reading bases (Simple view) members = by_path (views_path bases view.keys.unique (view ∷ [])) members
logical_reading bases (Multi views) members = by_path (views_path bases false views) members
logical_reading bases (Join view) members = by_path (primary_path bases view) members

abbrev pub reading_in : Bases → FileSpec → (keyed : Bool) → (member : ℕ) → NumberedMembers → Reading PathEntry
reading_in bases (PhysicalFile spec) keyed member members = physical_reading keyed spec member members
reading_in bases (LogicalFile spec) keyed member members = logical_reading bases spec members

-- a join file is read by its rows
abbrev pub join_in : FileSpec → Option JoinView
join_in (PhysicalFile spec) = None
join_in (LogicalFile (Simple view)) = None
join_in (LogicalFile (Multi views)) = None
join_in (LogicalFile (Join view)) = Some view

abbrev pub rows_reading : Bases → JoinView → NumberedMembers → Reading RowPlace
rows_reading bases view members = join_reading (primary_path bases view).ties (rows_of (join_of bases view) members)

-- whether a relative record number says which record is meant: not in a file of several formats, nor in a join
abbrev pub has_numbers : FileSpec → Bool
has_numbers (PhysicalFile spec) = true
has_numbers (LogicalFile (Simple view)) = true
has_numbers (LogicalFile (Multi views)) = false
has_numbers (LogicalFile (Join view)) = false

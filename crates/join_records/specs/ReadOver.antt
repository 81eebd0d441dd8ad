-- Over which members and paths can the rows of a join be read? (Our own.)
use Rattle.std.specs.Prelude.{List, [], ◌∷◌, map}
use Rattle.std.specs.List.{AllByRecursion}
use Rattle.access_path.specs.KeyFields.{AreBytes}
use Rattle.key_pages.specs.EntryList.{EntryList}
use Rattle.member_slots.specs.Members.{NumberedMembers}
use Rattle.dds_logical.specs.declared.join_views.JoinedFile.{JoinedFile}
use Rattle.dds_logical.specs.declared.join_views.JoinView.{JoinView}
use Rattle.dds_logical.specs.declared.views.LogicalSpec.TheVariants.{Join}
use Rattle.file_model.specs.declared.joins.Secondary.{Secondary}
use Rattle.file_model.specs.Joins.{secondary_path}
use Rattle.file_model.specs.Views.{default_image}
use Rattle.logical_paths.specs.Mapped.{HoldDefaults}
use Rattle.logical_model.specs.Bases.{Bases}
use Rattle.logical_model.specs.FilePaths.{primary_path, secondary_of}
use Rattle.logical_paths.specs.KeyedViews.{HaveRecords, IsKeyedJoin}
use Rattle.join_rows.specs.Places.{IsPathOf}
use Rattle.join_records.specs.Linked.{IsLinkedJoin}

-- the pages hold the paths over the secondary files
abbrev pub ArePathsOf : NumberedMembers → List Secondary → List EntryList → Type 0
ArePathsOf members [] lists = Unit {0}
ArePathsOf members (file ∷ files) [] = ⊥
ArePathsOf members (file ∷ files) (list ∷ lists) = IsPathOf list (secondary_path file) members × ArePathsOf members files lists

-- the record of default values is one of its file
pub record HasDefaults (bases : Bases) (joined : JoinedFile) : Type 0 where
  pub fit : HoldDefaults (bases joined.file).fields
  pub bytes : AreBytes (default_image (bases joined.file).fields)

-- the members have records of the files, and the pages their paths
pub record IsReadOver (bases : Bases) (view : JoinView) (members : NumberedMembers) (primary : EntryList) (secondaries : List EntryList) : Type 0 where
  pub keyed : IsKeyedJoin bases view
  pub linked : IsLinkedJoin bases view
  pub records : HaveRecords bases (Join view) members
  pub defaults : AllByRecursion (HasDefaults bases) view.secondaries
  pub path : IsPathOf primary (primary_path bases view) members
  pub paths : ArePathsOf members (map (secondary_of bases) view.secondaries) secondaries

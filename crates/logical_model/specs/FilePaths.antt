-- Which access paths does a logical file keep? (Database Programming, "Describing access paths for database files".)
use Rattle.std.specs.Prelude.{ℕ, ◌==◌, Bool, false, List, [], ◌∷◌, map}
use Rattle.std.specs.List.{list_any}
use Rattle.key_spec.specs.declared.Ties.{Ties}
use Rattle.key_spec.specs.declared.Ties.TheVariants.{Rising}
use Rattle.dds_logical.specs.declared.views.View.{View}
use Rattle.dds_logical.specs.declared.views.LogicalSpec.{LogicalSpec}
use Rattle.dds_logical.specs.declared.views.LogicalSpec.TheVariants.{Simple, Multi, Join}
use Rattle.dds_logical.specs.declared.join_views.JoinView.{JoinView}
use Rattle.dds_logical.specs.declared.join_views.JoinedFile.{JoinedFile}
use Rattle.dds_logical.below.file_model.specs.declared.joins.JoinSpec.{JoinSpec}
use Rattle.dds_logical.below.file_model.specs.declared.joins.Secondary.{Secondary}
use Rattle.dds_logical.below.file_model.specs.declared.paths.PathFormat.{PathFormat}
use Rattle.dds_logical.below.file_model.specs.declared.paths.PathSpec.{PathSpec}
use Rattle.dds_logical.specs.FilePaths.{path_format, every_record}
use Rattle.dds_logical.specs.Joins.{paths_of_join}
use Rattle.dds_logical.specs.Views.{default_image}
use Rattle.logical_model.specs.Bases.{Bases}

-- a format in its file's path
abbrev pub view_format : Bases → View → PathFormat
view_format bases view = path_format (bases view.base).member view.rules (map (λ f. f.field) view.mapping) view.keys.parts

-- all formats of a file have its ties
abbrev pub ties_of_views : List View → Ties
ties_of_views [] = Rising
ties_of_views (view ∷ views) = view.keys.ties

-- the formats of a file merged by their keys
abbrev pub views_path : Bases → (unique : Bool) → List View → PathSpec
views_path bases unique views = record { formats = map (view_format bases) views; unique = unique; ties = ties_of_views views }

-- a secondary file; its default record stands where none is joined
abbrev pub secondary_of : Bases → JoinedFile → Secondary
secondary_of bases joined = record {
  member = (bases joined.file).member;
  from = joined.from;
  pairs = joined.pairs;
  sequence = joined.sequence;
  default = default_image (bases joined.file).fields;
}

-- the primary's path is by the key fields of the join, which are fields of the primary file
abbrev pub primary_path : Bases → JoinView → PathSpec
primary_path bases view = record {
  formats = path_format (bases view.primary).member every_record (map (λ f. f.field.field) view.fields) view.keys.parts ∷ [];
  unique = view.keys.unique;
  ties = view.keys.ties;
}

abbrev pub join_of : Bases → JoinView → JoinSpec
join_of bases view = record {
  primary = primary_path bases view;
  secondaries = map (secondary_of bases) view.secondaries;
  keeps_missing = view.keeps_missing;
  fields = map (λ f. f.field) view.fields;
}

-- the file's own path comes first; UNIQUE doesn't stand in a file of several formats
abbrev pub logical_paths : Bases → LogicalSpec → List PathSpec
logical_paths bases (Simple view) = views_path bases view.keys.unique (view ∷ []) ∷ []
logical_paths bases (Multi views) = views_path bases false views ∷ []
logical_paths bases (Join view) = paths_of_join (join_of bases view)

-- the path has a format over the member
abbrev pub is_over : ℕ → PathSpec → Bool
is_over member path = list_any (λ format. format.member == member) path.formats

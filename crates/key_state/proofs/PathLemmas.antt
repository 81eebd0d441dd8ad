-- The access path of a logical file that may have no equal keys is the file's own, and has one format.
use Rattle.std.proofs.Common.{◌≡◌, inl, inr, ◌∙◌, true, [], ◌∷◌, map, refl, sym, ap}
use Rattle.std.proofs.lemmas.Bool.{true≢false}
use Rattle.dds_logical.specs.declared.views.LogicalSpec.{LogicalSpec}
use Rattle.dds_logical.specs.declared.views.LogicalSpec.TheVariants.{Simple, Multi, Join}
use Rattle.file_model.specs.declared.paths.PathFormat.{PathFormat}
use Rattle.file_model.specs.declared.paths.PathSpec.{PathSpec}
use Rattle.file_model.specs.FilePaths.{every_record, path_format}
use Rattle.file_model.specs.Joins.{secondary_path}
use Rattle.file_model.specs.Paths.{repeated_in}
use Rattle.logical_model.specs.Bases.{Bases, base_members}
use Rattle.logical_model.specs.FilePaths.{logical_paths, secondary_of, view_format}
use Rattle.library_steps.specs.State.{Memory}
use Rattle.library_steps.specs.CreateLogicalFile.{first_repeated as own_repeated}
use Rattle.key_state.proofs.ListLemmas.{IsIn, in-map}

-- it is the file's own, and has one format, over one of the base members
pub record IsOwnPath (bases : Bases) (spec : LogicalSpec) (path : PathSpec) : Type 0 where
  pub format : PathFormat
  pub alone : path.formats ≡ format ∷ []
  pub over : IsIn format.member (base_members bases spec)
  pub repeated : (m : Memory) → own_repeated (logical_paths bases spec) m ≡ repeated_in path m.members

pub unique-own : (bases : Bases) (spec : LogicalSpec) (path : PathSpec) → IsIn path (logical_paths bases spec) → path.unique ≡ true → IsOwnPath bases spec path
unique-own bases (Simple view) path (inl same) unique = record {
  format = view_format bases view;
  alone = ap (λ (p : PathSpec). p.formats) (sym same);
  over = inl refl;
  repeated = λ m. ap (λ (p : PathSpec). repeated_in p m.members) same;
}
unique-own bases (Simple view) path (inr none) unique = absurd none
unique-own bases (Multi views) path (inl same) unique = absurd (true≢false (sym unique ∙ ap (λ (p : PathSpec). p.unique) (sym same)))
unique-own bases (Multi views) path (inr none) unique = absurd none
unique-own bases (Join view) path (inl same) unique = record {
  format = path_format (bases view.primary).member every_record (map (λ f. f.field.field) view.fields) view.keys.parts;
  alone = ap (λ (p : PathSpec). p.formats) (sym same);
  over = inl refl;
  repeated = λ m. ap (λ (p : PathSpec). repeated_in p m.members) same;
}
unique-own bases (Join view) path (inr later) unique =
    let its = in-map secondary_path path (map (secondary_of bases) view.secondaries) later in
    absurd (true≢false (sym unique ∙ ap (λ (p : PathSpec). p.unique) (sym its.is)))

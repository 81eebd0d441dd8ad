-- Paths and members of a logical file are told by its own base files.
use Rattle.std.proofs.Common.{◌≡◌, ℕ, refl, subst, List, [], ◌∷◌, map}
use Rattle.std.specs.List.{AllByRecursion}
use Rattle.logical_model.below.dds_logical.specs.declared.views.View.{View}
use Rattle.logical_model.below.dds_logical.specs.declared.views.LogicalSpec.{LogicalSpec}
use Rattle.logical_model.below.dds_logical.specs.declared.views.LogicalSpec.TheVariants.{Simple, Multi, Join}
use Rattle.logical_model.below.dds_logical.specs.declared.join_views.JoinedFile.{JoinedFile}
use Rattle.file_model.specs.Joins.{secondary_path}
use Rattle.logical_model.specs.Bases.{Base, Bases, base_names, base_members}
use Rattle.logical_model.specs.FilePaths.{view_format, secondary_of, logical_paths}
use Rattle.logical_laws.specs.Mapped.{IsFieldMapped, IsViewMapped, IsSpecMapped, AreSameBases}

formats-same : (bases other : Bases) (views : List View) → AllByRecursion (λ name. bases name ≡ other name) (map (λ view. view.base) views)
    → map (view_format bases) views ≡ map (view_format other) views
formats-same bases other [] same = refl
formats-same bases other (view ∷ views) same = rw (same.0, formats-same bases other views same.1) refl

secondaries-same : (bases other : Bases) (files : List JoinedFile) → AllByRecursion (λ name. bases name ≡ other name) (map (λ joined. joined.file) files)
    → map secondary_path (map (secondary_of bases) files) ≡ map secondary_path (map (secondary_of other) files)
secondaries-same bases other [] same = refl
secondaries-same bases other (file ∷ files) same = rw (same.0, secondaries-same bases other files same.1) refl

pub same-paths : (bases other : Bases) (spec : LogicalSpec) → AreSameBases bases other spec → logical_paths bases spec ≡ logical_paths other spec
same-paths bases other (Simple view) same = rw same.0 refl
same-paths bases other (Multi views) same = rw (formats-same bases other views same) refl
same-paths bases other (Join view) same = rw (same.0, secondaries-same bases other view.secondaries same.1) refl

members-same : (bases other : Bases) (names : List (List ℕ)) → AllByRecursion (λ name. bases name ≡ other name) names
    → map (λ name. (bases name).member) names ≡ map (λ name. (other name).member) names
members-same bases other [] same = refl
members-same bases other (name ∷ names) same = rw (same.0, members-same bases other names same.1) refl

pub same-members : (bases other : Bases) (spec : LogicalSpec) → AreSameBases bases other spec → base_members bases spec ≡ base_members other spec
same-members bases other spec same = members-same bases other (base_names spec) same

view-same : (bases other : Bases) (view : View) → bases view.base ≡ other view.base → IsViewMapped bases view → IsViewMapped other view
view-same bases other view same mapped = subst (λ (base : Base). AllByRecursion (IsFieldMapped base.fields) view.mapping) same mapped

views-same : (bases other : Bases) (views : List View) → AllByRecursion (λ name. bases name ≡ other name) (map (λ view. view.base) views)
    → AllByRecursion (IsViewMapped bases) views → AllByRecursion (IsViewMapped other) views
views-same bases other [] same mapped = tt
views-same bases other (view ∷ views) same mapped = (view-same bases other view same.0 mapped.0, views-same bases other views same.1 mapped.1)

pub same-mapped : (bases other : Bases) (spec : LogicalSpec) → AreSameBases bases other spec → IsSpecMapped bases spec → IsSpecMapped other spec
same-mapped bases other (Simple view) same mapped = view-same bases other view same.0 mapped
same-mapped bases other (Multi views) same mapped = views-same bases other views same mapped
same-mapped bases other (Join view) same mapped = tt

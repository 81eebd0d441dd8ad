-- What a join is made of is told by its own base files alone.
use Rattle.std.proofs.Common.{◌≡◌, ℕ, refl, subst, List, [], ◌∷◌, map}
use Rattle.std.specs.List.{AllByRecursion}
use Rattle.record_fmt.specs.declared.formats.Field.{Field}
use Rattle.dds_logical.specs.declared.join_views.JoinedFile.{JoinedFile}
use Rattle.dds_logical.specs.declared.join_views.JoinView.{JoinView}
use Rattle.dds_logical.specs.declared.views.LogicalSpec.{LogicalSpec}
use Rattle.dds_logical.specs.declared.views.LogicalSpec.TheVariants.{Simple, Multi, Join}
use Rattle.logical_model.specs.Bases.{Bases, base_names}
use Rattle.logical_model.specs.FilePaths.{join_of, secondary_of}
use Rattle.logical_paths.specs.Mapped.{AreSameBases}
use Rattle.join_records.specs.Linked.{AreLinked, IsLinkedLogical, IsShownFrom, fields_under}

secondaries-same : (bases other : Bases) (files : List JoinedFile) → AllByRecursion (λ name. bases name ≡ other name) (map (λ joined. joined.file) files)
    → map (secondary_of bases) files ≡ map (secondary_of other) files
secondaries-same bases other [] same = refl
secondaries-same bases other (file ∷ files) same = rw (same.0, secondaries-same bases other files same.1) refl

pub same-join : (bases other : Bases) (view : JoinView) → AreSameBases bases other (Join view) → join_of bases view ≡ join_of other view
same-join bases other view same = rw (same.0, secondaries-same bases other view.secondaries same.1) refl

under-same : (bases other : Bases) (names : List (List ℕ)) → AllByRecursion (λ name. bases name ≡ other name) names
    → map (λ (name : List ℕ). (bases name).fields) names ≡ map (λ (name : List ℕ). (other name).fields) names
under-same bases other [] same = refl
under-same bases other (name ∷ names) same = rw (same.0, under-same bases other names same.1) refl

pub same-linked : (bases other : Bases) (spec : LogicalSpec) → AreSameBases bases other spec → IsLinkedLogical bases spec → IsLinkedLogical other spec
same-linked bases other (Simple view) same linked = tt
same-linked bases other (Multi views) same linked = tt
same-linked bases other (Join view) same linked =
    let under : fields_under bases view ≡ fields_under other view = under-same bases other (base_names (Join view)) same in
    record {
      linked = subst (λ (all : List (List Field)). AreLinked all 1 view.secondaries) under linked.linked;
      shown = subst (λ (all : List (List Field)). AllByRecursion (IsShownFrom all) view.fields) under linked.shown;
      format = linked.format;
    }

-- A logical file that a source describes has a format.
use Rattle.std.proofs.Common.{◌≡◌, ℕ, Bool, true, false, if◌then◌else◌, Option, Some, None, IsSome, slice_get, Ok, List, [], ◌∷◌, ◌++◌, map, refl, subst}
use Rattle.dds_physical.specs.Faults.{first_after}
use Rattle.dds_physical.below.dds_source.specs.declared.faults.DdsFault.{DdsFault}
use Rattle.dds_physical.below.dds_source.specs.declared.specifications.Source.{Source}
use Rattle.dds_physical.specs.declared.physical_files.PhysicalSpec.{PhysicalSpec}
use Rattle.dds_physical.proofs.FaultLemmas.{nothing_noted}
use Rattle.logical_model.below.dds_logical.specs.declared.views.View.{View}
use Rattle.logical_model.below.dds_logical.specs.declared.views.LogicalSpec.{LogicalSpec}
use Rattle.logical_model.specs.FormatLines.{FormatLines, formats_in, is_join_file, is_multi_format}
use Rattle.logical_model.specs.Logical.{described_by, join_described_by, logical_faults, logical_of, logical_specification, most_parts, one_or_several, unless_fault, view_described}
use Rattle.logical_model.specs.WholeFile.{format_missing_faults}
use Rattle.logical_model.specs.Bases.{base_names}

none-right : {X : Type 0} (xs ys : List X) → xs ++ ys ≡ [] → ys ≡ []
none-right [] ys none = none
none-right (x ∷ xs) ys none = absurd cc

abbrev HasFormat : LogicalSpec → Type 0
HasFormat spec = IsSome (slice_get (base_names spec) 0)

several-some : (v : View) (vs : List View) → HasFormat (one_or_several (v ∷ vs))
several-some v [] = refl
several-some v (w ∷ vs) = refl

formats-some : (bases : List ℕ → Option PhysicalSpec) (source : Source) (is_join : Bool) (fs : List FormatLines) → format_missing_faults source.last_line is_join fs ≡ []
    → HasFormat (described_by bases source fs)
formats-some bases source is_join [] none = absurd cc
formats-some bases source is_join (f ∷ fs) none =
    elim (is_join_file (f ∷ fs)) as (λ b. HasFormat (if b then join_described_by bases source.file (f ∷ fs)
    else one_or_several (map (view_described bases source.file (is_multi_format (f ∷ fs)) (most_parts (f ∷ fs))) (f ∷ fs)))) [
      | true ↦ refl
      | false ↦ several-some (view_described bases source.file (is_multi_format (f ∷ fs)) (most_parts (f ∷ fs)) f) (map (view_described bases source.file (is_multi_format (f ∷ fs)) (most_parts (f ∷ fs))) fs)
    ]

spec-some : (bases : List ℕ → Option PhysicalSpec) (source : Source) → logical_faults bases source ≡ [] → HasFormat (logical_specification bases source)
unfolding logical_faults logical_specification
spec-some bases source none =
    let fs = formats_in source.specifications in
    formats-some bases source (is_join_file fs) fs (none-right _ (format_missing_faults source.last_line (is_join_file fs) fs) none)

no-fault : (spec wanted : LogicalSpec) (fault : Option DdsFault) → unless_fault spec fault ≡ Ok wanted → (fault ≡ None) × (spec ≡ wanted)
no-fault spec wanted None h = (refl, let e : spec ≡ wanted = cc in e)
no-fault spec wanted (Some fault) h = absurd cc

pub logical-some : (bases : List ℕ → Option PhysicalSpec) (source : Source) (spec : LogicalSpec) → logical_of bases source ≡ Ok spec → IsSome (slice_get (base_names spec) 0)
unfolding logical_of
logical-some bases source spec h =
    let good = no-fault (logical_specification bases source) spec (first_after None (logical_faults bases source)) h in
    subst HasFormat good.1 (spec-some bases source (nothing_noted None (logical_faults bases source) good.0))

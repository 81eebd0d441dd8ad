-- What a logical file stores still lies in whole fields of its base files, where these stay.
use Rattle.std.proofs.Common.{◌≡◌, ℕ, IsSome, Some, List, refl, sym, subst}
use Rattle.std.specs.List.{AllByRecursion}
use Rattle.library_steps.below.dds_logical.specs.declared.views.LogicalSpec.{LogicalSpec}
use Rattle.library_steps.specs.Bases.{FileSpec, PhysicalFile, LogicalFile, base_names}
use Rattle.joint_state.proofs.SameLemmas.{same-mapped}
use Rattle.library_model.specs.Named.{Named, named}
use Rattle.library_steps.specs.DeleteFile.{without_file}
use Rattle.library_steps.specs.LogicalFiles.{bases_in}
use Rattle.library_steps.specs.State.{FileState, physical_among}
use Rattle.lawful_states.specs.Lawful.{AreBased, IsBased, StandsOver}
use Rattle.lawful_states.proofs.BaseLemmas.{IsKept, Stays, bases-stay}
use Rattle.lawful_states.proofs.DeleteLemmas.{AreFree, IsFree, bases-without}
use Rattle.joint_state.specs.Views.{IsMapped, IsView}
use Rattle.library_kept.proofs.ListLemmas.{each-weaker}

pub view-stays : (files others : Named FileState) (spec : LogicalSpec) → AllByRecursion (Stays files others) (base_names spec) → IsView (bases_in files) spec → IsView (bases_in others) spec
view-stays files others spec stay view = record {
  some = view.some;
  mapped = same-mapped (bases_in files) (bases_in others) spec
      (each-weaker (Stays files others) (λ (name : List ℕ). bases_in files name ≡ bases_in others name) (base_names spec) (λ name one. sym one.same) stay) view.mapped;
}

-- the files that a logical file stands over
pub bases-there : (files : Named FileState) (name : List ℕ) (file : FileState) (spec : LogicalSpec) → AreBased files → named name files ≡ Some file → file.spec ≡ LogicalFile spec
    → AllByRecursion (λ base. IsSome (physical_among base files)) (base_names spec)
bases-there files name file spec based there is =
    let stands : StandsOver files file.members spec = subst (IsBased files name file.members) is (based name file there) in stands.bases

-- where each file is kept
module _ (files others : Named FileState) (based : AreBased files) (kept : (name : List ℕ) (file : FileState) → named name files ≡ Some file → IsKept others name file) where
  kind-kept : (name : List ℕ) (file : FileState) (spec : FileSpec) → named name files ≡ Some file → file.spec ≡ spec → IsMapped files spec → IsMapped others spec
  kind-kept name file (PhysicalFile spec) there is mapped = tt
  kind-kept name file (LogicalFile spec) there is view =
      view-stays files others spec (bases-stay files others based kept (base_names spec) (bases-there files name file spec based there is)) view

  pub mapped-kept : (name : List ℕ) (file : FileState) → named name files ≡ Some file → IsMapped files file.spec → IsMapped others file.spec
  mapped-kept name file there mapped = kind-kept name file file.spec there refl mapped

-- where one is gone that it doesn't stand over
module _ (files : Named FileState) (gone : List ℕ) (based : AreBased files) (free : AreFree gone files) where
  kind-without : (name : List ℕ) (file : FileState) (spec : FileSpec) → named name files ≡ Some file → file.spec ≡ spec → IsFree gone spec → IsMapped files spec → IsMapped (without_file gone files) spec
  kind-without name file (PhysicalFile spec) there is other mapped = tt
  kind-without name file (LogicalFile spec) there is other view =
      view-stays files (without_file gone files) spec (bases-without gone files (base_names spec) other (bases-there files name file spec based there is)) view

  pub mapped-without : (name : List ℕ) (file : FileState) → named name files ≡ Some file → IsMapped files file.spec → IsMapped (without_file gone files) file.spec
  mapped-without name file there mapped = kind-without name file file.spec there refl (free name file there) mapped

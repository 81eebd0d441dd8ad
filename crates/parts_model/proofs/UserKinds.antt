-- Who uses a file, by its kind.
use Rattle.std.proofs.Common.{◌≡◌, ℕ, Some, None, List, refl, subst}
use Rattle.library_steps.below.dds_logical.specs.declared.views.LogicalSpec.{LogicalSpec}
use Rattle.library_steps.specs.Bases.{FileSpec, PhysicalFile, LogicalFile, base_members}
use Rattle.file_catalogue.specs.Bodies.{logical_in}
use Rattle.library_steps.specs.DeleteFile.{user_by}
use Rattle.library_steps.specs.LogicalFiles.{bases_of}
use Rattle.library_steps.specs.State.{Memory, FileState}
use Rattle.library_steps.specs.Uses.{user_of_any, user_of_logical}

pub user-logical : (spec : FileSpec) (view : LogicalSpec) (name : List ℕ) (file : FileState) (m : Memory) → Some view ≡ logical_in spec
    → user_by spec name file m ≡ user_of_logical name (base_members (bases_of m) view) m
user-logical (PhysicalFile spec) view name file m is = absurd cc
user-logical (LogicalFile other) view name file m is =
    let same : other ≡ view = cc in
    subst (λ (v : LogicalSpec). user_by (LogicalFile other) name file m ≡ user_of_logical name (base_members (bases_of m) v) m) same refl

pub user-physical : (spec : FileSpec) (name : List ℕ) (file : FileState) (m : Memory) → None ≡ logical_in spec
    → user_by spec name file m ≡ user_of_any file.members m
user-physical (PhysicalFile spec) name file m is = refl
user-physical (LogicalFile view) name file m is = absurd cc

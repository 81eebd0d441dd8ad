-- Files that are physical ones. (DDS for Physical and Logical Files.)
use Rattle.std.specs.List.{AllByRecursion}
use Rattle.library_steps.specs.Bases.{FileSpec, PhysicalFile, LogicalFile}
use Rattle.library_steps.specs.Named.{Named}
use Rattle.library_steps.specs.State.{FileState}

abbrev pub IsPhysical : FileSpec → Type 0
IsPhysical (PhysicalFile spec) = Unit {0}
IsPhysical (LogicalFile spec) = ⊥

abbrev pub AllArePhysical : Named FileState → Type 0
AllArePhysical files = AllByRecursion (λ entry. IsPhysical entry.1.spec) files

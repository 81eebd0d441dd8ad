-- Which files have members: a physical file from its creation on, and a logical file none of its own. (Database Programming, "Physical file members".)
use Rattle.std.specs.Prelude.{◌≡◌, ◌≤◌, ℕ, Some, List, [], ◌∷◌, length}
use Rattle.std.specs.List.{AllByRecursion}
use Rattle.logical_model.below.dds_logical.specs.declared.views.LogicalSpec.{LogicalSpec}
use Rattle.logical_model.specs.Bases.{FileSpec, PhysicalFile, LogicalFile}
use Rattle.library_model.specs.Named.{Named, named}
use Rattle.lawful_states.below.library_steps.specs.declared.limits.TheConstants.{MOST_MEMBERS}
use Rattle.lawful_states.specs.State.{FileState, MemberStatus}

-- where there are members, there is memory for all that a file may have
abbrev pub HaveRoom : Named MemberStatus → (capacity : ℕ) → Type 0
HaveRoom [] capacity = Unit {0}
HaveRoom (entry ∷ members) capacity = MOST_MEMBERS ≤ capacity

abbrev pub HasOwnMembers : FileSpec → Named MemberStatus → Type 0
HasOwnMembers (PhysicalFile spec) members = 1 ≤ length members
HasOwnMembers (LogicalFile spec) members = members ≡ []

abbrev pub HaveOwnMembers : Named FileState → Type 0
HaveOwnMembers files = AllByRecursion (λ entry. HasOwnMembers entry.1.spec entry.1.members) files

-- no logical file that a name finds has members
abbrev pub LogicalHaveNone : Named FileState → Type 0
LogicalHaveNone files =
    (name : List ℕ) (file : FileState) (spec : LogicalSpec) → named name files ≡ Some file → file.spec ≡ LogicalFile spec → file.members ≡ []

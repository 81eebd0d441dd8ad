-- When can the changes that are left of a commit cycle be taken back, the last one first, with these moves in the kept paths? (Our own.)
use Rattle.std.specs.Prelude.{◌≡◌, ℕ, ◌+◌, List, length, map, filter}
use Rattle.std.specs.List.{AllByRecursion}
use Rattle.member_slots.specs.Members.{NumberedMembers}
use Rattle.file_model.specs.declared.paths.PathSpec.{PathSpec}
use Rattle.journal_model.specs.Rollback.{MemberChange}
use Rattle.path_set.specs.declared.moves.PathMove.{PathMove}
use Rattle.path_set.specs.KeptPaths.{KeptPaths}
use Rattle.path_set.specs.MemberSteps.{is_over}
use Rattle.job_table.specs.Opens.{OpenOrder}
use Rattle.library_model.specs.Named.{Named}
use Rattle.library_steps.specs.State.{FileState, JobState}
use Rattle.parts_model.specs.Indexed.{HaveSpares, moves_back, changes_over, IsIndexed}
use Rattle.lawful_states.specs.Lawful.{FitsPlace}
use Rattle.parts_model.specs.Standing.{StandAsMade}

-- so many of them are of members that the path is over
abbrev pub count_over : PathSpec → List MemberChange → ℕ
count_over spec undos = length (filter (λ undo. is_over undo.member spec) undos)

-- the changes that are left can be taken back with these moves; the jobs are those with the commit cycle ended
pub record IsTakingBack (files : Named FileState) (jobs : List JobState) (orders : List (Named OpenOrder)) (moves : List (List (List PathMove))) (members : NumberedMembers) (kept : KeptPaths)
    (left : List MemberChange) (steps : List (List PathMove)) : Type 0 where
  pub indexed : IsIndexed files members jobs orders moves kept
  pub same : steps ≡ map (moves_back kept.paths) left
  pub spares : HaveSpares (λ spec. count_over spec left + changes_over spec jobs) kept
  pub fit : AllByRecursion (FitsPlace members) left
  pub stand : StandAsMade left members

-- so they can in some library
pub record CanTakeBack (members : NumberedMembers) (kept : KeptPaths) (left : List MemberChange) (steps : List (List PathMove)) : Type 0 where
  pub files : Named FileState
  pub jobs : List JobState
  pub orders : List (Named OpenOrder)
  pub moves : List (List (List PathMove))
  pub is : IsTakingBack files jobs orders moves members kept left steps

-- and once they are taken back, the paths are those of whatever library it was
abbrev pub LeadsToIndexed : NumberedMembers → KeptPaths → List MemberChange → List (List PathMove) → (after : NumberedMembers) → (later : KeptPaths) → Type 0
LeadsToIndexed members kept left steps after later =
    (files : Named FileState) (jobs : List JobState) (orders : List (Named OpenOrder)) (moves : List (List (List PathMove))) → IsTakingBack files jobs orders moves members kept left steps
    → IsIndexed files after jobs orders moves later

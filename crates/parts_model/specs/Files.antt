-- What a file must be to be added to a library, new by its name, with one member of that name that has the next number; and where a member
-- may be added to a file. (CL reference, CRTPF and ADDPFM.)
use Rattle.std.specs.Prelude.{◌≡◌, ℕ, ◌<◌, ◌≤◌, Ok, None, IsSome, IfSome, length, List, [], ◌∷◌}
use Rattle.library_steps.specs.Bases.{base_members}
use Rattle.lawful_states.specs.Physical.{IsPhysical}
use Rattle.library_model.specs.declared.limits.TheConstants.{LAST_MEMBER}
use Rattle.library_model.specs.Named.{named}
use Rattle.library_model.specs.declared.requests.FileMember.{FileMember}
use Rattle.library_steps.specs.declared.limits.TheConstants.{MOST_MEMBERS}
use Rattle.library_steps.specs.State.{State, FileState, memory_of, physical_among}
use Rattle.library_steps.specs.CreatePhysicalFile.{new_status}
use Rattle.library_steps.specs.CreateLogicalFile.{NewLogical, logical_described}
use Rattle.library_steps.specs.LogicalFiles.{bases_of}
use Rattle.library_steps.specs.Uses.{changer_of_any}

pub record IsNewFile (s : State) (name : List ℕ) (file : FileState) : Type 0 where
  pub absent : named name s.files ≡ None
  pub number : s.next_member ≤ LAST_MEMBER
  pub first : file.members ≡ (name, new_status s.next_member) ∷ []
  pub physical : IsPhysical file.spec

-- a logical file, new by its name, is described over the physical files that are there; no open commit cycle has changed a record of its bases
pub record IsNewView (s : State) (name : List ℕ) (plan : NewLogical) : Type 0 where
  pub absent : named name s.files ≡ None
  pub described : logical_described (memory_of s) plan.source ≡ Ok plan.spec
  pub unchanged : changer_of_any (base_members (bases_of (memory_of s)) plan.spec) (memory_of s) ≡ None

pub record IsNewMember (s : State) (args : FileMember) : Type 0 where
  pub there : IsSome (physical_among args.file s.files)
  pub few : IfSome (physical_among args.file s.files) (λ file. length file.members < MOST_MEMBERS)
  pub number : s.next_member ≤ LAST_MEMBER

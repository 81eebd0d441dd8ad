-- A file has a member, which is there with records of the file's fields. (Database Programming, "Physical file members".)
use Rattle.std.specs.Prelude.{ℕ, List}
use Rattle.lawful_states.specs.Owners.{Owns}
use Rattle.member_slots.specs.Members.{member_at}
use Rattle.library_steps.specs.State.{State, FileState, fields_of}
use Rattle.lawful_states.specs.Lawful.{IsThere}

-- the file of this name has the member with this number, which is there with records of the file's fields
pub record HasMember (s : State) (name : List ℕ) (file : FileState) (number : ℕ) : Type 0 where
  pub owns : Owns s.files name file number
  pub there : IsThere (fields_of file) (member_at number s.members)

-- Which file a member belongs to; no two members of a library have one number. (Database Programming, "Physical file members".)
use Rattle.std.specs.Prelude.{◌≡◌, ℕ, Bool, true, nat_eq, Option, Some, None, List, [], ◌∷◌, map, if◌then◌else◌}
use Rattle.std.specs.List.{IsDistinct}
use Rattle.std.specs.Option.{is_some, option_and_then}
use Rattle.library_steps.specs.Named.{Named, named}
use Rattle.library_steps.specs.State.{FileState, MemberStatus}
use Rattle.library_steps.specs.SlotChange.{status_in}

-- one of them has this number
abbrev pub has_number : ℕ → Named MemberStatus → Bool
has_number number members = is_some (status_in number members)

abbrev pub numbers_of : Named MemberStatus → List ℕ
numbers_of members = map (λ entry. entry.1.number) members

-- the status of the member with this number, where the file is there and has it
abbrev pub status_of : ℕ → Option FileState → Option MemberStatus
status_of number file = option_and_then (λ f. status_in number f.members) file

-- the name of the file that has the member with this number
abbrev pub owner : ℕ → Named FileState → Option (List ℕ)
owner number [] = None
owner number (entry ∷ files) = if has_number number entry.1.members then Some entry.0 else owner number files

-- a file of this name is there, and has the member with the number
pub record Owns (files : Named FileState) (name : List ℕ) (file : FileState) (number : ℕ) : Type 0 where
  pub there : named name files ≡ Some file
  pub has : has_number number file.members ≡ true

-- no two members have one number
pub record AreApart (files : Named FileState) : Type 0 where
  -- two files that have one member are the same file
  pub apart : (name other : List ℕ) (file another : FileState) (number : ℕ) → Owns files name file number → Owns files other another number → name ≡ other
  pub within : (name : List ℕ) (file : FileState) → named name files ≡ Some file → IsDistinct nat_eq (numbers_of file.members)

-- each member of these files has an owner, which is its file
pub record IsOwned (files : Named FileState) (found : ℕ → Option (List ℕ)) : Type 0 where
  pub owned : (name : List ℕ) (file : FileState) (number : ℕ) → Owns files name file number → found number ≡ Some name
  pub within : (name : List ℕ) (file : FileState) → named name files ≡ Some file → IsDistinct nat_eq (numbers_of file.members)

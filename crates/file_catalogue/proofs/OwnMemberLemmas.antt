-- Files of which each physical one has a member, and no logical one has any, stay so as files come, change and go.
use Rattle.std.proofs.Common.{◌≡◌, ◌≤◌, ℕ, true, false, cond, not, Some, List, [], ◌∷◌, ◌++◌, length, length-append, ap, subst, arith}
use Rattle.std.specs.Map.{set_value}
use Rattle.logical_model.specs.Bases.{FileSpec, PhysicalFile, LogicalFile}
use Rattle.library_model.specs.Named.{Named, named, same_name}
use Rattle.lawful_states.below.library_steps.specs.declared.limits.TheConstants.{MOST_MEMBERS}
use Rattle.lawful_states.specs.State.{FileState, MemberStatus, status_changed}
use Rattle.lawful_states.specs.DeleteFile.{without_file}
use Rattle.lawful_states.specs.Owners.{has_number}
use Rattle.lawful_states.specs.Physical.{IsPhysical}
use Rattle.file_catalogue.specs.OwnMembers.{HaveRoom, HasOwnMembers, HaveOwnMembers, LogicalHaveNone}
use Rattle.lawful_states.proofs.NameLemmas.{some-equal}
use Rattle.lawful_states.proofs.StatusLemmas.{changed_in}
use Rattle.lawful_states.proofs.ChangeLemmas.{each_changed}

-- ---- the members of a file

pub room-there : (members : Named MemberStatus) (capacity : ℕ) → HaveRoom members capacity → 1 ≤ length members → MOST_MEMBERS ≤ capacity
room-there [] capacity has some = absurd (omega (arith, some))
room-there (entry ∷ members) capacity has some = has

pub room-of : (members : Named MemberStatus) (capacity : ℕ) → MOST_MEMBERS ≤ capacity → HaveRoom members capacity
room-of [] capacity most = tt
room-of (entry ∷ members) capacity most = most

pub room-changed : (number : ℕ) (change : MemberStatus → MemberStatus) (members : Named MemberStatus) (capacity : ℕ) → HaveRoom members capacity
    → HaveRoom (changed_in number change members) capacity
room-changed number change [] capacity has = tt
room-changed number change (entry ∷ members) capacity has = has

pub some-member : (file : FileSpec) (members : Named MemberStatus) → IsPhysical file → HasOwnMembers file members → 1 ≤ length members
some-member (PhysicalFile spec) members is has = has
some-member (LogicalFile spec) members is has = absurd is

-- a file that has a member is a physical one
pub physical-with_member : (file : FileSpec) (members : Named MemberStatus) (number : ℕ) → HasOwnMembers file members → has_number number members ≡ true → IsPhysical file
physical-with_member (PhysicalFile spec) members number own has = tt
physical-with_member (LogicalFile spec) members number own has =
    let none : has_number number [] ≡ true = subst (λ (m : Named MemberStatus). has_number number m ≡ true) own has in absurd cc

pub member-more : (file : FileSpec) (members : Named MemberStatus) (entry : List ℕ × MemberStatus) → IsPhysical file → HasOwnMembers file (members ++ entry ∷ [])
member-more (PhysicalFile spec) members entry is = (let more = length-append members (entry ∷ []) in omega (arith, more))
member-more (LogicalFile spec) members entry is = absurd is

pub members-changed : (number : ℕ) (change : MemberStatus → MemberStatus) (file : FileSpec) (members : Named MemberStatus) → HasOwnMembers file members
    → HasOwnMembers file (changed_in number change members)
members-changed number change (PhysicalFile spec) [] has = has
members-changed number change (PhysicalFile spec) (entry ∷ members) has = omega arith
members-changed number change (LogicalFile spec) members has = ap (changed_in number change) has

-- ---- of all files

pub members-append : (files : Named FileState) (name : List ℕ) (new : FileState) → HaveOwnMembers files → HasOwnMembers new.spec new.members
    → HaveOwnMembers (files ++ (name, new) ∷ [])
members-append [] name new all has = (has, tt)
members-append (entry ∷ files) name new all has = (all.0, members-append files name new all.1 has)

pub members-without : (gone : List ℕ) (files : Named FileState) → HaveOwnMembers files → HaveOwnMembers (without_file gone files)
members-without gone [] all = tt
members-without gone (entry ∷ files) all =
    elim (same_name gone entry.0) as (λ b. HaveOwnMembers (cond (not b) (entry ∷ without_file gone files) (without_file gone files))) [
      | true ↦ members-without gone files all.1
      | false ↦ (all.0, members-without gone files all.1)
    ]

pub members-set : (name : List ℕ) (new : FileState) (files : Named FileState) → HaveOwnMembers files → HasOwnMembers new.spec new.members
    → HaveOwnMembers (set_value (same_name name) files new)
members-set name new [] all has = tt
members-set name new (entry ∷ files) all has =
    elim (same_name name entry.0) as (λ b. HaveOwnMembers (cond b ((entry.0, new) ∷ files) (entry ∷ set_value (same_name name) files new))) [
      | true ↦ (has, all.1)
      | false ↦ (all.0, members-set name new files all.1 has)
    ]

pub members-each_changed : (number : ℕ) (change : MemberStatus → MemberStatus) (files : Named FileState) → HaveOwnMembers files
    → HaveOwnMembers (each_changed (status_changed number change) files)
members-each_changed number change [] all = tt
members-each_changed number change (entry ∷ files) all =
    (members-changed number change entry.1.spec entry.1.members all.0, members-each_changed number change files all.1)

-- ---- what a name finds

pub members-named : (name : List ℕ) (file : FileState) (files : Named FileState) → HaveOwnMembers files → named name files ≡ Some file → HasOwnMembers file.spec file.members
members-named name file [] all found = absurd cc
members-named name file (entry ∷ files) all found =
    elim (same_name name entry.0) as (λ b. cond b (Some entry.1) (named name files) ≡ Some file → HasOwnMembers file.spec file.members) [
      | true ↦ λ same. subst (λ (f : FileState). HasOwnMembers f.spec f.members) (some-equal same) all.0
      | false ↦ λ later. members-named name file files all.1 later
    ] found

pub logical-none : (files : Named FileState) → HaveOwnMembers files → LogicalHaveNone files
logical-none files all name file spec found same = subst (λ (s : FileSpec). HasOwnMembers s file.members) same (members-named name file files all found)

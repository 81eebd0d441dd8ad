-- Files that are all physical stay so, and the physical file of a name is then the file of this name.
use Rattle.std.proofs.Common.{◌≡◌, ℕ, Bool, true, false, cond, not, Some, List, [], ◌∷◌, ◌++◌, refl, subst}
use Rattle.std.specs.Option.{option_and_then}
use Rattle.library_steps.specs.Bases.{FileSpec, PhysicalFile, LogicalFile}
use Rattle.library_steps.specs.Named.{Named, named, same_name}
use Rattle.library_steps.specs.State.{FileState, MemberStatus, status_changed, if_physical, physical_among}
use Rattle.library_steps.specs.DeleteFile.{without_file}
use Rattle.library_steps.specs.MemberCommands.{file_changed, with_member_name}
use Rattle.lawful_states.specs.Physical.{IsPhysical, AllArePhysical}
use Rattle.lawful_states.proofs.NameLemmas.{some-equal}
use Rattle.lawful_states.proofs.ChangeLemmas.{each_changed}

pub physical-append : (files : Named FileState) (name : List ℕ) (new : FileState) → AllArePhysical files → IsPhysical new.spec → AllArePhysical (files ++ (name, new) ∷ [])
physical-append [] name new all is = (is, tt)
physical-append (entry ∷ files) name new all is = (all.0, physical-append files name new all.1 is)

pub physical-without : (gone : List ℕ) (files : Named FileState) → AllArePhysical files → AllArePhysical (without_file gone files)
physical-without gone [] all = tt
physical-without gone (entry ∷ files) all =
    elim (same_name gone entry.0) as (λ b. AllArePhysical (cond (not b) (entry ∷ without_file gone files) (without_file gone files))) [
      | true ↦ physical-without gone files all.1
      | false ↦ (all.0, physical-without gone files all.1)
    ]

either-physical : (b : Bool) (one other : FileState) → IsPhysical one.spec → IsPhysical other.spec → IsPhysical (cond b one other).spec
either-physical true one other first second = first
either-physical false one other first second = second

pub physical-member_added : (name member : List ℕ) (number : ℕ) (files : Named FileState) → AllArePhysical files → AllArePhysical (file_changed name (with_member_name member number) files)
physical-member_added name member number [] all = tt
physical-member_added name member number (entry ∷ files) all =
    (either-physical (same_name name entry.0) (with_member_name member number entry.1) entry.1 all.0 all.0, physical-member_added name member number files all.1)

pub physical-each_changed : (number : ℕ) (change : MemberStatus → MemberStatus) (files : Named FileState) → AllArePhysical files → AllArePhysical (each_changed (status_changed number change) files)
physical-each_changed number change [] all = tt
physical-each_changed number change (entry ∷ files) all = (all.0, physical-each_changed number change files all.1)

-- ---- what a name finds

pub physical-named : (name : List ℕ) (file : FileState) (files : Named FileState) → AllArePhysical files → named name files ≡ Some file → IsPhysical file.spec
physical-named name file [] all found = absurd cc
physical-named name file (entry ∷ files) all found =
    elim (same_name name entry.0) as (λ b. cond b (Some entry.1) (named name files) ≡ Some file → IsPhysical file.spec) [
      | true ↦ λ same. subst (λ (f : FileState). IsPhysical f.spec) (some-equal same) all.0
      | false ↦ λ later. physical-named name file files all.1 later
    ] found

physical-itself : (spec : FileSpec) (file : FileState) → IsPhysical spec → if_physical spec file ≡ Some file
physical-itself (PhysicalFile spec) file is = refl
physical-itself (LogicalFile spec) file is = absurd is

pub physical_among-all : (name : List ℕ) (files : Named FileState) → AllArePhysical files → physical_among name files ≡ named name files
physical_among-all name [] all = refl
physical_among-all name (entry ∷ files) all =
    elim (same_name name entry.0) as (λ b. option_and_then (λ (file : FileState). if_physical file.spec file) (cond b (Some entry.1) (named name files)) ≡ cond b (Some entry.1) (named name files)) [
      | true ↦ physical-itself entry.1.spec entry.1 all.0
      | false ↦ physical_among-all name files all.1
    ]

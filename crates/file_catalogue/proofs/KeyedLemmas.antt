-- Files whose keys are all by their fields stay so, as files come, change and go.
use Rattle.std.proofs.Common.{◌≡◌, ℕ, Bool, true, false, cond, not, Some, List, [], ◌∷◌, ◌++◌, subst}
use Rattle.logical_model.specs.Bases.{FileSpec}
use Rattle.library_model.specs.Named.{Named, named, same_name}
use Rattle.lawful_states.specs.State.{FileState, MemberStatus, status_changed}
use Rattle.lawful_states.specs.DeleteFile.{without_file}
use Rattle.lawful_states.specs.MemberCommands.{file_changed, with_member_name}
use Rattle.file_catalogue.specs.Keyed.{HasOwnKey, HaveOwnKeys, IsKeyedFile, AllAreKeyed}
use Rattle.lawful_states.proofs.NameLemmas.{some-equal}
use Rattle.lawful_states.proofs.ChangeLemmas.{each_changed}

pub own_key-keyed : (file : FileSpec) → HasOwnKey file → IsKeyedFile file
own_key-keyed file is spec same = subst HasOwnKey same is

pub keyed-append : (files : Named FileState) (name : List ℕ) (new : FileState) → HaveOwnKeys files → HasOwnKey new.spec → HaveOwnKeys (files ++ (name, new) ∷ [])
keyed-append [] name new all is = (is, tt)
keyed-append (entry ∷ files) name new all is = (all.0, keyed-append files name new all.1 is)

pub keyed-without : (gone : List ℕ) (files : Named FileState) → HaveOwnKeys files → HaveOwnKeys (without_file gone files)
keyed-without gone [] all = tt
keyed-without gone (entry ∷ files) all =
    elim (same_name gone entry.0) as (λ b. HaveOwnKeys (cond (not b) (entry ∷ without_file gone files) (without_file gone files))) [
      | true ↦ keyed-without gone files all.1
      | false ↦ (all.0, keyed-without gone files all.1)
    ]

either-keyed : (b : Bool) (one other : FileState) → HasOwnKey one.spec → HasOwnKey other.spec → HasOwnKey (cond b one other).spec
either-keyed true one other first second = first
either-keyed false one other first second = second

pub keyed-member_added : (name member : List ℕ) (number : ℕ) (files : Named FileState) → HaveOwnKeys files → HaveOwnKeys (file_changed name (with_member_name member number) files)
keyed-member_added name member number [] all = tt
keyed-member_added name member number (entry ∷ files) all =
    (either-keyed (same_name name entry.0) (with_member_name member number entry.1) entry.1 all.0 all.0, keyed-member_added name member number files all.1)

pub keyed-each_changed : (number : ℕ) (change : MemberStatus → MemberStatus) (files : Named FileState) → HaveOwnKeys files → HaveOwnKeys (each_changed (status_changed number change) files)
keyed-each_changed number change [] all = tt
keyed-each_changed number change (entry ∷ files) all = (all.0, keyed-each_changed number change files all.1)

-- ---- what a name finds

pub keyed-named : (name : List ℕ) (file : FileState) (files : Named FileState) → HaveOwnKeys files → named name files ≡ Some file → HasOwnKey file.spec
keyed-named name file [] all found = absurd cc
keyed-named name file (entry ∷ files) all found =
    elim (same_name name entry.0) as (λ b. cond b (Some entry.1) (named name files) ≡ Some file → HasOwnKey file.spec) [
      | true ↦ λ same. subst (λ (f : FileState). HasOwnKey f.spec) (some-equal same) all.0
      | false ↦ λ later. keyed-named name file files all.1 later
    ] found

pub own_keys-keyed : (files : Named FileState) → HaveOwnKeys files → AllAreKeyed files
own_keys-keyed files all name file spec found same = subst HasOwnKey same (keyed-named name file files all found)

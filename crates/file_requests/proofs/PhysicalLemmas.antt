-- What is found of physical files, and what is made of them.
use Rattle.std.proofs.Common.{◌≡◌, ◌≤◌, ℕ, Option, Some, None, Result, Ok, Err, IfOk, IsSome, List, refl, sym, subst}
use Rattle.std.specs.Borrow.{Bor}
use Rattle.std.specs.Option.{option_and_then}
use Rattle.logical_model.specs.Bases.{FileSpec, PhysicalFile, LogicalFile}
use Rattle.library_model.specs.declared.limits.TheConstants.{LAST_MEMBER}
use Rattle.library_model.specs.declared.replies.Reply.{Reply}
use Rattle.library_model.specs.Named.{Named, named}
use Rattle.library_steps.specs.State.{State, FileState, if_physical, physical_among}
use Rattle.library_steps.specs.CreatePhysicalFile.{NewFile, new_file}
use Rattle.library_steps.specs.Refusals.{found, named_or_refused}
use Rattle.library_parts.specs.Answers.{Shows}
use Rattle.library_parts.specs.Files.{IsNewFile}
use Rattle.library_parts.below.parts_model.specs.declared.stop.Stop.{Stop}

only-physical : (spec : FileSpec) (name : List ℕ) (f file : FileState) → named_or_refused name (if_physical spec f) ≡ Ok file → Some f ≡ Some file
only-physical (PhysicalFile spec) name f file is = cc
only-physical (LogicalFile spec) name f file is = absurd cc

there-of : (name : List ℕ) (o : Option FileState) (file : FileState) → named_or_refused name (option_and_then (λ (f : FileState). if_physical f.spec f) o) ≡ Ok file → o ≡ Some file
there-of name None file is = absurd cc
there-of name (Some f) file is = only-physical f.spec name f file is

-- the physical file of a name is the file of this name
pub physical-there : (name : List ℕ) (files : Named FileState) (result : Result (Bor FileState) Stop) → Shows result (named_or_refused name (physical_among name files))
    → IfOk result (λ file. named name files ≡ Some file.now)
physical-there name files (Ok file) shows = there-of name (named name files) file.now shows
physical-there name files (Err stop) shows = tt

shown-is : (o : Option FileState) (reply : Reply) (file : FileState) → found o reply ≡ Ok file → o ≡ Some file
shown-is None reply file is = absurd cc
shown-is (Some other) reply file is = cc

-- and it is there among the physical ones
pub physical-shown : (name : List ℕ) (o : Option FileState) (result : Result (Bor FileState) Stop) → Shows result (named_or_refused name o) → IfOk result (λ file. o ≡ Some file.now)
physical-shown name o (Ok file) shows = shown-is o _ file.now shows
physical-shown name o (Err stop) shows = tt

-- where there is a physical file of a name, there is a file
pub some-physical : (o : Option FileState) → IsSome (option_and_then (λ (f : FileState). if_physical f.spec f) o) → IsSome o
some-physical None some = absurd cc
some-physical (Some f) some = refl

-- what CRTPF makes is a new file with one member
pub is-new-file : (old mid : State) (name : List ℕ) (described : NewFile) (file : FileState) → mid ≡ old → named name old.files ≡ None → old.next_member ≤ LAST_MEMBER
    → file ≡ new_file name old.next_member described → IsNewFile mid name file
is-new-file old mid name described file same absent number is =
    let made : IsNewFile old name (new_file name old.next_member described) = record { absent = absent; number = number; first = refl; physical = tt } in
    subst (λ (s : State). IsNewFile s name file) (sym same) (subst (λ (f : FileState). IsNewFile old name f) (sym is) made)

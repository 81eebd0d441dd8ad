-- A file that no job uses, where the state stays the same.
use Rattle.std.proofs.Common.{◌≡◌, ◌∙◌, ℕ, Option, Some, None, List, sym, subst}
use Rattle.library_model.specs.Named.{named}
use Rattle.library_steps.specs.State.{State, FileState, memory_of}
use Rattle.library_steps.specs.DeleteFile.{user_by}

some-equal : (one other : FileState) → (let first : Option FileState = Some one in first) ≡ Some other → one ≡ other
some-equal one other same = cc

pub unused-kept : (old mid : State) (name : List ℕ) (its : FileState) → mid ≡ old → named name old.files ≡ Some its → user_by its.spec name its (memory_of old) ≡ None
    → (file : FileState) → named name mid.files ≡ Some file → user_by file.spec name file (memory_of mid) ≡ None
unused-kept old mid name its same there unused =
    subst (λ (s : State). (file : FileState) → named name s.files ≡ Some file → user_by file.spec name file (memory_of s) ≡ None) (sym same)
    (λ file here. subst (λ (f : FileState). user_by f.spec name f (memory_of old) ≡ None) (some-equal its file (sym there ∙ here)) unused)

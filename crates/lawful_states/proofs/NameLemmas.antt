-- What a list of files finds by a name, with one file more, one less, or one changed.
use Rattle.std.proofs.Common.{◌≡◌, ◌⊎◌, inl, inr, ℕ, true, false, cond, not, nat_eq, List, [], ◌∷◌, ◌++◌, Option, Some, None, refl, sym, ◌∙◌, ap, subst}
use Rattle.std.specs.List.{AllByRecursion, IsDistinct}
use Rattle.std.specs.Map.{keys_of, remove_entry}
use Rattle.std.specs.Cmp.Lexicographic.{pointwise, same_text}
use Rattle.std.proofs.lemmas.Cmp.{nat_list_eq_equiv}
use Rattle.library_steps.specs.Named.{Named, named, same_name}
use Rattle.library_steps.specs.State.{FileState}
use Rattle.library_steps.specs.DeleteFile.{without_file}

pub same_name-equal : (a b : List ℕ) → same_name a b ≡ true → a ≡ b
same_name-equal a b same = same_text a b (sym same)

pub same_name-self : (a : List ℕ) → same_name a a ≡ true
same_name-self a = nat_list_eq_equiv.refl a

pub same_name-symm : (a b : List ℕ) → same_name a b ≡ same_name b a
same_name-symm a b = nat_list_eq_equiv.symm a b

pub some-equal : {A : Type 0} {a b : A} → Some a ≡ Some b → a ≡ b
some-equal e = cc

-- one file more
pub named-append : (name other : List ℕ) (files : Named FileState) (new file : FileState) → named name (files ++ (other, new) ∷ []) ≡ Some file
    → (named name files ≡ Some file) ⊎ ((name ≡ other) × (new ≡ file))
named-append name other [] new file found =
    elim (same_name name other) as (λ b. same_name name other ≡ b → cond b (Some new) None ≡ Some file → (None ≡ Some file) ⊎ ((name ≡ other) × (new ≡ file))) [
      | true ↦ λ same e. inr (same_name-equal name other same, cc)
      | false ↦ λ differ e. absurd cc
    ] refl found
named-append name other (first ∷ files) new file found =
    elim (same_name name first.0) as (λ b. cond b (Some first.1) (named name (files ++ (other, new) ∷ [])) ≡ Some file
    → (cond b (Some first.1) (named name files) ≡ Some file) ⊎ ((name ≡ other) × (new ≡ file))) [
      | true ↦ λ e. inl e
      | false ↦ λ e. named-append name other files new file e
    ] found

-- one file less
pub named-without_other : (gone name : List ℕ) (files : Named FileState) → same_name gone name ≡ false → named name (without_file gone files) ≡ named name files
named-without_other gone name [] other = refl
named-without_other gone name (first ∷ files) other =
    elim (same_name gone first.0) as (λ b. same_name gone first.0 ≡ b
    → named name (cond (not b) (first ∷ without_file gone files) (without_file gone files)) ≡ cond (same_name name first.0) (Some first.1) (named name files)) [
      | true ↦ λ same. let apart : same_name name first.0 ≡ false = ap (same_name name) (sym (same_name-equal gone first.0 same)) ∙ nat_list_eq_equiv.symm name gone
          ∙ other in rw apart (named-without_other gone name files other)
      | false ↦ λ differ. ap (λ (o : Option FileState). cond (same_name name first.0) (Some first.1) o) (named-without_other gone name files other)
    ] refl

named-without_self : (gone : List ℕ) (files : Named FileState) → named gone (without_file gone files) ≡ None
named-without_self gone [] = refl
named-without_self gone (first ∷ files) =
    elim (same_name gone first.0) as (λ b. same_name gone first.0 ≡ b → named gone (cond (not b) (first ∷ without_file gone files) (without_file gone files)) ≡ None) [
      | true ↦ λ same. named-without_self gone files
      | false ↦ λ differ. rw differ (named-without_self gone files)
    ] refl

pub named-without : (gone name : List ℕ) (files : Named FileState) (file : FileState) → named name (without_file gone files) ≡ Some file
    → (named name files ≡ Some file) × (same_name gone name ≡ false)
named-without gone name files file found =
    elim (same_name gone name) as (λ b. same_name gone name ≡ b → (named name files ≡ Some file) × (b ≡ false)) [
      | true ↦ λ same. let none : named name (without_file gone files)
          ≡ None = subst (λ (n : List ℕ). named n (without_file gone files) ≡ None) (same_name-equal gone name same) (named-without_self gone files) in absurd cc
      | false ↦ λ differ. (sym (named-without_other gone name files differ) ∙ found, refl)
    ] refl

-- where no two files have one name, the first of a name is the only one
without_file-absent : (gone : List ℕ) (files : Named FileState) → AllByRecursion (λ name. same_name gone name ≡ false) (keys_of files) → without_file gone files ≡ files
without_file-absent gone [] all = refl
without_file-absent gone (first ∷ files) all = rw all.0 (ap (λ (rest : Named FileState). first ∷ rest) (without_file-absent gone files all.1))

pub remove_entry-distinct : (gone : List ℕ) (files : Named FileState) → IsDistinct (pointwise nat_eq) (keys_of files) → remove_entry (same_name gone) files ≡ without_file gone files
unfolding IsDistinct
remove_entry-distinct gone [] distinct = refl
remove_entry-distinct gone (first ∷ files) distinct =
    elim (same_name gone first.0) as (λ b. same_name gone first.0 ≡ b
    → cond b files (first ∷ remove_entry (same_name gone) files) ≡ cond (not b) (first ∷ without_file gone files) (without_file gone files)) [
      | true ↦ λ same. sym (without_file-absent gone files (subst (λ (n : List ℕ). AllByRecursion (λ name. same_name n name
          ≡ false) (keys_of files)) (sym (same_name-equal gone first.0 same)) distinct.0))
      | false ↦ λ differ. ap (λ (rest : Named FileState). first ∷ rest) (remove_entry-distinct gone files distinct.1)
    ] refl

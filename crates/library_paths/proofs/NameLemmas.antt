-- What names find, where a thing is put behind, changed, or taken out.
use Rattle.std.proofs.Common.{◌≡◌, ◌∙◌, ℕ, Bool, true, false, cond, not, List, [], ◌∷◌, ◌++◌, map, Option, Some, None, is_some, IsSome, refl, sym, ap, subst}
use Rattle.std.specs.List.{AllByRecursion}
use Rattle.std.specs.Map.{keys_of}
use Rattle.std.specs.Option.{option_map}
use Rattle.std.specs.Cmp.Lexicographic.{same_text}
use Rattle.std.proofs.lemmas.Bool.{true≢false}
use Rattle.std.proofs.lemmas.Cmp.{nat_list_eq_equiv}
use Rattle.library_model.specs.Named.{Named, named, same_name}
use Rattle.library_steps.specs.DeleteFile.{without_file}
use Rattle.library_steps.specs.MemberCommands.{file_changed}
use Rattle.library_steps.specs.State.{FileState}

pub name-equal : (a b : List ℕ) → same_name a b ≡ true → a ≡ b
name-equal a b same = same_text a b (sym same)

pub name-self : (a : List ℕ) → same_name a a ≡ true
name-self a = nat_list_eq_equiv.refl a

pub name-symm : (a b : List ℕ) → same_name a b ≡ same_name b a
name-symm a b = nat_list_eq_equiv.symm a b

pub some-same : {A : Type 0} {a b : A} → Some a ≡ Some b → a ≡ b
some-same e = cc

-- what holds of each thing by its name holds of what a name finds
pub each-named : {A : Type 0} (P : List ℕ → A → Type 0) (name : List ℕ) (things : Named A) (thing : A) → AllByRecursion (λ (entry : List ℕ × A). P entry.0 entry.1) things
    → named name things ≡ Some thing → P name thing
each-named P name [] thing all found = absurd cc
each-named P name (entry ∷ things) thing all found =
    elim (same_name name entry.0) as (λ b. same_name name entry.0 ≡ b → cond b (Some entry.1) (named name things) ≡ Some thing → P name thing) [
      | true ↦ λ same e. subst (P name) (some-same e) (subst (λ (n : List ℕ). P n entry.1) (sym (name-equal name entry.0 same)) all.0)
      | false ↦ λ differs e. each-named P name things thing all.1 e
    ] refl found

-- ---- one more

pub named-before : {A : Type 0} (name : List ℕ) (things : Named A) (new : List ℕ × A) → IsSome (named name things) → named name (things ++ new ∷ []) ≡ named name things
named-before name [] new there = absurd (true≢false (sym there))
named-before {A} name (entry ∷ things) new there =
    elim (same_name name entry.0) as
    (λ b. is_some (cond b (Some entry.1) (named name things)) ≡ true → cond b (Some entry.1) (named name (things ++ new ∷ [])) ≡ cond b (Some entry.1) (named name things)) [
      | true ↦ λ h. refl
      | false ↦ λ h. named-before name things new h
    ] there

pub named-more : {A : Type 0} (name : List ℕ) (things : Named A) (new : List ℕ × A) → IsSome (named name things) → IsSome (named name (things ++ new ∷ []))
named-more {A} name things new there = ap (λ (o : Option A). is_some o) (named-before name things new there) ∙ there

-- ---- one changed

pub file_changed-others : (name : List ℕ) (change : FileState → FileState) (files : Named FileState) → AllByRecursion (λ other. same_name name other ≡ false) (keys_of files)
    → file_changed name change files ≡ files
file_changed-others name change [] all = refl
file_changed-others name change (entry ∷ files) all = rw all.0 (ap (λ (rest : Named FileState). entry ∷ rest) (file_changed-others name change files all.1))

some-cond : (b : Bool) (change : FileState → FileState) (file : FileState) → Some (cond b (change file) file) ≡ cond b (Some (change file)) (Some file)
some-cond true change file = refl
some-cond false change file = refl

nothing-cond : (b : Bool) (nothing : Option FileState) → cond b nothing nothing ≡ nothing
nothing-cond true nothing = refl
nothing-cond false nothing = refl

pub named-changed : (name other : List ℕ) (change : FileState → FileState) (files : Named FileState)
    → named other (file_changed name change files) ≡ cond (same_name name other) (option_map change (named other files)) (named other files)
named-changed name other change [] = sym (nothing-cond (same_name name other) None)
named-changed name other change (entry ∷ files) =
    elim (same_name other entry.0) as (λ b. same_name other entry.0 ≡ b
    → cond b (Some (cond (same_name name entry.0) (change entry.1) entry.1)) (named other (file_changed name change files))
    ≡ cond (same_name name other) (option_map change (cond b (Some entry.1) (named other files))) (cond b (Some entry.1) (named other files))) [
      | true ↦ λ same. ap (λ n. Some (cond (same_name name n) (change entry.1) entry.1)) (sym (name-equal other entry.0 same)) ∙ some-cond (same_name name other) change entry.1
      | false ↦ λ differ. named-changed name other change files
    ] refl

abbrev pub each_changed : (FileState → FileState) → Named FileState → Named FileState
each_changed change files = map (λ entry. (entry.0, change entry.1)) files

pub named-each_changed : (name : List ℕ) (change : FileState → FileState) (files : Named FileState) → named name (each_changed change files) ≡ option_map change (named name files)
named-each_changed name change [] = refl
named-each_changed name change (entry ∷ files) =
    elim (same_name name entry.0) as (λ b. cond b (Some (change entry.1)) (named name (each_changed change files)) ≡ option_map change (cond b (Some entry.1) (named name files))) [
      | true ↦ refl
      | false ↦ named-each_changed name change files
    ]

-- ---- one less

pub named-without : (gone name : List ℕ) (files : Named FileState) → same_name gone name ≡ false → named name (without_file gone files) ≡ named name files
named-without gone name [] other = refl
named-without gone name (first ∷ files) other =
    elim (same_name gone first.0) as (λ b. same_name gone first.0 ≡ b
    → named name (cond (not b) (first ∷ without_file gone files) (without_file gone files)) ≡ cond (same_name name first.0) (Some first.1) (named name files)) [
      | true ↦ λ same. let apart : same_name name first.0 ≡ false = ap (same_name name) (sym (name-equal gone first.0 same)) ∙ name-symm name gone
          ∙ other in rw apart (named-without gone name files other)
      | false ↦ λ differ. ap (λ (o : Option FileState). cond (same_name name first.0) (Some first.1) o) (named-without gone name files other)
    ] refl

-- without the one of a name that no other has
pub without-others : (gone : List ℕ) (files : Named FileState) → AllByRecursion (λ name. same_name gone name ≡ false) (keys_of files) → without_file gone files ≡ files
without-others gone [] all = refl
without-others gone (first ∷ files) all = rw all.0 (ap (λ (rest : Named FileState). first ∷ rest) (without-others gone files all.1))

-- Which file owns a member, by what the files' names find.
use Rattle.std.proofs.Common.{◌≡◌, ℕ, true, false, cond, List, [], ◌∷◌, Option, Some, None, refl, sym, ◌∙◌, ap, subst}
use Rattle.std.specs.List.{AllByRecursion, IsDistinct}
use Rattle.std.specs.Option.{is_some, option_and_then}
use Rattle.std.specs.Map.{keys_of}
use Rattle.library_steps.specs.Named.{Named, named, same_name}
use Rattle.library_steps.specs.State.{FileState}
use Rattle.library_steps.specs.SlotChange.{status_in, status_among}
use Rattle.lawful_states.specs.Owners.{has_number, owner, status_of, Owns, AreApart, IsOwned}
use Rattle.lawful_states.proofs.NameLemmas.{same_name-equal, same_name-self, same_name-symm, some-equal}

pub owned-apart : {files : Named FileState} {found : ℕ → Option (List ℕ)} → IsOwned files found → AreApart files
owned-apart {files} {found} is = record {
  apart = λ name other file another number one two. let p : found number ≡ Some name = is.owned name file number one in let q : found number ≡ Some other = is.owned other another number two in cc;
  within = is.within;
}

-- no other file has the name of the first
pub first_differs : (first name : List ℕ) (files : Named FileState) (file : FileState) → AllByRecursion (λ other. same_name first other ≡ false) (keys_of files)
    → named name files ≡ Some file → same_name name first ≡ false
first_differs first name [] file all found = absurd cc
first_differs first name (entry ∷ files) file all found =
    elim (same_name name entry.0) as (λ b. same_name name entry.0 ≡ b → cond b (Some entry.1) (named name files) ≡ Some file → same_name name first ≡ false) [
      | true ↦ λ same e. ap (λ n. same_name n first) (same_name-equal name entry.0 same) ∙ same_name-symm entry.0 first ∙ all.0
      | false ↦ λ differ e. first_differs first name files file all.1 e
    ] refl found

-- what a file behind the first owns, it owns among all
pub owns-behind : {entry : List ℕ × FileState} {files : Named FileState} {name : List ℕ} {file : FileState} {number : ℕ}
    → AllByRecursion (λ other. same_name entry.0 other ≡ false) (keys_of files) → Owns files name file number → Owns (entry ∷ files) name file number
owns-behind {entry} {files} {name} {file} {number} all owns = record { there = rw (first_differs entry.0 name files file all owns.there) owns.there; has = owns.has }

pub owns-first : (entry : List ℕ × FileState) (files : Named FileState) (number : ℕ) → has_number number entry.1.members ≡ true → Owns (entry ∷ files) entry.0 entry.1 number
owns-first entry files number has = record { there = rw (same_name-self entry.0) refl; has = has }

-- nobody owns the member
abbrev pub Unowned : Named FileState → ℕ → Type 0
Unowned files number = (name : List ℕ) (file : FileState) → Owns files name file number → ⊥

pub unowned-status : (number : ℕ) (files : Named FileState) → IsDistinct same_name (keys_of files) → Unowned files number → (status_among number files ≡ None) × (owner number files ≡ None)
unfolding IsDistinct
unowned-status number [] distinct none = (refl, refl)
unowned-status number (entry ∷ files) distinct none =
    elim (has_number number entry.1.members) as (λ b. has_number number entry.1.members ≡ b
    → (cond b (status_in number entry.1.members) (status_among number files) ≡ None) × (cond b (Some entry.0) (owner number files) ≡ None)) [
      | true ↦ λ has. absurd (none entry.0 entry.1 (owns-first entry files number has))
      | false ↦ λ lacks. unowned-status number files distinct.1 (λ name file owns. none name file (owns-behind distinct.0 owns))
    ] refl

-- what no file has is owned by none
pub status-unowned : (number : ℕ) (files : Named FileState) → status_among number files ≡ None → Unowned files number
status-unowned number [] none name file owns = let e : None ≡ Some file = owns.there in absurd cc
status-unowned number (entry ∷ files) none name file owns =
    elim (has_number number entry.1.members) as (λ b. has_number number entry.1.members ≡ b → cond b (status_in number entry.1.members) (status_among number files) ≡ None → ⊥) [
      | true ↦ λ has e. let f : is_some (status_in number entry.1.members) ≡ false = ap is_some e in absurd cc
      | false ↦ λ lacks e. behind lacks (λ f. status-unowned number files e name file (record { there = f; has = owns.has }))
    ] refl none
  where
    behind : has_number number entry.1.members ≡ false → (named name files ≡ Some file → ⊥) → ⊥
    behind lacks rest =
        elim (same_name name entry.0) as (λ b. cond b (Some entry.1) (named name files) ≡ Some file → ⊥) [
          | true ↦ λ f. let g : has_number number entry.1.members ≡ true = subst (λ (x : FileState). has_number number x.members ≡ true) (some-equal (sym f)) owns.has in absurd cc
          | false ↦ rest
        ] owns.there

-- the only owner of a member
abbrev pub IsOnly : Named FileState → ℕ → List ℕ → Type 0
IsOnly files number name = (other : List ℕ) (another : FileState) → Owns files other another number → name ≡ other

pub owner-status : (number : ℕ) (name : List ℕ) (file : FileState) (files : Named FileState) → IsDistinct same_name (keys_of files) → Owns files name file number
    → IsOnly files number name → (status_among number files ≡ status_in number file.members) × (owner number files ≡ Some name)
unfolding IsDistinct
owner-status number name file [] distinct owns only = let e : None ≡ Some file = owns.there in absurd cc
owner-status number name file (entry ∷ files) distinct owns only =
    elim (has_number number entry.1.members) as (λ b. has_number number entry.1.members ≡ b
    → (cond b (status_in number entry.1.members) (status_among number files) ≡ status_in number file.members) × (cond b (Some entry.0) (owner number files) ≡ Some name)) [
      | true ↦ λ has. here has
      | false ↦ λ lacks. behind lacks (λ f. owner-status number name file files distinct.1 (record { there = f; has = owns.has }) (λ other another o. only other another (owns-behind distinct.0 o)))
    ] refl
  where
    here : has_number number entry.1.members ≡ true → (status_in number entry.1.members ≡ status_in number file.members) × (Some entry.0 ≡ Some name)
    here has =
        let same : name ≡ entry.0 = only entry.0 entry.1 (owns-first entry files number has) in
        let found : Some entry.1 ≡ Some file = sym (rw (same_name-self entry.0) refl) ∙ ap (λ n. named n (entry ∷ files)) (sym same) ∙ owns.there in
        (ap (λ (x : FileState). status_in number x.members) (some-equal found), ap Some (sym same))

    behind : has_number number entry.1.members ≡ false → (named name files ≡ Some file
        → (status_among number files ≡ status_in number file.members) × (owner number files ≡ Some name))
        → (status_among number files ≡ status_in number file.members) × (owner number files ≡ Some name)
    behind lacks rest =
        elim (same_name name entry.0) as (λ b. cond b (Some entry.1) (named name files) ≡ Some file → (status_among number files ≡ status_in number file.members) × (owner number files ≡ Some name)) [
          | true ↦ λ f. let g : has_number number entry.1.members ≡ true = subst (λ (x : FileState). has_number number x.members ≡ true) (some-equal (sym f)) owns.has in absurd cc
          | false ↦ rest
        ] owns.there

-- the file that status_of found a member in
has-status : (number : ℕ) (o : Option FileState) → is_some (status_of number o) ≡ true → (file : FileState) × (o ≡ Some file) × (has_number number file.members ≡ true)
has-status number None has = absurd cc
has-status number (Some file) has = (file, refl, has)

-- what the name of the owner finds
abbrev pub IsOwner : ℕ → Named FileState → Option (List ℕ) → Type 0
IsOwner number files result = (result ≡ owner number files) × (option_and_then (λ name. status_of number (named name files)) result ≡ status_among number files)

pub owner-some : {found : ℕ → Option (List ℕ)} (number : ℕ) (name : List ℕ) (files : Named FileState) → IsDistinct same_name (keys_of files) → IsOwned files found
    → found number ≡ Some name → is_some (status_of number (named name files)) ≡ true → IsOwner number files (Some name)
owner-some {found} number name files distinct is at has =
    let it = has-status number (named name files) has in
    let both = owner-status number name it.0 files distinct (record { there = it.1; has = it.2 }) (λ other another owns. some-equal (sym at ∙ is.owned other another number owns)) in
    (sym both.1, ap (status_of number) it.1 ∙ sym both.0)

pub owner-none : {found : ℕ → Option (List ℕ)} (number : ℕ) (files : Named FileState) → IsDistinct same_name (keys_of files) → IsOwned files found → found number ≡ None → IsOwner number files None
owner-none {found} number files distinct is at =
    let both = unowned-status number files distinct (λ name file owns. let e : found number ≡ Some name = is.owned name file number owns in absurd cc) in
    (sym both.1, sym both.0)

pub owner-stale : {found : ℕ → Option (List ℕ)} (number : ℕ) (name : List ℕ) (files : Named FileState) → IsDistinct same_name (keys_of files) → IsOwned files found
    → found number ≡ Some name → is_some (status_of number (named name files)) ≡ false → IsOwner number files None
owner-stale {found} number name files distinct is at lacks =
    let both = unowned-status number files distinct (λ other file owns.
    let same : name ≡ other = some-equal (sym at ∙ is.owned other file number owns) in
    let has : is_some (status_of number (named name files)) ≡ true = ap (λ n. is_some (status_of number (named n files))) same ∙ ap (λ o. is_some (status_of number o)) owns.there ∙ owns.has in
    absurd cc) in
    (sym both.1, sym both.0)

-- the owner is there, and has the member
pub owner-owns : (number : ℕ) (name : List ℕ) (files : Named FileState) → IsDistinct same_name (keys_of files) → owner number files ≡ Some name → (file : FileState) × Owns files name file number
unfolding IsDistinct
owner-owns number name [] distinct at = absurd cc
owner-owns number name (entry ∷ files) distinct at =
    elim (has_number number entry.1.members) as (λ b. has_number number entry.1.members ≡ b → cond b (Some entry.0) (owner number files) ≡ Some name
    → (file : FileState) × Owns (entry ∷ files) name file number) [
      | true ↦ λ has e. (entry.1, subst (λ (n : List ℕ). Owns (entry ∷ files) n entry.1 number) (some-equal e) (owns-first entry files number has))
      | false ↦ λ lacks e. let it = owner-owns number name files distinct.1 e in (it.0, owns-behind distinct.0 it.1)
    ] refl at

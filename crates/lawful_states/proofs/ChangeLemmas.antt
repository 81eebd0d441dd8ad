-- What becomes of the files, and of who owns their members, when a file is added, taken out or changed.
use Rattle.std.proofs.Common.{◌≡◌, ◌⊎◌, inl, inr, ℕ, Bool, true, false, cond, ◌||◌, ◌==◌, nat_eq, List, [], ◌∷◌, ◌++◌, Option, Some, None, refl, sym, ◌∙◌, ap, subst, map}
use Rattle.std.proofs.lemmas.Bool.{eqb-true}
use Rattle.std.specs.List.{AllByRecursion, IsDistinct}
use Rattle.std.specs.Option.{option_map}
use Rattle.std.specs.Map.{keys_of, set_value}
use Rattle.library_steps.specs.Named.{Named, named, same_name}
use Rattle.library_steps.specs.State.{FileState, MemberStatus, status_changed}
use Rattle.library_steps.specs.DeleteFile.{without_file}
use Rattle.library_steps.specs.MemberCommands.{with_member_name, file_changed}
use Rattle.library_steps.specs.SlotChange.{status_among}
use Rattle.lawful_states.specs.Owners.{has_number, numbers_of, owner, Owns, IsOwned}
use Rattle.lawful_states.proofs.NameLemmas.{same_name-equal, same_name-self, some-equal, named-append, named-without}
use Rattle.lawful_states.proofs.StatusLemmas.{has_number-cons, changed_in-absent, changed_in-numbers, has_number-changed_in, has_number-push, distinct-push}
use Rattle.lawful_states.proofs.OwnerLemmas.{first_differs, owns-behind, owns-first, Unowned, status-unowned, IsOnly}

-- ---- a file more

all-fresh : (number : ℕ) (files : Named FileState) (members : Named MemberStatus) → AllByRecursion (λ entry. status_among entry.1.number files ≡ None) members
    → has_number number members ≡ true → status_among number files ≡ None
all-fresh number files [] all has = absurd cc
all-fresh number files (entry ∷ members) all has =
    elim (entry.1.number == number) as (λ b. entry.1.number == number ≡ b → (b || has_number number members) ≡ true → status_among number files ≡ None) [
      | true ↦ λ same e. subst (λ n. status_among n files ≡ None) (eqb-true entry.1.number number same) all.0
      | false ↦ λ differ e. all-fresh number files members all.1 e
    ] refl (sym (has_number-cons number entry members) ∙ has)

pub owned-added : (files : Named FileState) (found after : ℕ → Option (List ℕ)) (name : List ℕ) (file : FileState)
    → IsOwned files found
    → AllByRecursion (λ entry. status_among entry.1.number files ≡ None) file.members
    → IsDistinct nat_eq (numbers_of file.members)
    → ((number : ℕ) → after number ≡ cond (has_number number file.members) (Some name) (found number))
    → IsOwned (files ++ (name, file) ∷ []) after
owned-added files found after name file is fresh distinct says = record {
  owned = λ other another number owns. owned other another number owns (named-append other name files file another owns.there);
  within = λ other another there. within other another (named-append other name files file another there);
}
  where
    owned : (other : List ℕ) (another : FileState) (number : ℕ) → Owns (files ++ (name, file) ∷ []) other another number
        → (named other files ≡ Some another) ⊎ ((other ≡ name) × (file ≡ another)) → after number ≡ Some other
    owned other another number owns (inl there) =
        says number ∙
        elim (has_number number file.members) as (λ b. has_number number file.members ≡ b → cond b (Some name) (found number) ≡ Some other) [
          | true ↦ λ has. absurd (status-unowned number files (all-fresh number files file.members fresh has) other another (record { there = there; has = owns.has }))
          | false ↦ λ lacks. is.owned other another number (record { there = there; has = owns.has })
        ] refl
    owned other another number owns (inr same) =
        says number ∙ ap (λ b. cond b (Some name) (found number)) (ap (λ (x : FileState). has_number number x.members) same.1 ∙ owns.has) ∙ ap Some (sym same.0)

    within : (other : List ℕ) (another : FileState) → (named other files ≡ Some another) ⊎ ((other ≡ name) × (file ≡ another)) → IsDistinct nat_eq (numbers_of another.members)
    within other another (inl there) = is.within other another there
    within other another (inr same) = subst (λ (x : FileState). IsDistinct nat_eq (numbers_of x.members)) same.1 distinct

-- ---- a file less

pub owned-removed : (files : Named FileState) (found after : ℕ → Option (List ℕ)) (name : List ℕ) (file : FileState)
    → IsOwned files found
    → named name files ≡ Some file
    → ((number : ℕ) → after number ≡ cond (has_number number file.members) None (found number))
    → IsOwned (without_file name files) after
owned-removed files found after name file is there says = record {
  owned = λ other another number owns. owned other another number owns (named-without name other files another owns.there);
  within = λ other another found_there. is.within other another (named-without name other files another found_there).0;
}
  where
    owned : (other : List ℕ) (another : FileState) (number : ℕ) → Owns (without_file name files) other another number
        → (named other files ≡ Some another) × (same_name name other ≡ false) → after number ≡ Some other
    owned other another number owns at =
        says number ∙
        elim (has_number number file.members) as (λ b. has_number number file.members ≡ b → cond b None (found number) ≡ Some other) [
          | true ↦ λ has.
              let mine : found number ≡ Some name = is.owned name file number (record { there = there; has = has }) in
              let its : found number ≡ Some other = is.owned other another number (record { there = at.0; has = owns.has }) in
              let same : name ≡ other = some-equal (sym mine ∙ its) in
              let self : same_name name other ≡ true = ap (same_name name) (sym same) ∙ same_name-self name in
              absurd cc
          | false ↦ λ lacks. is.owned other another number (record { there = at.0; has = owns.has })
        ] refl

-- ---- a file changed

file_changed-others : (name : List ℕ) (change : FileState → FileState) (files : Named FileState) → AllByRecursion (λ other. same_name name other ≡ false) (keys_of files)
    → file_changed name change files ≡ files
file_changed-others name change [] all = refl
file_changed-others name change (entry ∷ files) all = rw all.0 (ap (λ (rest : Named FileState). entry ∷ rest) (file_changed-others name change files all.1))

pub set_value-file_changed : (name : List ℕ) (change : FileState → FileState) (file : FileState) (files : Named FileState) → IsDistinct same_name (keys_of files)
    → named name files ≡ Some file → set_value (same_name name) files (change file) ≡ file_changed name change files
unfolding IsDistinct
set_value-file_changed name change file [] distinct there = refl
set_value-file_changed name change file (entry ∷ files) distinct there =
    elim (same_name name entry.0) as (λ b. same_name name entry.0 ≡ b → cond b (Some entry.1) (named name files) ≡ Some file
    → cond b ((entry.0, change file) ∷ files) (entry ∷ set_value (same_name name) files (change file)) ≡ (entry.0, cond b (change entry.1) entry.1) ∷ file_changed name change files) [
      | true ↦ λ same e. λ i. (entry.0, change (some-equal (sym e) i)) ∷ sym
          (file_changed-others name change files (subst (λ (n : List ℕ). AllByRecursion (λ other. same_name n other ≡ false) (keys_of files)) (sym (same_name-equal name entry.0 same)) distinct.0)) i
      | false ↦ λ differ e. ap (λ (rest : Named FileState). entry ∷ rest) (set_value-file_changed name change file files distinct.1 e)
    ] refl there

some-cond : (b : Bool) (change : FileState → FileState) (file : FileState) → Some (cond b (change file) file) ≡ cond b (Some (change file)) (Some file)
some-cond true change file = refl
some-cond false change file = refl

nothing-cond : (b : Bool) (nothing : Option FileState) → cond b nothing nothing ≡ nothing
nothing-cond true nothing = refl
nothing-cond false nothing = refl

pub named-file_changed : (name other : List ℕ) (change : FileState → FileState) (files : Named FileState)
    → named other (file_changed name change files) ≡ cond (same_name name other) (option_map change (named other files)) (named other files)
named-file_changed name other change [] = sym (nothing-cond (same_name name other) None)
named-file_changed name other change (entry ∷ files) =
    elim (same_name other entry.0) as (λ b. same_name other entry.0 ≡ b
    → cond b (Some (cond (same_name name entry.0) (change entry.1) entry.1)) (named other (file_changed name change files))
    ≡ cond (same_name name other) (option_map change (cond b (Some entry.1) (named other files))) (cond b (Some entry.1) (named other files))) [
      | true ↦ λ same. ap (λ n. Some (cond (same_name name n) (change entry.1) entry.1)) (sym (same_name-equal other entry.0 same)) ∙ some-cond (same_name name other) change entry.1
      | false ↦ λ differ. named-file_changed name other change files
    ] refl

-- what was changed was there before
pub changed-from : (change : FileState → FileState) (o : Option FileState) (another : FileState) → option_map change o ≡ Some another → (file : FileState) × (o ≡ Some file) × (change file ≡ another)
changed-from change None another e = absurd cc
changed-from change (Some file) another e = (file, refl, some-equal e)

-- ---- a member more

pub owned-member_added : (files : Named FileState) (found after : ℕ → Option (List ℕ)) (name member : List ℕ) (new : ℕ)
    → IsOwned files found
    → status_among new files ≡ None
    → ((number : ℕ) → after number ≡ cond (nat_eq new number) (Some name) (found number))
    → IsOwned (file_changed name (with_member_name member new) files) after
owned-member_added files found after name member new is fresh says = record {
  owned = λ other another number owns. owned other another number owns.has (split other another owns.there);
  within = λ other another there. within other another (split other another there);
}
  where
    split : (other : List ℕ) (another : FileState) → named other (file_changed name (with_member_name member new) files) ≡ Some another
        → ((same_name name other ≡ true) × (file : FileState) × (named other files ≡ Some file) × (with_member_name member new file ≡ another)) ⊎ (named other files ≡ Some another)
    split other another there =
        elim (same_name name other) as (λ b. same_name name other ≡ b
        → cond b (option_map (with_member_name member new) (named other files)) (named other files) ≡ Some another
        → ((same_name name other ≡ true) × (file : FileState) × (named other files ≡ Some file) × (with_member_name member new file ≡ another)) ⊎ (named other files ≡ Some another)) [
          | true ↦ λ same e. let was = changed-from (with_member_name member new) (named other files) another e in inl (same, was.0, was.1, was.2)
          | false ↦ λ differ e. inr e
        ] refl (sym (named-file_changed name other (with_member_name member new) files) ∙ there)

    old : (other : List ℕ) (another : FileState) (number : ℕ) → Owns files other another number → after number ≡ Some other
    old other another number owns =
        says number ∙
        elim (nat_eq new number) as (λ b. nat_eq new number ≡ b → cond b (Some name) (found number) ≡ Some other) [
          | true ↦ λ same. absurd (status-unowned new files fresh other another (subst (λ n. Owns files other another n) (sym (eqb-true new number same)) owns))
          | false ↦ λ differ. is.owned other another number owns
        ] refl

    grown : (other : List ℕ) (another : FileState) (number : ℕ) → has_number number another.members ≡ true → same_name name other ≡ true → (file : FileState)
        → named other files ≡ Some file → with_member_name member new file ≡ another → after number ≡ Some other
    grown other another number has same file there e =
        elim (has_number number file.members) as (λ b. has_number number file.members ≡ b → (b || nat_eq new number) ≡ true → after number ≡ Some other) [
          | true ↦ λ f g. old other file number (record { there = there; has = f })
          | false ↦ λ f g. says number ∙ ap (λ b. cond b (Some name) (found number)) g ∙ ap Some (same_name-equal name other same)
        ] refl (sym (has_number-push number file.members member new) ∙ ap (λ (x : FileState). has_number number x.members) e ∙ has)

    owned : (other : List ℕ) (another : FileState) (number : ℕ) → has_number number another.members ≡ true
        → ((same_name name other ≡ true) × (file : FileState) × (named other files ≡ Some file) × (with_member_name member new file ≡ another))
        ⊎ (named other files ≡ Some another) → after number ≡ Some other
    owned other another number has (inl at) = grown other another number has at.0 at.1 at.2 at.3
    owned other another number has (inr there) = old other another number (record { there = there; has = has })

    lacks : (other : List ℕ) (file : FileState) → named other files ≡ Some file → has_number new file.members ≡ false
    lacks other file there =
        elim (has_number new file.members) as (λ b. has_number new file.members ≡ b → b ≡ false) [
          | true ↦ λ has. absurd (status-unowned new files fresh other file (record { there = there; has = has }))
          | false ↦ λ f. refl
        ] refl

    within : (other : List ℕ) (another : FileState) → ((same_name name other ≡ true) × (file : FileState) × (named other files ≡ Some file)
        × (with_member_name member new file ≡ another)) ⊎ (named other files ≡ Some another) → IsDistinct nat_eq (numbers_of another.members)
    within other another (inl at) = subst (λ (x : FileState). IsDistinct nat_eq (numbers_of x.members)) at.3 (distinct-push at.1.members member new (lacks other at.1 at.2) (is.within other at.1 at.2))
    within other another (inr there) = is.within other another there

-- ---- a status changed

-- the files with a change of each
abbrev pub each_changed : (FileState → FileState) → Named FileState → Named FileState
each_changed change files = map (λ entry. (entry.0, change entry.1)) files

pub named-each_changed : (name : List ℕ) (change : FileState → FileState) (files : Named FileState) → named name (each_changed change files) ≡ option_map change (named name files)
named-each_changed name change [] = refl
named-each_changed name change (entry ∷ files) =
    elim (same_name name entry.0) as (λ b. cond b (Some (change entry.1)) (named name (each_changed change files)) ≡ option_map change (cond b (Some entry.1) (named name files))) [
      | true ↦ refl
      | false ↦ named-each_changed name change files
    ]

pub status_changed-absent : (number : ℕ) (change : MemberStatus → MemberStatus) (file : FileState) → has_number number file.members ≡ false → status_changed number change file ≡ file
status_changed-absent number change file absent = ap (λ (m : Named MemberStatus). record file { members = m }) (changed_in-absent number change file.members absent)

-- a member without an owner isn't changed
pub each_changed-no_owner : (number : ℕ) (change : MemberStatus → MemberStatus) (files : Named FileState) → owner number files ≡ None → each_changed (status_changed number change) files ≡ files
each_changed-no_owner number change [] none = refl
each_changed-no_owner number change (entry ∷ files) none =
    elim (has_number number entry.1.members) as (λ b. has_number number entry.1.members ≡ b → cond b (Some entry.0) (owner number files) ≡ None
    → (entry.0, status_changed number change entry.1) ∷ each_changed (status_changed number change) files ≡ entry ∷ files) [
      | true ↦ λ has e. absurd cc
      | false ↦ λ lacks e. λ i. (entry.0, status_changed-absent number change entry.1 lacks i) ∷ each_changed-no_owner number change files e i
    ] refl none

each_changed-unowned : (number : ℕ) (change : MemberStatus → MemberStatus) (files : Named FileState) → IsDistinct same_name (keys_of files) → Unowned files number
    → each_changed (status_changed number change) files ≡ files
unfolding IsDistinct
each_changed-unowned number change [] distinct none = refl
each_changed-unowned number change (entry ∷ files) distinct none =
    elim (has_number number entry.1.members) as (λ b. has_number number entry.1.members ≡ b
    → (entry.0, status_changed number change entry.1) ∷ each_changed (status_changed number change) files ≡ entry ∷ files) [
      | true ↦ λ has. absurd (none entry.0 entry.1 (owns-first entry files number has))
      | false ↦ λ lacks. λ i. (entry.0, status_changed-absent number change entry.1 lacks i) ∷ each_changed-unowned number change files distinct.1
          (λ name file owns. none name file (owns-behind distinct.0 owns)) i
    ] refl

-- where the first is the only owner, nobody behind it is
pub behind-first : (number : ℕ) (entry : List ℕ × FileState) (files : Named FileState) → AllByRecursion (λ other. same_name entry.0 other ≡ false) (keys_of files)
    → IsOnly (entry ∷ files) number entry.0 → Unowned files number
behind-first number entry files all only name file owns =
    let same : entry.0 ≡ name = only name file (owns-behind all owns) in
    let differ : same_name name entry.0 ≡ false = first_differs entry.0 name files file all owns.there in
    let self : same_name name entry.0 ≡ true = ap (same_name name) same ∙ same_name-self name in
    absurd cc

pub set_value-each_changed : (number : ℕ) (change : MemberStatus → MemberStatus) (name : List ℕ) (file : FileState) (files : Named FileState)
    → IsDistinct same_name (keys_of files) → named name files ≡ Some file → IsOnly files number name
    → set_value (same_name name) files (status_changed number change file) ≡ each_changed (status_changed number change) files
unfolding IsDistinct
set_value-each_changed number change name file [] distinct there only = refl
set_value-each_changed number change name file (entry ∷ files) distinct there only =
    elim (same_name name entry.0) as (λ b. same_name name entry.0 ≡ b → cond b (Some entry.1) (named name files) ≡ Some file
    → cond b ((entry.0, status_changed number change file) ∷ files) (entry ∷ set_value (same_name name) files (status_changed number change file))
    ≡ (entry.0, status_changed number change entry.1) ∷ each_changed (status_changed number change) files) [
      | true ↦ λ same e. λ i. (entry.0, status_changed number change (some-equal (sym e) i)) ∷ sym
          (each_changed-unowned number change files distinct.1
          (behind-first number entry files distinct.0 (subst (λ (n : List ℕ). IsOnly (entry ∷ files) number n) (same_name-equal name entry.0 same) only))) i
      | false ↦ λ differ e. λ i. (
        entry.0,
        sym (status_changed-absent number change entry.1
            (lacks differ)) i,
      ) ∷ set_value-each_changed number change name file files distinct.1 e (λ other another o. only other another (owns-behind distinct.0 o)) i
    ] refl there
  where
    lacks : same_name name entry.0 ≡ false → has_number number entry.1.members ≡ false
    lacks differ =
        elim (has_number number entry.1.members) as (λ b. has_number number entry.1.members ≡ b → b ≡ false) [
          | true ↦ λ has. let same : name ≡ entry.0 = only entry.0 entry.1 (owns-first entry files number has) in let self : same_name name entry.0
              ≡ true = ap (same_name name) (sym same) ∙ same_name-self name in absurd cc
          | false ↦ λ f. refl
        ] refl

pub owned-each_changed : (number : ℕ) (change : MemberStatus → MemberStatus) (files : Named FileState) (found : ℕ → Option (List ℕ))
    → ((status : MemberStatus) → (change status).number ≡ status.number) → IsOwned files found → IsOwned (each_changed (status_changed number change) files) found
owned-each_changed number change files found keeps is = record {
  owned = λ other another n owns. let at = before other another owns.there in is.owned other at.0 n
      (record { there = at.1; has = sym (has_number-changed_in n number change at.0.members keeps) ∙ ap (λ (x : FileState). has_number n x.members) at.2 ∙ owns.has });
  within = λ other another there. let at = before other another there in subst (λ (ns : List ℕ). IsDistinct nat_eq ns)
      (sym (changed_in-numbers number change at.0.members keeps) ∙ ap (λ (x : FileState). numbers_of x.members) at.2) (is.within other at.0 at.1);
}
  where
    before : (other : List ℕ) (another : FileState) → named other (each_changed (status_changed number change) files) ≡ Some another
        → (file : FileState) × (named other files ≡ Some file) × (status_changed number change file ≡ another)
    before other another there = changed-from (status_changed number change) (named other files) another (sym (named-each_changed other (status_changed number change) files) ∙ there)

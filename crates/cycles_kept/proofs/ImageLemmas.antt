-- Which images the journal keeps of a member, after files and their members' statuses have changed.
use Rattle.std.proofs.Common.{◌≡◌, ◌≢◌, ◌∙◌, ℕ, ◌==◌, ◌||◌, if◌then◌else◌, nat_eq, true, false, cond, not, List, [], ◌∷◌, ◌++◌, map, Option, Some, None, is_some, IsSome, subst, refl, sym, ap, arith, rules}
use Rattle.std.specs.List.{AllByRecursion, IsDistinct, find}
use Rattle.std.specs.Map.{keys_of}
use Rattle.std.specs.Option.{option_map, option_and_then}
use Rattle.std.proofs.lemmas.Bool.{eqb-true}
use Rattle.std.proofs.lemmas.Bool.Decides.{nat_tests}
use Rattle.entry_codec.specs.declared.kinds.Images.{Images}
use Rattle.joint_state.specs.Owners.{has_number, numbers_of, Owns, AreApart}
use Rattle.joint_state.proofs.NameLemmas.{same_name-equal, some-equal}
use Rattle.joint_state.proofs.OwnerLemmas.{owner-status}
use Rattle.joint_state.proofs.StatusLemmas.{has_number-cons}
use Rattle.library_model.specs.Named.{Named, named, same_name}
use Rattle.library_steps.specs.State.{FileState, MemberStatus, status_changed}
use Rattle.library_steps.specs.CreatePhysicalFile.{new_status}
use Rattle.library_steps.specs.DeleteFile.{without_file}
use Rattle.library_steps.specs.SlotChange.{status_in, status_among}

-- the images of the member with this number in these files
abbrev pub images_in : ℕ → Named FileState → Option Images
images_in number files = option_and_then (λ (status : MemberStatus). status.images) (status_among number files)

-- ---- a status changed

abbrev changed_at : ℕ → (MemberStatus → MemberStatus) → MemberStatus → MemberStatus
changed_at number change status = if status.number == number then change status else status

module _ (number : ℕ) (change : MemberStatus → MemberStatus) (keeps : (status : MemberStatus) → (change status).number ≡ status.number) where
  changed-number : (status : MemberStatus) → (changed_at number change status).number ≡ status.number
  changed-number status =
      elim (status.number == number) as (λ b. (if b then change status else status).number ≡ status.number) [
        | true ↦ keeps status
        | false ↦ refl
      ]

  status_in-changed : (other : ℕ) (members : Named MemberStatus)
      → status_in other (map (λ entry. (entry.0, changed_at number change entry.1)) members) ≡ option_map (changed_at number change) (status_in other members)
  status_in-changed other [] = refl
  status_in-changed other (entry ∷ members) =
      ap (λ (n : ℕ). option_map (λ (e : List ℕ × MemberStatus). e.1) (cond (n == other) (Some (entry.0, changed_at number change entry.1))
      (find (λ (e : List ℕ × MemberStatus). e.1.number == other) (map (λ e. (e.0, changed_at number change e.1)) members)))) (changed-number entry.1)
      ∙ elim (entry.1.number == other) as (λ b. option_map (λ (e : List ℕ × MemberStatus). e.1) (cond b (Some (entry.0, changed_at number change entry.1))
      (find (λ (e : List ℕ × MemberStatus). e.1.number == other) (map (λ e. (e.0, changed_at number change e.1)) members)))
      ≡ option_map (changed_at number change) (option_map (λ (e : List ℕ × MemberStatus). e.1) (cond b (Some entry) (find (λ (e : List ℕ × MemberStatus). e.1.number == other) members)))) [
        | true ↦ refl
        | false ↦ status_in-changed other members
      ]

  either-changed : (here rest : Option MemberStatus)
      → (if is_some (option_map (changed_at number change) here) then option_map (changed_at number change) here else option_map (changed_at number change) rest)
      ≡ option_map (changed_at number change) (if is_some here then here else rest)
  either-changed None rest = refl
  either-changed (Some status) rest = refl

  status_among-changed : (other : ℕ) (files : Named FileState)
      → status_among other (map (λ entry. (entry.0, status_changed number change entry.1)) files) ≡ option_map (changed_at number change) (status_among other files)
  status_among-changed other [] = refl
  status_among-changed other (entry ∷ files) =
      (λ i. if is_some (status_in-changed other entry.1.members i) then status_in-changed other entry.1.members i else status_among-changed other files i)
      ∙ either-changed (status_in other entry.1.members) (status_among other files)

-- what is found by a number has it
found-in : (number : ℕ) (members : Named MemberStatus) (status : MemberStatus) → status_in number members ≡ Some status → status.number ≡ number
found-in number [] status found = absurd cc
found-in number (entry ∷ members) status found =
    elim (entry.1.number == number) as (λ b. (entry.1.number == number) ≡ b
    → option_map (λ (e : List ℕ × MemberStatus). e.1) (cond b (Some entry) (find (λ (e : List ℕ × MemberStatus). e.1.number == number) members)) ≡ Some status → status.number ≡ number) [
      | true ↦ λ same e. ap (λ (st : MemberStatus). st.number) (sym (some-equal e)) ∙ eqb-true entry.1.number number same
      | false ↦ λ differ e. found-in number members status e
    ] refl found

found-among : (number : ℕ) (files : Named FileState) (status : MemberStatus) → status_among number files ≡ Some status → status.number ≡ number
found-among number [] status found = absurd cc
found-among number (entry ∷ files) status found =
    elim (is_some (status_in number entry.1.members)) as (λ b. (if b then status_in number entry.1.members else status_among number files) ≡ Some status → status.number ≡ number) [
      | true ↦ λ e. found-in number entry.1.members status e
      | false ↦ λ e. found-among number files status e
    ] found

-- images stay where the change of the status leaves some
pub images-changed : (other number : ℕ) (change : MemberStatus → MemberStatus) (files : Named FileState) → ((status : MemberStatus) → (change status).number ≡ status.number)
    → (other ≡ number → (status : MemberStatus) → IsSome status.images → IsSome (change status).images) → IsSome (images_in other files)
    → IsSome (images_in other (map (λ entry. (entry.0, status_changed number change entry.1)) files))
images-changed other number change files keeps stay some =
    subst (λ (o : Option MemberStatus). IsSome (option_and_then (λ (status : MemberStatus). status.images) o)) (sym (status_among-changed number change keeps other files))
    (by (status_among other files) (found-among other files) some)
  where
    by : (o : Option MemberStatus) → ((status : MemberStatus) → o ≡ Some status → status.number ≡ other) → IsSome (option_and_then (λ (status : MemberStatus). status.images) o)
        → IsSome (option_and_then (λ (status : MemberStatus). status.images) (option_map (λ (status : MemberStatus). if status.number == number then change status else status) o))
    by None found h = h
    by (Some status) found h =
        elim (status.number == number) as (λ b. (status.number == number) ≡ b → IsSome (if b then change status else status).images) [
          | true ↦ λ same. stay (sym (found status refl) ∙ eqb-true status.number number same) status h
          | false ↦ λ differ. h
        ] refl

-- ---- files changed that keep the member's status

pub among-map : (other : ℕ) (change : List ℕ × FileState → FileState) (files : Named FileState)
    → ((entry : List ℕ × FileState) → status_in other (change entry).members ≡ status_in other entry.1.members)
    → status_among other (map (λ entry. (entry.0, change entry)) files) ≡ status_among other files
among-map other change [] same = refl
among-map other change (entry ∷ files) same = λ i. if is_some (same entry i) then same entry i else among-map other change files same i

pub status_in-push : (other new : ℕ) (name : List ℕ) (members : Named MemberStatus) → other ≢ new → status_in other (members ++ (name, new_status new) ∷ []) ≡ status_in other members
status_in-push other new name [] differ = let apart : (new == other) ≡ false = grind (arith, nat_tests, differ) in rw apart refl
status_in-push other new name (entry ∷ members) differ =
    elim (entry.1.number == other) as (λ b. option_map (λ (e : List ℕ × MemberStatus). e.1)
    (cond b (Some entry) (find (λ (e : List ℕ × MemberStatus). e.1.number == other) (members ++ (name, new_status new) ∷ [])))
    ≡ option_map (λ (e : List ℕ × MemberStatus). e.1) (cond b (Some entry) (find (λ (e : List ℕ × MemberStatus). e.1.number == other) members))) [
      | true ↦ refl
      | false ↦ status_in-push other new name members differ
    ]

-- one file more
pub images-more : (other : ℕ) (files : Named FileState) (new : List ℕ × FileState) → IsSome (images_in other files) → IsSome (images_in other (files ++ new ∷ []))
images-more other [] new some = absurd (search rules)
images-more other (entry ∷ files) new some =
    elim (is_some (status_in other entry.1.members)) as
    (λ b. IsSome (option_and_then (λ (status : MemberStatus). status.images) (if b then status_in other entry.1.members else status_among other files))
    → IsSome (option_and_then (λ (status : MemberStatus). status.images) (if b then status_in other entry.1.members else status_among other (files ++ new ∷ [])))) [
      | true ↦ λ h. h
      | false ↦ λ h. images-more other files new h
    ] some

-- one file less
without-absent : (gone : List ℕ) (files : Named FileState) → AllByRecursion (λ name. same_name gone name ≡ false) (keys_of files) → without_file gone files ≡ files
without-absent gone [] all = refl
without-absent gone (first ∷ files) all = rw all.0 (ap (λ (rest : Named FileState). first ∷ rest) (without-absent gone files all.1))

pub among-without : (other : ℕ) (gone : List ℕ) (file : FileState) (files : Named FileState) → IsDistinct same_name (keys_of files) → named gone files ≡ Some file
    → has_number other file.members ≡ false
    → status_among other (without_file gone files) ≡ status_among other files
unfolding IsDistinct
among-without other gone file [] distinct found lacks = refl
among-without other gone file (entry ∷ files) distinct found lacks =
    elim (same_name gone entry.0) as (λ b. same_name gone entry.0 ≡ b → cond b (Some entry.1) (named gone files) ≡ Some file
    → status_among other (cond (not b) (entry ∷ without_file gone files) (without_file gone files)) ≡ status_among other (entry ∷ files)) [
      | true ↦ λ same e. here same e
      | false ↦ λ differ e. ap (λ (o : Option MemberStatus). if is_some (status_in other entry.1.members) then status_in other entry.1.members else o)
          (among-without other gone file files distinct.1 e lacks)
    ] refl found
  where
    here : same_name gone entry.0 ≡ true → Some entry.1 ≡ Some file → status_among other (without_file gone files) ≡ status_among other (entry ∷ files)
    here same e =
        let absent : has_number other entry.1.members ≡ false = ap (λ (f : FileState). has_number other f.members) (some-equal e) ∙ lacks in
        let rest : without_file gone files ≡ files = without-absent gone files
        (subst (λ (n : List ℕ). AllByRecursion (λ name. same_name n name ≡ false) (keys_of files)) (sym (same_name-equal gone entry.0 same)) distinct.0) in
        ap (status_among other) rest ∙ sym (ap (λ b. if b then status_in other entry.1.members else status_among other files) absent)

-- ---- a member that is found by its name

differs : (first number : ℕ) (members : Named MemberStatus) → AllByRecursion (λ other. nat_eq first other ≡ false) (numbers_of members) → has_number number members ≡ true
    → (first == number) ≡ false
differs first number [] all has = absurd cc
differs first number (entry ∷ members) all has =
    elim (entry.1.number == number) as (λ b. (entry.1.number == number) ≡ b → (b || has_number number members) ≡ true → (first == number) ≡ false) [
      | true ↦ λ same h. ap (λ n. first == n) (sym (eqb-true entry.1.number number same)) ∙ all.0
      | false ↦ λ differ h. differs first number members all.1 h
    ] refl (sym (has_number-cons number entry members) ∙ has)

named-number : (name : List ℕ) (members : Named MemberStatus) (status : MemberStatus) → named name members ≡ Some status → has_number status.number members ≡ true
named-number name [] status found = absurd cc
named-number name (first ∷ members) status found =
    has_number-cons status.number first members ∙
    elim (same_name name first.0) as (λ b. cond b (Some first.1) (named name members) ≡ Some status → ((first.1.number == status.number) || has_number status.number members) ≡ true) [
      | true ↦ λ here. let e : first.1 ≡ status = cc in subst (λ (other : MemberStatus). ((first.1.number == other.number) || has_number other.number members) ≡ true) e (grind (arith, nat_tests))
      | false ↦ λ later. let rest = named-number name members status later in grind (arith, nat_tests, rest)
    ] found

status-named : (name : List ℕ) (members : Named MemberStatus) (status : MemberStatus) → IsDistinct nat_eq (numbers_of members) → named name members ≡ Some status
    → status_in status.number members ≡ Some status
unfolding IsDistinct
status-named name [] status distinct found = absurd cc
status-named name (entry ∷ members) status distinct found =
    elim (same_name name entry.0) as (λ b. cond b (Some entry.1) (named name members) ≡ Some status → status_in status.number (entry ∷ members) ≡ Some status) [
      | true ↦ λ e.
          let same : entry.1 ≡ status = some-equal e in
          subst (λ (st : MemberStatus). status_in st.number (entry ∷ members) ≡ Some st) same (let self : (entry.1.number == entry.1.number) ≡ true = grind (arith, nat_tests) in rw self refl)
      | false ↦ λ e.
          let apart = differs entry.1.number status.number members distinct.0 (named-number name members status e) in
          rw apart (status-named name members status distinct.1 e)
    ] found

-- the images of a member are those of its status
pub images-named : (file_name member_name : List ℕ) (file : FileState) (status : MemberStatus) (files : Named FileState) → IsDistinct same_name (keys_of files) → AreApart files
    → named file_name files ≡ Some file → named member_name file.members ≡ Some status → images_in status.number files ≡ status.images
images-named file_name member_name file status files distinct apart found there =
    let owns : Owns files file_name file status.number = record { there = found; has = named-number member_name file.members status there } in
    let only = owner-status status.number file_name file files distinct owns (λ other another its. apart.apart file_name other file another status.number owns its) in
    ap (option_and_then (λ (st : MemberStatus). st.images)) (only.0 ∙ status-named member_name file.members status (apart.within file_name file found) there)

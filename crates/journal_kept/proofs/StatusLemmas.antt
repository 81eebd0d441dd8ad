-- Which members are journaled, by the statuses in the files: the status that is found, and what each change of files and statuses leaves.
use Rattle.std.proofs.Common.{◌≡◌, ◌≢◌, ℕ, Bool, true, false, ◌==◌, cond, if◌then◌else◌, not, nat_eq, List, [], ◌∷◌, ◌++◌, map, Option, Some, None, refl, sym, ap, ◌∙◌, subst, arith}
use Rattle.std.specs.List.{AllByRecursion, IsDistinct, find}
use Rattle.std.specs.Option.{is_some, option_map, option_and_then}
use Rattle.std.specs.Map.{keys_of}
use Rattle.std.proofs.lemmas.Bool.{eq-eqb, ne_eqb, eqb-true}
use Rattle.std.proofs.lemmas.Bool.Decides.{nat_tests}
use Rattle.library_model.specs.Named.{Named, named, same_name}
use Rattle.lawful_states.specs.Owners.{Owns, AreApart, has_number, numbers_of, owner}
use Rattle.lawful_states.proofs.OwnerLemmas.{owner-status, owner-owns}
use Rattle.library_steps.specs.State.{FileState, MemberStatus, status_changed}
use Rattle.library_steps.specs.SlotChange.{status_in, status_among}
use Rattle.library_steps.specs.CreatePhysicalFile.{new_status}
use Rattle.library_steps.specs.MemberCommands.{file_changed, with_member_name}
use Rattle.library_steps.specs.DeleteFile.{without_file}
use Rattle.range_histories.specs.Agreed.{is_journaled}
use Rattle.range_histories.proofs.NamedLemmas.{named-has_number}

-- ---- the status that is found

module _ (number : ℕ) where
  named-among : (P : ℕ → Type 0) (name : List ℕ) (members : Named MemberStatus) (status : MemberStatus) → AllByRecursion P (numbers_of members) → named name members ≡ Some status → P status.number
  named-among P name [] status all h = absurd cc
  named-among P name (entry ∷ members) status all h =
      elim (same_name name entry.0) as (λ b. cond b (Some entry.1) (named name members) ≡ Some status → P status.number) [
        | true ↦ λ e. let same : entry.1 ≡ status = cc in subst (λ (s : MemberStatus). P s.number) same all.0
        | false ↦ λ e. named-among P name members status all.1 e
      ] h

status_in-cons : (number : ℕ) (entry : List ℕ × MemberStatus) (members : Named MemberStatus)
    → status_in number (entry ∷ members) ≡ cond (entry.1.number == number) (Some entry.1) (status_in number members)
status_in-cons number entry members =
    elim (entry.1.number == number) as (λ b. option_map (λ (e : List ℕ × MemberStatus). e.1) (cond b (Some entry) (find (λ (e : List ℕ × MemberStatus). e.1.number == number) members))
    ≡ cond b (Some entry.1) (status_in number members)) [ true ↦ refl | false ↦ refl ]

status_in-named : (name : List ℕ) (members : Named MemberStatus) (status : MemberStatus) → IsDistinct nat_eq (numbers_of members) → named name members ≡ Some status
    → status_in status.number members ≡ Some status
unfolding IsDistinct
status_in-named name [] status distinct h = absurd cc
status_in-named name (entry ∷ members) status distinct h =
    status_in-cons status.number entry members
    ∙ elim (same_name name entry.0) as (λ b. cond b (Some entry.1) (named name members) ≡ Some status → cond (entry.1.number == status.number) (Some entry.1)
    (status_in status.number members) ≡ Some status) [
      | true ↦ λ e.
          let same : entry.1 ≡ status = cc in
          ap (λ (b : Bool). cond b (Some entry.1) (status_in status.number members)) (eq-eqb entry.1.number status.number (ap (λ (s : MemberStatus). s.number) same)) ∙ e
      | false ↦ λ e.
          let differs : nat_eq entry.1.number status.number ≡ false = named-among status.number (λ k. nat_eq entry.1.number k ≡ false) name members status distinct.0 e in
          let other : (entry.1.number == status.number) ≡ false = grind (arith, nat_tests) in
          ap (λ (b : Bool). cond b (Some entry.1) (status_in status.number members)) other ∙ status_in-named name members status distinct.1 e
    ] h

-- the status that two names find is the one that the number finds
pub status-found : (files : Named FileState) (file_name member_name : List ℕ) (file : FileState) (status : MemberStatus) → IsDistinct same_name (keys_of files) → AreApart files
    → named file_name files ≡ Some file → named member_name file.members ≡ Some status → status_among status.number files ≡ Some status
status-found files file_name member_name file status names apart there has =
    let owns : Owns files file_name file status.number = record { there = there; has = named-has_number member_name file.members status has } in
    (owner-status status.number file_name file files names owns (λ other another o. apart.apart file_name other file another status.number owns o)).0
    ∙ status_in-named member_name file.members status (apart.within file_name file there) has

pub journaled-found : (files : Named FileState) (file_name member_name : List ℕ) (file : FileState) (status : MemberStatus) → IsDistinct same_name (keys_of files) → AreApart files
    → named file_name files ≡ Some file → named member_name file.members ≡ Some status → is_journaled status.number files ≡ is_some status.images
journaled-found files file_name member_name file status names apart there has =
    ap (λ (o : Option MemberStatus). is_some (option_and_then (λ (s : MemberStatus). s.images) o)) (status-found files file_name member_name file status names apart there has)

-- ---- a journaled member has an owner

some-status : (o : Option MemberStatus) → is_some (option_and_then (λ (s : MemberStatus). s.images) o) ≡ true → is_some o ≡ true
some-status None h = absurd cc
some-status (Some status) h = refl

status-owner : (number : ℕ) (files : Named FileState) → is_some (status_among number files) ≡ is_some (owner number files)
status-owner number [] = refl
status-owner number (entry ∷ files) = at (status_in number entry.1.members) (status-owner number files) where
  at : (o : Option MemberStatus) → is_some (status_among number files) ≡ is_some (owner number files)
      → is_some (cond (is_some o) o (status_among number files)) ≡ is_some (cond (is_some o) (Some entry.0) (owner number files))
  at None more = more
  at (Some status) more = refl

some-name : (o : Option (List ℕ)) → is_some o ≡ true → (name : List ℕ) × (o ≡ Some name)
some-name None h = absurd cc
some-name (Some name) h = (name, refl)

pub journaled-owned : (number : ℕ) (files : Named FileState) → IsDistinct same_name (keys_of files) → is_journaled number files ≡ true
    → (name : List ℕ) × (file : FileState) × Owns files name file number
journaled-owned number files names on =
    let it = some-name (owner number files) (sym (status-owner number files) ∙ some-status (status_among number files) on) in
    let owns = owner-owns number it.0 files names it.1 in
    (it.0, owns.0, owns.1)

-- ---- statuses changed

module _ (f : MemberStatus → MemberStatus) (keeps : (status : MemberStatus) → (f status).number ≡ status.number) where
  status_in-map : (number : ℕ) (members : Named MemberStatus) → status_in number (map (λ (e : List ℕ × MemberStatus). (e.0, f e.1)) members) ≡ option_map f (status_in number members)
  status_in-map number [] = refl
  status_in-map number (entry ∷ members) =
      status_in-cons number (entry.0, f entry.1) (map (λ (e : List ℕ × MemberStatus). (e.0, f e.1)) members)
      ∙ (λ i. cond (keeps entry.1 i == number) (Some (f entry.1)) (status_in-map number members i))
      ∙ at (entry.1.number == number)
      ∙ ap (option_map f) (sym (status_in-cons number entry members))
    where
      at : (b : Bool) → cond b (Some (f entry.1)) (option_map f (status_in number members)) ≡ option_map f (cond b (Some entry.1) (status_in number members))
      at true = refl
      at false = refl

chosen : (f : MemberStatus → MemberStatus) (x y : Option MemberStatus) (r s : Option MemberStatus) → x ≡ option_map f y → r ≡ option_map f s
    → cond (is_some x) x r ≡ option_map f (cond (is_some y) y s)
chosen f x None r s e g = ap (λ (o : Option MemberStatus). cond (is_some o) o r) e ∙ g
chosen f x (Some status) r s e g = ap (λ (o : Option MemberStatus). cond (is_some o) o r) e

-- the change of one member's status, of whichever status it is asked
abbrev pub change_at : ℕ → (MemberStatus → MemberStatus) → MemberStatus → MemberStatus
change_at number change status = if status.number == number then change status else status

abbrev pub all_changed : ℕ → (MemberStatus → MemberStatus) → Named FileState → Named FileState
all_changed number change files = map (λ entry. (entry.0, status_changed number change entry.1)) files

module _ (number : ℕ) (change : MemberStatus → MemberStatus) (keeps : (status : MemberStatus) → (change status).number ≡ status.number) where
  change_at-keeps : (status : MemberStatus) → (change_at number change status).number ≡ status.number
  change_at-keeps status = elim (status.number == number) as (λ b. (cond b (change status) status).number ≡ status.number) [ true ↦ keeps status | false ↦ refl ]

  status_among-changed : (n : ℕ) (files : Named FileState) → status_among n (all_changed number change files) ≡ option_map (change_at number change) (status_among n files)
  status_among-changed n [] = refl
  status_among-changed n (entry ∷ files) =
      chosen (change_at number change) (status_in n (status_changed number change entry.1).members) (status_in n entry.1.members) (status_among n (all_changed number change files))
      (status_among n files)
      (status_in-map (change_at number change) change_at-keeps n entry.1.members) (status_among-changed n files)

  -- where images stay, so does which members are journaled
  pub journaled-same : ((status : MemberStatus) → (change status).images ≡ status.images) → (n : ℕ) (files : Named FileState) → is_journaled n (all_changed number change files) ≡ is_journaled n files
  journaled-same images n files =
      ap (λ (o : Option MemberStatus). is_some (option_and_then (λ (s : MemberStatus). s.images) o)) (status_among-changed n files) ∙ at (status_among n files)
    where
      at : (o : Option MemberStatus) → is_some (option_and_then (λ (s : MemberStatus). s.images) (option_map (change_at number change) o)) ≡ is_some
          (option_and_then (λ (s : MemberStatus). s.images) o)
      at None = refl
      at (Some status) = elim (status.number == number) as (λ b. is_some (cond b (change status) status).images ≡ is_some status.images) [ true ↦ ap is_some (images status) | false ↦ refl ]

  -- and of the other members in any case
  pub journaled-others : (n : ℕ) (files : Named FileState) → n ≢ number → is_journaled n (all_changed number change files) ≡ is_journaled n files
  journaled-others n files differs =
      ap (λ (o : Option MemberStatus). is_some (option_and_then (λ (s : MemberStatus). s.images) o)) (status_among-changed n files)
      ∙ at (status_among n files) (λ status e. status_among-number n files status e)
    where
      at : (o : Option MemberStatus) → ((status : MemberStatus) → o ≡ Some status → status.number ≡ n)
          → is_some (option_and_then (λ (s : MemberStatus). s.images) (option_map (change_at number change) o)) ≡ is_some (option_and_then (λ (s : MemberStatus). s.images) o)
      at None own = refl
      at (Some status) own =
          ap (λ (b : Bool). is_some (cond b (change status) status).images) (ne_eqb status.number number (λ e. differs (sym (own status refl) ∙ e)))

      status_in-number : (n : ℕ) (members : Named MemberStatus) (status : MemberStatus) → status_in n members ≡ Some status → status.number ≡ n
      status_in-number n [] status h = absurd cc
      status_in-number n (entry ∷ members) status h = by (entry.1.number == n) refl (sym (status_in-cons n entry members) ∙ h) (λ e. status_in-number n members status e) where
        by : (b : Bool) → (entry.1.number == n) ≡ b → cond b (Some entry.1) (status_in n members) ≡ Some status → (status_in n members ≡ Some status → status.number ≡ n) → status.number ≡ n
        by true own e more = let same : entry.1 ≡ status = cc in sym (ap (λ (s : MemberStatus). s.number) same) ∙ eqb-true entry.1.number n own
        by false own e more = more e

      status_among-number : (n : ℕ) (files : Named FileState) (status : MemberStatus) → status_among n files ≡ Some status → status.number ≡ n
      status_among-number n [] status h = absurd cc
      status_among-number n (entry ∷ files) status h = by (status_in n entry.1.members) refl h (λ e. status_among-number n files status e) where
        by : (o : Option MemberStatus) → status_in n entry.1.members ≡ o → cond (is_some o) o (status_among n files) ≡ Some status → (status_among n files ≡ Some status → status.number ≡ n)
            → status.number ≡ n
        by None at_in e more = more e
        by (Some found) at_in e more = status_in-number n entry.1.members status (at_in ∙ e)

  -- of the member itself, where its status is found
  pub journaled-here : (status : MemberStatus) (files : Named FileState) → status.number ≡ number → status_among number files ≡ Some status
      → is_journaled number (all_changed number change files) ≡ is_some (change status).images
  journaled-here status files own found =
      ap (λ (o : Option MemberStatus). is_some (option_and_then (λ (s : MemberStatus). s.images) o)) (status_among-changed number files)
      ∙ ap (λ (o : Option MemberStatus). is_some (option_and_then (λ (s : MemberStatus). s.images) (option_map (change_at number change) o))) found
      ∙ ap (λ (b : Bool). is_some (cond b (change status) status).images) (eq-eqb status.number number own)

-- ---- files added and gone

unjournaled-new : (n number : ℕ) (name : List ℕ) → is_some (option_and_then (λ (s : MemberStatus). s.images) (status_in n ((name, new_status number) ∷ []))) ≡ false
unjournaled-new n number name =
    ap (λ (o : Option MemberStatus). is_some (option_and_then (λ (s : MemberStatus). s.images) o)) (status_in-cons n (name, new_status number) [])
    ∙ elim (number == n) as (λ b. is_some (option_and_then (λ (s : MemberStatus). s.images) (cond b (Some (new_status number)) None)) ≡ false) [ true ↦ refl | false ↦ refl ]

-- a file with one member, which isn't journaled
pub journaled-added : (n number : ℕ) (name member : List ℕ) (file : FileState) (files : Named FileState) → file.members ≡ (member, new_status number) ∷ []
    → is_journaled n (files ++ (name, file) ∷ []) ≡ is_journaled n files
journaled-added n number name member file [] is =
    ap (λ (ms : Named MemberStatus). is_some (option_and_then (λ (s : MemberStatus). s.images) (cond (is_some (status_in n ms)) (status_in n ms) None))) is
    ∙ at (status_in n ((member, new_status number) ∷ [])) (unjournaled-new n number member)
  where
    at : (o : Option MemberStatus) → is_some (option_and_then (λ (s : MemberStatus). s.images) o) ≡ false → is_some (option_and_then (λ (s : MemberStatus). s.images) (cond (is_some o) o None)) ≡ false
    at None h = refl
    at (Some status) h = h
journaled-added n number name member file (entry ∷ files) is = at (status_in n entry.1.members) (journaled-added n number name member file files is) where
  at : (o : Option MemberStatus) → is_journaled n (files ++ (name, file) ∷ []) ≡ is_journaled n files
      → is_some (option_and_then (λ (s : MemberStatus). s.images) (cond (is_some o) o (status_among n (files ++ (name, file) ∷ []))))
      ≡ is_some (option_and_then (λ (s : MemberStatus). s.images) (cond (is_some o) o (status_among n files)))
  at None more = more
  at (Some status) more = refl

-- a file without members
pub journaled-memberless : (n : ℕ) (name : List ℕ) (file : FileState) (files : Named FileState) → file.members ≡ [] → is_journaled n (files ++ (name, file) ∷ []) ≡ is_journaled n files
journaled-memberless n name file [] is =
    ap (λ (ms : Named MemberStatus). is_some (option_and_then (λ (s : MemberStatus). s.images) (cond (is_some (status_in n ms)) (status_in n ms) None))) is
journaled-memberless n name file (entry ∷ files) is = at (status_in n entry.1.members) (journaled-memberless n name file files is) where
  at : (o : Option MemberStatus) → is_journaled n (files ++ (name, file) ∷ []) ≡ is_journaled n files
      → is_some (option_and_then (λ (s : MemberStatus). s.images) (cond (is_some o) o (status_among n (files ++ (name, file) ∷ []))))
      ≡ is_some (option_and_then (λ (s : MemberStatus). s.images) (cond (is_some o) o (status_among n files)))
  at None more = more
  at (Some status) more = refl

status_in-push : (n number : ℕ) (name : List ℕ) (members : Named MemberStatus) → n ≢ number → status_in n (members ++ (name, new_status number) ∷ []) ≡ status_in n members
status_in-push n number name [] differs =
    status_in-cons n (name, new_status number) [] ∙ ap (λ (b : Bool). cond b (Some (new_status number)) None) (ne_eqb number n (λ e. differs (sym e)))
status_in-push n number name (entry ∷ members) differs =
    status_in-cons n entry (members ++ (name, new_status number) ∷ [])
    ∙ ap (λ (o : Option MemberStatus). cond (entry.1.number == n) (Some entry.1) o) (status_in-push n number name members differs)
    ∙ sym (status_in-cons n entry members)

-- a member more
pub journaled-member_added : (n number : ℕ) (name member : List ℕ) (files : Named FileState) → n ≢ number
    → is_journaled n (file_changed name (with_member_name member number) files) ≡ is_journaled n files
journaled-member_added n number name member files differs = ap (λ (o : Option MemberStatus). is_some (option_and_then (λ (s : MemberStatus). s.images) o)) (each files) where
  each : (files : Named FileState) → status_among n (file_changed name (with_member_name member number) files) ≡ status_among n files
  each [] = refl
  each (entry ∷ files) =
      (λ i. cond (is_some (one i)) (one i) (each files i))
    where
      one : status_in n (if same_name name entry.0 then with_member_name member number entry.1 else entry.1).members ≡ status_in n entry.1.members
      one = elim (same_name name entry.0) as (λ b. status_in n (cond b (with_member_name member number entry.1) entry.1).members ≡ status_in n entry.1.members) [
        | true ↦ status_in-push n number member entry.1.members differs
        | false ↦ refl
      ]

-- the files that go have no member of this number
pub journaled-without : (n : ℕ) (name : List ℕ) (files : Named FileState) → AllByRecursion (λ (entry : List ℕ × FileState). same_name name entry.0 ≡ true → has_number n entry.1.members ≡ false) files
    → is_journaled n (without_file name files) ≡ is_journaled n files
journaled-without n name files lack = ap (λ (o : Option MemberStatus). is_some (option_and_then (λ (s : MemberStatus). s.images) o)) (each files lack) where
  each : (files : Named FileState) → AllByRecursion (λ (entry : List ℕ × FileState). same_name name entry.0 ≡ true → has_number n entry.1.members ≡ false) files
      → status_among n (without_file name files) ≡ status_among n files
  each [] lack = refl
  each (entry ∷ files) lack = at (same_name name entry.0) refl (each files lack.1) where
    at : (b : Bool) → same_name name entry.0 ≡ b → status_among n (without_file name files) ≡ status_among n files
        → status_among n (cond (not b) (entry ∷ without_file name files) (without_file name files)) ≡ status_among n (entry ∷ files)
    at true e more = more ∙ sym (ap (λ (b : Bool). cond b (status_in n entry.1.members) (status_among n files)) (lack.0 e))
    at false e more = ap (λ (o : Option MemberStatus). cond (is_some (status_in n entry.1.members)) (status_in n entry.1.members) o) more

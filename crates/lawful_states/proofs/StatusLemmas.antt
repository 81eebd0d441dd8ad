-- What a file's members find by a number, with one member more and with a status changed.
use Rattle.std.proofs.Common.{◌≡◌, ℕ, Bool, true, false, cond, ◌||◌, ◌==◌, nat_eq, List, [], ◌∷◌, ◌++◌, Some, None, refl, sym, ◌∙◌, ap, map, if◌then◌else◌}
use Rattle.std.specs.List.{AllByRecursion, IsDistinct, find}
use Rattle.std.specs.Option.{is_some, option_map}
use Rattle.library_steps.specs.Named.{Named}
use Rattle.library_steps.specs.State.{MemberStatus}
use Rattle.library_steps.specs.CreatePhysicalFile.{new_status}
use Rattle.library_steps.specs.MemberCommands.{renumbered}
use Rattle.lawful_states.specs.Statuses.{after}
use Rattle.lawful_states.specs.declared.changes.StatusChange.{StatusChange}
use Rattle.lawful_states.specs.declared.changes.StatusChange.TheVariants.{Touched, Renumbered, Journaled, Unjournaled}
use Rattle.lawful_states.specs.Owners.{has_number, numbers_of}

renumbered-number : (sequence : ℕ) (status : MemberStatus) → (renumbered sequence status).number ≡ status.number
renumbered-number sequence status =
    elim (is_some status.images) as (λ b. (cond b (record status { last_break = sequence }) (record status { changed = true })).number ≡ status.number) [
      | true ↦ refl
      | false ↦ refl
    ]

pub after-number : (change : StatusChange) (status : MemberStatus) → (after change status).number ≡ status.number
after-number Touched status = refl
after-number (Renumbered sequence) status = renumbered-number sequence status
after-number (Journaled sequence images) status = refl
after-number (Unjournaled sequence records) status = refl

or_assoc : (a b c : Bool) → ((a || b) || c) ≡ (a || (b || c))
or_assoc true b c = refl
or_assoc false b c = refl

-- the members with a status changed
abbrev pub changed_in : ℕ → (MemberStatus → MemberStatus) → Named MemberStatus → Named MemberStatus
changed_in number change members = map (λ entry. (entry.0, if entry.1.number == number then change entry.1 else entry.1)) members

-- whether a number is there, by recursion
pub has_number-cons : (number : ℕ) (entry : List ℕ × MemberStatus) (members : Named MemberStatus) → has_number number (entry ∷ members) ≡ ((entry.1.number == number) || has_number number members)
has_number-cons number entry members =
    elim (entry.1.number == number) as (λ b. is_some (option_map (λ (e : List ℕ
    × MemberStatus). e.1) (cond b (Some entry) (find (λ (e : List ℕ × MemberStatus). e.1.number == number) members))) ≡ (b || has_number number members)) [
      | true ↦ refl
      | false ↦ refl
    ]

pub changed_in-absent : (number : ℕ) (change : MemberStatus → MemberStatus) (members : Named MemberStatus) → has_number number members ≡ false → changed_in number change members ≡ members
changed_in-absent number change [] absent = refl
changed_in-absent number change (entry ∷ members) absent =
    elim (entry.1.number == number) as (λ b. (b || has_number number members) ≡ false → (entry.0, cond b (change entry.1) entry.1) ∷ changed_in number change members ≡ entry ∷ members) [
      | true ↦ λ e. absurd cc
      | false ↦ λ e. ap (λ (rest : Named MemberStatus). entry ∷ rest) (changed_in-absent number change members e)
    ] (sym (has_number-cons number entry members) ∙ absent)

pub changed_in-numbers : (number : ℕ) (change : MemberStatus → MemberStatus) (members : Named MemberStatus)
    → ((status : MemberStatus) → (change status).number ≡ status.number) → numbers_of (changed_in number change members) ≡ numbers_of members
changed_in-numbers number change [] keeps = refl
changed_in-numbers number change (entry ∷ members) keeps =
    elim (entry.1.number == number) as (λ b. (cond b (change entry.1) entry.1).number ∷ numbers_of (changed_in number change members) ≡ entry.1.number ∷ numbers_of members) [
      | true ↦ λ i. keeps entry.1 i ∷ changed_in-numbers number change members keeps i
      | false ↦ λ i. entry.1.number ∷ changed_in-numbers number change members keeps i
    ]

-- whether a number is there is seen from the numbers alone
pub has_number-changed_in : (other number : ℕ) (change : MemberStatus → MemberStatus) (members : Named MemberStatus)
    → ((status : MemberStatus) → (change status).number ≡ status.number) → has_number other (changed_in number change members) ≡ has_number other members
has_number-changed_in other number change [] keeps = refl
has_number-changed_in other number change (entry ∷ members) keeps =
    elim (entry.1.number == number) as (λ b. has_number other ((entry.0, cond b (change entry.1) entry.1) ∷ changed_in number change members) ≡ has_number other (entry ∷ members)) [
      | true ↦ has_number-cons other (entry.0, change entry.1) (changed_in number change members)
          ∙ (λ i. (keeps entry.1 i == other) || has_number-changed_in other number change members keeps i) ∙ sym (has_number-cons other entry members)
      | false ↦ has_number-cons other entry (changed_in number change members)
          ∙ (λ i. (entry.1.number == other) || has_number-changed_in other number change members keeps i) ∙ sym (has_number-cons other entry members)
    ]

pub has_number-push : (number : ℕ) (members : Named MemberStatus) (name : List ℕ) (new : ℕ)
    → has_number number (members ++ (name, new_status new) ∷ []) ≡ (has_number number members || (new == number))
has_number-push number [] name new =
    elim (new == number) as (λ b. is_some (option_map (λ (e : List ℕ × MemberStatus). e.1) (cond b (Some (name, new_status new)) None)) ≡ b) [
      | true ↦ refl
      | false ↦ refl
    ]
has_number-push number (entry ∷ members) name new =
    has_number-cons number entry (members ++ (name, new_status new) ∷ []) ∙ ap (λ b. (entry.1.number == number) || b) (has_number-push number members name new)
    ∙ sym (or_assoc (entry.1.number == number) (has_number number members) (new == number)) ∙ ap (λ b. b || (new == number)) (sym (has_number-cons number entry members))

differs-push : (number new : ℕ) (name : List ℕ) (members : Named MemberStatus) → nat_eq number new ≡ false
    → AllByRecursion (λ other. nat_eq number other ≡ false) (numbers_of members) → AllByRecursion (λ other. nat_eq number other ≡ false) (numbers_of (members ++ (name, new_status new) ∷ []))
differs-push number new name [] differ all = (differ, tt)
differs-push number new name (entry ∷ members) differ all = (all.0, differs-push number new name members differ all.1)

pub distinct-push : (members : Named MemberStatus) (name : List ℕ) (new : ℕ) → has_number new members ≡ false → IsDistinct nat_eq (numbers_of members)
    → IsDistinct nat_eq (numbers_of (members ++ (name, new_status new) ∷ []))
unfolding IsDistinct
distinct-push [] name new absent distinct = (tt, tt)
distinct-push (entry ∷ members) name new absent distinct =
    elim (entry.1.number == new) as (λ b. entry.1.number == new ≡ b → (b || has_number new members) ≡ false
    → AllByRecursion (λ other. nat_eq entry.1.number other ≡ false) (numbers_of (members ++ (name, new_status new) ∷ []))
    × IsDistinct nat_eq (numbers_of (members ++ (name, new_status new) ∷ []))) [
      | true ↦ λ same e. absurd cc
      | false ↦ λ differ e. (differs-push entry.1.number new name members differ distinct.0, distinct-push members name new e distinct.1)
    ] refl (sym (has_number-cons new entry members) ∙ absent)

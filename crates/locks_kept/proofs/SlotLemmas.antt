-- What a changed slot leaves of the other records, and of how many places members have.
use Rattle.std.proofs.Common.{◌≡◌, ◌≢◌, ◌⊎◌, inl, inr, ℕ, zero, suc, ◌+◌, ◌-◌, ◌≤◌, ◌<◌, ◌==◌, if◌then◌else◌, true, false, IsSome, List, [], ◌∷◌, ◌++◌, length, slice_get, slice_set, Option, Some, None, is_some, unwrap_or, refl, sym, ◌∙◌, ap, subst, arith}
use Rattle.std.proofs.lemmas.Bool.{cases_eq}
use Rattle.std.proofs.lemmas.Bool.Decides.{nat_tests}
use Rattle.member_slots.specs.declared.slot.Slot.{Slot}
use Rattle.member_slots.specs.declared.slot.Slot.TheVariants.{Live, Deleted}
use Rattle.member_slots.specs.Member.{MemberState, empty_member, appended, changed, slot_at}
use Rattle.member_slots.specs.Members.{Numbered, NumberedMembers, item_at, with_item, member_at, member_of, with_member}
use Rattle.journal_model.specs.Replay.{before_of}
use Rattle.journal_model.specs.Rollback.{MemberChange}
use Rattle.library_steps.specs.State.{Memory}
use Rattle.library_steps.specs.Records.{record_in, live_record}
use Rattle.library_steps.specs.SlotChange.{slot_put, with_slot}
use Rattle.library_steps.specs.Commitment.{taken_back}
use Rattle.joint_state.proofs.MemberLemmas.{item_at-with_item_other, item_at-with_item_same, length-changed, length-push}
use Rattle.locks_kept.proofs.Effects.{slots_of}
use Rattle.locks_kept.proofs.OptionLemmas.{nothing-there}

-- ---- lists

get-set_other : {X : Type 0} (xs : List X) (place other : ℕ) (x : X) → other ≢ place → slice_get (slice_set xs place x) other ≡ slice_get xs other
get-set_other [] place other x differ = refl
get-set_other (y ∷ ys) zero zero x differ = absurd (differ refl)
get-set_other (y ∷ ys) zero (suc other) x differ = refl
get-set_other (y ∷ ys) (suc place) zero x differ = refl
get-set_other (y ∷ ys) (suc place) (suc other) x differ = get-set_other ys place other x (λ same. differ (ap (λ n. suc n) same))

get-set_same : {X : Type 0} (xs : List X) (place : ℕ) (x : X) → place < length xs → slice_get (slice_set xs place x) place ≡ Some x
get-set_same [] place x within = absurd (omega (arith, within))
get-set_same (y ∷ ys) zero x within = refl
get-set_same (y ∷ ys) (suc place) x within = get-set_same ys place x (omega (arith, within))

get-front : {X : Type 0} (xs ys : List X) (place : ℕ) (x : X) → slice_get xs place ≡ Some x → slice_get (xs ++ ys) place ≡ Some x
get-front [] ys place x at = absurd cc
get-front (y ∷ xs) ys zero x at = at
get-front (y ∷ xs) ys (suc place) x at = get-front xs ys place x at

get-within : {X : Type 0} (xs : List X) (place : ℕ) (x : X) → slice_get xs place ≡ Some x → place < length xs
get-within [] place x at = absurd cc
get-within (y ∷ ys) zero x at = omega arith
get-within (y ∷ ys) (suc place) x at = let rest = get-within ys place x at in omega (arith, rest)

-- ---- one member

pub live-within : (member : MemberState) (rrn : ℕ) → IsSome (record_in (slot_at member rrn)) → (1 ≤ rrn) × (rrn ≤ length member.slots)
live-within member rrn live =
    elim (rrn == 0) as (λ b. (rrn == 0) ≡ b → IsSome (record_in (if b then None else slice_get member.slots (rrn - 1))) → (1 ≤ rrn) × (rrn ≤ length member.slots)) [
      | true ↦ λ e h. absurd cc
      | false ↦ λ e h. by (slice_get member.slots (rrn - 1)) refl (grind (arith, nat_tests, e)) h
    ] refl live
  where
    by : (found : Option Slot) → slice_get member.slots (rrn - 1) ≡ found → 1 ≤ rrn → IsSome (record_in found) → (1 ≤ rrn) × (rrn ≤ length member.slots)
    by None is first h = absurd cc
    by (Some slot) is first h = let within = get-within member.slots (rrn - 1) slot is in (first, omega (arith, within, first))

slot-at : (member : MemberState) (rrn : ℕ) → 1 ≤ rrn → slot_at member rrn ≡ slice_get member.slots (rrn - 1)
slot-at member rrn first = let some : (rrn == 0) ≡ false = grind (arith, nat_tests, first) in rw some refl

pub put-longer : (rrn : ℕ) (slot : Slot) (member : MemberState) → length member.slots ≤ length (slot_put rrn slot member).slots
put-longer rrn Deleted member = let same = length-changed member rrn Deleted in omega (arith, same)
put-longer rrn (Live image) member =
    elim (rrn == length member.slots + 1) as (λ b. length member.slots ≤ length (if b then appended member image else changed member rrn (Live image)).slots) [
      | true ↦ (let more = length-push member.slots (Live image) in omega (arith, more))
      | false ↦ (let same = length-changed member rrn (Live image) in omega (arith, same))
    ]

changed-other : (member : MemberState) (rrn other : ℕ) (slot : Slot) → 1 ≤ other → other ≢ rrn → slot_at (changed member rrn slot) other ≡ slot_at member other
changed-other member rrn other slot first differ =
    elim (rrn == 0) as (λ b. (rrn == 0) ≡ b → slot_at (if b then member else record member { slots = slice_set member.slots (rrn - 1) slot }) other ≡ slot_at member other) [
      | true ↦ λ e. refl
      | false ↦ λ e. (
          let some : 1 ≤ rrn = grind (arith, nat_tests, e) in
          let apart : (other - 1) ≢ (rrn - 1) = λ same. differ (omega (arith, same, first, some)) in
          slot-at (record member { slots = slice_set member.slots (rrn - 1) slot }) other first ∙ get-set_other member.slots (rrn - 1) (other - 1) slot apart ∙ sym (slot-at member other first))
    ] refl

-- a record that stands at another place stays
put-other : (rrn other : ℕ) (slot : Slot) (member : MemberState) → other ≢ rrn → IsSome (record_in (slot_at member other)) → IsSome (record_in (slot_at (slot_put rrn slot member) other))
put-other rrn other Deleted member differ live =
    let first = (live-within member other live).0 in subst (λ o. IsSome (record_in o)) (sym (changed-other member rrn other Deleted first differ)) live
put-other rrn other (Live image) member differ live =
    let first = (live-within member other live).0 in
    elim (rrn == length member.slots + 1) as (λ b. IsSome (record_in (slot_at (if b then appended member image else changed member rrn (Live image)) other))) [
      | true ↦ by (slice_get member.slots (other - 1)) refl first (subst (λ o. IsSome (record_in o)) (slot-at member other first) live)
      | false ↦ subst (λ o. IsSome (record_in o)) (sym (changed-other member rrn other (Live image) first differ)) live
    ]
  where
    by : (found : Option Slot) → slice_get member.slots (other - 1) ≡ found → 1 ≤ other → IsSome (record_in found) → IsSome (record_in (slot_at (appended member image) other))
    by None is first h = absurd cc
    by (Some s) is first h =
        subst (λ o. IsSome (record_in o)) (sym (slot-at (appended member image) other first ∙ get-front member.slots (Live image ∷ []) (other - 1) s is)) h

-- a record that is put at a place of the member stands there
put-there : (rrn : ℕ) (image : List ℕ) (member : MemberState) → 1 ≤ rrn → rrn ≤ length member.slots → IsSome (record_in (slot_at (slot_put rrn (Live image) member) rrn))
put-there rrn image member first last =
    let within : (rrn == length member.slots + 1) ≡ false = grind (arith, nat_tests, last) in
    let some : (rrn == 0) ≡ false = grind (arith, nat_tests, first) in
    let there : slice_get (slice_set member.slots (rrn - 1) (Live image)) (rrn - 1) ≡ Some (Live image) = get-set_same member.slots (rrn - 1) (Live image) (omega (arith, first, last)) in
    rw (within, some, there) refl

-- ---- all members

none-with : {A : Type 0} (number : ℕ) (x : A) (xs : List (Numbered A)) → item_at number xs ≡ None → item_at number (with_item number x xs) ≡ None
none-with number x [] none = refl
none-with number x (entry ∷ xs) none =
    elim (entry.number == number) as (λ b. (entry.number == number) ≡ b → (if b then Some entry.item else item_at number xs) ≡ None
    → item_at number (if b then record { number = number; item = x } ∷ xs else entry ∷ with_item number x xs) ≡ None) [
      | true ↦ λ e h. absurd cc
      | false ↦ λ e h. rw e (none-with number x xs h)
    ] refl none

member-after : (number : ℕ) (member : MemberState) (members : NumberedMembers)
    → (is_some (member_at number members) ≡ true) × (member_of number (with_member number member members) ≡ member) ⊎ (member_of number (with_member number member members) ≡ member_of number members)
member-after number member members =
    elim (is_some (member_at number members)) as (λ b. is_some (member_at number members) ≡ b
    → (is_some (member_at number members) ≡ true) × (member_of number (with_member number member members) ≡ member) ⊎
    (member_of number (with_member number member members) ≡ member_of number members)) [
      | true ↦ λ there. inl (there, ap (λ (o : Option MemberState). unwrap_or o (empty_member 0)) (item_at-with_item_same number member members there))
      | false ↦ λ absent. (
          let none : item_at number members ≡ None = nothing-there (item_at number members) absent in
          inr (ap (λ (o : Option MemberState). unwrap_or o (empty_member 0)) (none-with number member members none ∙ sym none)))
    ] refl

module _ (m new : Memory) (number rrn : ℕ) (slot : Slot) (members : new.members ≡ with_member number (slot_put rrn slot (member_of number m.members)) m.members) where
  after-other : (other : ℕ) → other ≢ number → member_of other new.members ≡ member_of other m.members
  after-other other differ =
      ap (member_of other) members ∙ ap (λ (o : Option MemberState). unwrap_or o (empty_member 0)) (item_at-with_item_other other number
      (slot_put rrn slot (member_of number m.members)) m.members differ)

  pub put-grows : (other : ℕ) → length (slots_of other m) ≤ length (slots_of other new)
  put-grows other =
      elim (cases_eq other number) [
        | inl same ↦ (
            let longer = put-longer rrn slot (member_of number m.members) in
            elim (member-after number (slot_put rrn slot (member_of number m.members)) m.members) [
              | inl put ↦ (
                  let is : member_of other new.members ≡ slot_put rrn slot (member_of number m.members) = ap (λ n. member_of n new.members) same ∙ ap (member_of number) members ∙ put.1 in
                  let one : length (slots_of other new) ≡ length (slot_put rrn slot (member_of number m.members)).slots = ap (λ (x : MemberState). length x.slots) is in
                  let two : length (slots_of other m) ≡ length (slots_of number m) = ap (λ n. length (slots_of n m)) same in
                  omega (arith, longer, one, two))
              | inr kept ↦ (
                  let is : member_of other new.members ≡ member_of other m.members = ap (λ n. member_of n new.members) same ∙ ap (member_of number) members ∙ kept
                  ∙ sym (ap (λ n. member_of n m.members) same) in
                  let one : length (slots_of other new) ≡ length (slots_of other m) = ap (λ (x : MemberState). length x.slots) is in
                  omega (arith, one))
            ])
        | inr differ ↦ (let one : length (slots_of other new) ≡ length (slots_of other m) = ap (λ (x : MemberState). length x.slots) (after-other other differ) in omega (arith, one))
      ]

  -- a record at another place stays
  pub put-live : (other r : ℕ) → (other ≡ number → r ≡ rrn → ⊥) → IsSome (live_record other r m) → IsSome (live_record other r new)
  put-live other r apart live =
      elim (cases_eq other number) [
        | inl same ↦ (
            elim (member-after number (slot_put rrn slot (member_of number m.members)) m.members) [
              | inl put ↦ (
                  let is : member_of other new.members ≡ slot_put rrn slot (member_of number m.members) = ap (λ n. member_of n new.members) same ∙ ap (member_of number) members ∙ put.1 in
                  subst (λ (x : MemberState). IsSome (record_in (slot_at x r))) (sym is)
                  (put-other rrn r slot (member_of number m.members) (apart same) (subst (λ n. IsSome (record_in (slot_at (member_of n m.members) r))) same live)))
              | inr kept ↦ (
                  let is : member_of other new.members ≡ member_of other m.members = ap (λ n. member_of n new.members) same ∙ ap (member_of number) members ∙ kept
                  ∙ sym (ap (λ n. member_of n m.members) same) in
                  subst (λ (x : MemberState). IsSome (record_in (slot_at x r))) (sym is) live)
            ])
        | inr differ ↦ subst (λ (x : MemberState). IsSome (record_in (slot_at x r))) (sym (after-other other differ)) live
      ]

-- a record that is put in the place of another stands there
pub put-here : (m new : Memory) (number rrn : ℕ) (image : List ℕ) → new.members ≡ with_member number (slot_put rrn (Live image) (member_of number m.members)) m.members
    → IsSome (live_record number rrn m) → IsSome (live_record number rrn new)
put-here m new number rrn image members live =
    let bounds = live-within (member_of number m.members) rrn live in
    elim (member-after number (slot_put rrn (Live image) (member_of number m.members)) m.members) [
      | inl put ↦ subst (λ (x : MemberState). IsSome (record_in (slot_at x rrn))) (sym (ap (member_of number) members ∙ put.1)) (put-there rrn image (member_of number m.members) bounds.0 bounds.1)
      | inr kept ↦ subst (λ (x : MemberState). IsSome (record_in (slot_at x rrn))) (sym (ap (member_of number) members ∙ kept)) live
    ]

-- a record behind the last makes one place more
pub put-behind : (m new : Memory) (number rrn : ℕ) (image : List ℕ) → new.members ≡ with_member number (slot_put rrn (Live image) (member_of number m.members)) m.members
    → is_some (member_at number m.members) ≡ true → rrn ≤ length (slots_of number m) + 1 → rrn ≤ length (slots_of number new)
put-behind m new number rrn image members there last =
    let is : member_of number new.members ≡ slot_put rrn (Live image) (member_of number m.members) =
    ap (member_of number) members ∙ ap (λ (o : Option MemberState). unwrap_or o (empty_member 0)) (item_at-with_item_same number
    (slot_put rrn (Live image) (member_of number m.members)) m.members there) in
    let one : length (slots_of number new) ≡ length (slot_put rrn (Live image) (member_of number m.members)).slots = ap (λ (x : MemberState). length x.slots) is in
    let two : rrn ≤ length (slot_put rrn (Live image) (member_of number m.members)).slots = longer (member_of number m.members) last in
    omega (arith, one, two)
  where
    longer : (member : MemberState) → rrn ≤ length member.slots + 1 → rrn ≤ length (slot_put rrn (Live image) member).slots
    longer member last =
        elim (rrn == length member.slots + 1) as (λ b. (rrn == length member.slots + 1) ≡ b → rrn ≤ length (if b then appended member image else changed member rrn (Live image)).slots) [
          | true ↦ λ e. (let more = length-push member.slots (Live image) in omega (arith, more, last))
          | false ↦ λ e. (let same = length-changed member rrn (Live image) in let within : rrn ≤ length member.slots = grind (arith, nat_tests, e, last) in omega (arith, same, within))
        ] refl

-- ---- changes that are taken back

pub taken_back-grows : (undos : List MemberChange) (m : Memory) (number : ℕ) → length (slots_of number m) ≤ length (slots_of number (taken_back undos m))
taken_back-grows [] m number = omega arith
taken_back-grows (undo ∷ undos) m number =
    let once = put-grows m (with_slot undo.member (undo.change.place + 1) (before_of undo.change) m) undo.member (undo.change.place + 1) (before_of undo.change) refl number in
    let rest = taken_back-grows undos (with_slot undo.member (undo.change.place + 1) (before_of undo.change) m) number in
    omega (arith, once, rest)

-- What stands at a place of a member, after the slots of members changed.
use Rattle.std.proofs.Common.{◌≡◌, ◌≢◌, ◌⊎◌, inl, inr, ℕ, zero, suc, ◌+◌, ◌-◌, ◌<◌, ◌≤◌, ◌==◌, if◌then◌else◌, true, false, List, [], ◌∷◌, ◌++◌, length, slice_get, slice_set, Option, Some, None, is_some, unwrap_or, subst, refl, sym, ◌∙◌, ap, arith}
use Rattle.std.specs.Option.{option_map}
use Rattle.std.proofs.lemmas.Bool.{cases_eq}
use Rattle.std.proofs.lemmas.Bool.Decides.{nat_tests}
use Rattle.member_slots.specs.declared.slot.Slot.{Slot}
use Rattle.member_slots.specs.declared.slot.Slot.TheVariants.{Live, Deleted}
use Rattle.member_slots.specs.Member.{MemberState, empty_member, appended, changed, is_live}
use Rattle.member_slots.specs.Members.{Numbered, NumberedMembers, item_at, with_item, member_at, member_of, with_member}
use Rattle.journal_model.specs.Places.{slot_of}
use Rattle.library_steps.specs.SlotChange.{slot_put}
use Rattle.joint_state.proofs.MemberLemmas.{item_at-with_item_other, member_of-with, slot_put-appended, slot_put-changed}

-- the slot at a place, counted from 0, where the member is there and has it
abbrev pub record_at : (member place : ℕ) → NumberedMembers → Option Slot
record_at member place members = slice_get (member_of member members).slots place

-- ---- lists

get-set_same : {X : Type 0} (xs : List X) (place : ℕ) (x : X) → slice_get (slice_set xs place x) place ≡ option_map (λ old. x) (slice_get xs place)
get-set_same [] place x = refl
get-set_same (y ∷ xs) zero x = refl
get-set_same (y ∷ xs) (suc place) x = get-set_same xs place x

get-set_other : {X : Type 0} (xs : List X) (place other : ℕ) (x : X) → other ≢ place → slice_get (slice_set xs place x) other ≡ slice_get xs other
get-set_other [] place other x differ = refl
get-set_other (y ∷ xs) zero zero x differ = absurd (differ refl)
get-set_other (y ∷ xs) zero (suc other) x differ = refl
get-set_other (y ∷ xs) (suc place) zero x differ = refl
get-set_other (y ∷ xs) (suc place) (suc other) x differ = get-set_other xs place other x (λ same. differ (ap (λ n. suc n) same))

get-push_other : {X : Type 0} (xs : List X) (x : X) (place : ℕ) → place ≢ length xs → slice_get (xs ++ x ∷ []) place ≡ slice_get xs place
get-push_other [] x zero differ = absurd (differ refl)
get-push_other [] x (suc place) differ = refl
get-push_other (y ∷ xs) x zero differ = refl
get-push_other (y ∷ xs) x (suc place) differ = get-push_other xs x place (λ same. differ (ap (λ n. suc n) same))

get-push_same : {X : Type 0} (xs : List X) (x : X) → slice_get (xs ++ x ∷ []) (length xs) ≡ Some x
get-push_same [] x = refl
get-push_same (y ∷ xs) x = get-push_same xs x

pub get-within : {X : Type 0} (xs : List X) (place : ℕ) → place < length xs → (x : X) × (slice_get xs place ≡ Some x)
get-within [] place within = absurd (omega (arith, within))
get-within (y ∷ xs) zero within = (y, refl)
get-within (y ∷ xs) (suc place) within = get-within xs place (omega (arith, within))

pub slot_of-get : (slots : List Slot) (place : ℕ) → slot_of slots place ≡ unwrap_or (slice_get slots place) Deleted
slot_of-get [] place = refl
slot_of-get (slot ∷ slots) zero = refl
slot_of-get (slot ∷ slots) (suc place) = slot_of-get slots place

-- ---- a member

get-changed_same : (member : MemberState) (place : ℕ) (slot : Slot) → slice_get (changed member (place + 1) slot).slots place ≡ option_map (λ old. slot) (slice_get member.slots place)
get-changed_same member place slot =
    let counted : ((place + 1) == 0) ≡ false = grind (arith, nat_tests) in
    let turned : place + 1 - 1 ≡ place = omega arith in
    rw (counted, turned) (get-set_same member.slots place slot)

get-changed_other : (member : MemberState) (rrn place : ℕ) (slot : Slot) → place + 1 ≢ rrn → slice_get (changed member rrn slot).slots place ≡ slice_get member.slots place
get-changed_other member rrn place slot differ =
    elim (rrn == 0) as (λ b. (rrn == 0) ≡ b → slice_get (if b then member else record member { slots = slice_set member.slots (rrn - 1) slot }).slots place ≡ slice_get member.slots place) [
      | true ↦ λ none. refl
      | false ↦ λ counted. let first : 1 ≤ rrn = grind (arith, nat_tests, counted) in get-set_other member.slots (rrn - 1) place slot (λ same. differ (omega (arith, same, first)))
    ] refl

get-put_other : (rrn place : ℕ) (slot : Slot) (member : MemberState) → place + 1 ≢ rrn → slice_get (slot_put rrn slot member).slots place ≡ slice_get member.slots place
get-put_other rrn place Deleted member differ = get-changed_other member rrn place Deleted differ
get-put_other rrn place (Live image) member differ =
    elim (rrn == length member.slots + 1) as
    (λ b. (rrn == length member.slots + 1) ≡ b → slice_get (if b then appended member image else changed member rrn (Live image)).slots place ≡ slice_get member.slots place) [
      | true ↦ λ behind.
          let last : rrn ≡ length member.slots + 1 = grind (arith, nat_tests, behind) in
          get-push_other member.slots (Live image) place (λ same. differ (omega (arith, same, last)))
      | false ↦ λ within. get-changed_other member rrn place (Live image) differ
    ] refl

-- a slot may be put there: at a place of the member, or a record behind the last
abbrev pub IsPlaceFor : MemberState → ℕ → Slot → Type 0
IsPlaceFor member rrn slot = (rrn ≤ length member.slots) ⊎ ((rrn ≡ length member.slots + 1) × (is_live slot ≡ true))

get-put_same : (rrn : ℕ) (slot : Slot) (member : MemberState) → 1 ≤ rrn → IsPlaceFor member rrn slot → slice_get (slot_put rrn slot member).slots (rrn - 1) ≡ Some slot
get-put_same rrn slot member first (inl within) =
    let counted : (rrn == 0) ≡ false = grind (arith, nat_tests, first) in
    let before = get-within member.slots (rrn - 1) (omega (arith, first, within)) in
    rw (slot_put-changed member rrn slot within, counted) (get-set_same member.slots (rrn - 1) slot ∙ ap (option_map (λ old. slot)) before.1)
get-put_same rrn Deleted member first (inr behind) = absurd (let live = behind.1 in cc)
get-put_same rrn (Live image) member first (inr behind) =
    let turned : length member.slots + 1 - 1 ≡ length member.slots = omega arith in
    subst (λ (n : ℕ). slice_get (slot_put n (Live image) member).slots (n - 1) ≡ Some (Live image)) (sym behind.0)
    (rw (slot_put-appended member image, turned) (get-push_same member.slots (Live image)))

-- ---- members

pub item-with_item : {A : Type 0} (n : ℕ) (x : A) (xs : List (Numbered A)) → item_at n (with_item n x xs) ≡ option_map (λ old. x) (item_at n xs)
item-with_item n x [] = refl
item-with_item n x (entry ∷ entries) =
    elim (entry.number == n) as (λ b. (entry.number == n) ≡ b
    → item_at n (if b then record { number = n; item = x } ∷ entries else entry ∷ with_item n x entries) ≡ option_map (λ old. x) (if b then Some entry.item else item_at n entries)) [
      | true ↦ λ e. let same : (n == n) ≡ true = grind (arith, nat_tests) in rw same refl
      | false ↦ λ e. rw e (item-with_item n x entries)
    ] refl

pub record-with_other : (n k place : ℕ) (member : MemberState) (members : NumberedMembers) → n ≢ k → record_at n place (with_member k member members) ≡ record_at n place members
record-with_other n k place member members differ =
    ap (λ (o : Option MemberState). slice_get (unwrap_or o (empty_member 0)).slots place) (item_at-with_item_other n k member members differ)

-- a member changed, and of it only what doesn't matter at this place
record-other : (n k place : ℕ) (change : MemberState → MemberState) (members : NumberedMembers)
    → (n ≡ k → (member : MemberState) → slice_get (change member).slots place ≡ slice_get member.slots place)
    → record_at n place (with_member k (change (member_of k members)) members) ≡ record_at n place members
record-other n k place change members spares =
    elim (cases_eq n k) [
      | inl same ↦ ap (λ (j : ℕ). record_at j place (with_member k (change (member_of k members)) members)) same
          ∙ ap (λ (o : Option MemberState). slice_get (unwrap_or o (empty_member 0)).slots place) (item-with_item k (change (member_of k members)) members)
          ∙ by (spares same) (member_at k members)
          ∙ ap (λ (j : ℕ). record_at j place members) (sym same)
      | inr differ ↦ record-with_other n k place (change (member_of k members)) members differ
    ]
  where
    by : ((member : MemberState) → slice_get (change member).slots place ≡ slice_get member.slots place) → (o : Option MemberState)
        → slice_get (unwrap_or (option_map (λ old. change (unwrap_or o (empty_member 0))) o) (empty_member 0)).slots place ≡ slice_get (unwrap_or o (empty_member 0)).slots place
    by each None = refl
    by each (Some member) = each member

pub record-changed_other : (n k place rrn : ℕ) (slot : Slot) (members : NumberedMembers) → (n ≡ k → place + 1 ≡ rrn → ⊥)
    → record_at n place (with_member k (changed (member_of k members) rrn slot) members) ≡ record_at n place members
record-changed_other n k place rrn slot members differ =
    record-other n k place (λ member. changed member rrn slot) members (λ same member. get-changed_other member rrn place slot (differ same))

pub record-put_other : (n k place rrn : ℕ) (slot : Slot) (members : NumberedMembers) → (n ≡ k → place + 1 ≡ rrn → ⊥)
    → record_at n place (with_member k (slot_put rrn slot (member_of k members)) members) ≡ record_at n place members
record-put_other n k place rrn slot members differ =
    record-other n k place (λ member. slot_put rrn slot member) members (λ same member. get-put_other rrn place slot member (differ same))

pub record-changed_same : (n place : ℕ) (slot : Slot) (members : NumberedMembers)
    → record_at n place (with_member n (changed (member_of n members) (place + 1) slot) members) ≡ option_map (λ old. slot) (record_at n place members)
record-changed_same n place slot members =
    ap (λ (o : Option MemberState). slice_get (unwrap_or o (empty_member 0)).slots place) (item-with_item n (changed (member_of n members) (place + 1) slot) members) ∙ by (member_at n members)
  where
    by : (o : Option MemberState) → slice_get (unwrap_or (option_map (λ old. changed (unwrap_or o (empty_member 0)) (place + 1) slot) o) (empty_member 0)).slots place
        ≡ option_map (λ old. slot) (slice_get (unwrap_or o (empty_member 0)).slots place)
    by None = refl
    by (Some member) = get-changed_same member place slot

pub record-put_same : (n rrn : ℕ) (slot : Slot) (members : NumberedMembers) → is_some (member_at n members) ≡ true → 1 ≤ rrn → IsPlaceFor (member_of n members) rrn slot
    → record_at n (rrn - 1) (with_member n (slot_put rrn slot (member_of n members)) members) ≡ Some slot
record-put_same n rrn slot members there first place =
    ap (λ (m : MemberState). slice_get m.slots (rrn - 1)) (member_of-with n (slot_put rrn slot (member_of n members)) members there)
    ∙ get-put_same rrn slot (member_of n members) first place

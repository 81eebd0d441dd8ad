-- What a change of one member leaves of the others, and what it makes of the bytes of all.
use Rattle.std.proofs.Common.{◌≡◌, ◌≢◌, inl, inr, ℕ, zero, suc, ◌+◌, ◌-◌, ◌*◌, ◌<◌, ◌≤◌, ◌==◌, if◌then◌else◌, Bool, true, false, cond, filter, List, [], ◌∷◌, ◌++◌, length, slice_get, slice_set, Option, Some, None, is_some, IsSome, unwrap_or, subst, refl, sym, ◌∙◌, ap, arith, rules}
use Rattle.std.specs.List.{AllByRecursion}
use Rattle.std.proofs.Math.Nat.{suc-mul, mul-le-mul_right}
use Rattle.std.proofs.lemmas.Bool.{cases_eq}
use Rattle.std.proofs.lemmas.Bool.Decides.{nat_tests}
use Rattle.std.proofs.lemmas.List.Sums.{sum_by-cons}
use Rattle.member_slots.specs.declared.slot.Slot.{Slot}
use Rattle.member_slots.specs.declared.slot.Slot.TheVariants.{Live, Deleted}
use Rattle.member_slots.specs.Member.{MemberState, empty_member, appended, changed, cleared, is_live, reorganized, slot_at}
use Rattle.member_slots.specs.Members.{Numbered, NumberedMembers, item_at, put_item, with_item, without_item, member_at, member_of, with_member}
use Rattle.library_steps.below.record_fmt.specs.declared.formats.Field.{Field}
use Rattle.library_steps.specs.Ranges.{library_bytes}
use Rattle.library_steps.specs.SlotChange.{slot_put}
use Rattle.lawful_states.specs.Lawful.{HoldsValues, HasRecords, IsThere}
use Rattle.lawful_states.specs.Slots.{weight}

pub item_at-put_item_other : {A : Type 0} (n k : ℕ) (x : A) (xs : List (Numbered A)) → n ≢ k → item_at n (put_item k x xs) ≡ item_at n xs
item_at-put_item_other n k x [] other = grind (arith, nat_tests)
item_at-put_item_other n k x (entry ∷ entries) other = grind (arith, nat_tests, item_at-put_item_other n k x entries other)

pub item_at-put_item_same : {A : Type 0} (k : ℕ) (x : A) (xs : List (Numbered A)) → item_at k (put_item k x xs) ≡ Some x
item_at-put_item_same k x [] = grind (arith, nat_tests)
item_at-put_item_same k x (entry ∷ entries) = grind (arith, nat_tests, item_at-put_item_same k x entries)

pub item_at-with_item_other : {A : Type 0} (n k : ℕ) (x : A) (xs : List (Numbered A)) → n ≢ k → item_at n (with_item k x xs) ≡ item_at n xs
item_at-with_item_other n k x [] other = refl
item_at-with_item_other n k x (entry ∷ entries) other = grind (arith, nat_tests, item_at-with_item_other n k x entries other)

pub item_at-with_item_same : {A : Type 0} (k : ℕ) (x : A) (xs : List (Numbered A)) → is_some (item_at k xs) ≡ true → item_at k (with_item k x xs) ≡ Some x
item_at-with_item_same k x [] there = absurd cc
item_at-with_item_same k x (entry ∷ entries) there = grind (arith, nat_tests, item_at-with_item_same k x entries)

pub item_at-without_item_other : {A : Type 0} (n k : ℕ) (xs : List (Numbered A)) → n ≢ k → item_at n (without_item k xs) ≡ item_at n xs
item_at-without_item_other n k [] other = refl
item_at-without_item_other n k (entry ∷ entries) other = grind (arith, nat_tests, item_at-without_item_other n k entries other)

-- ---- a member that is there

pub IsThere-is_some : (fields : List Field) (member : Option MemberState) → IsThere fields member → is_some member ≡ true
IsThere-is_some fields None there = absurd there
IsThere-is_some fields (Some member) there = refl

pub IsThere-IsSome : (fields : List Field) (number : ℕ) (members : NumberedMembers) → IsThere fields (member_at number members) → IsSome (member_at number members)
IsThere-IsSome fields number members there =
    elim (member_at number members) as (λ o. IsThere fields o → IsSome o) [
      | None ↦ λ t. absurd t
      | Some member ↦ λ t. search rules
    ] there

pub HasRecords-member_of : (fields : List Field) (number : ℕ) (members : NumberedMembers) → IsThere fields (member_at number members) → HasRecords fields (member_of number members)
HasRecords-member_of fields number members there =
    elim (member_at number members) as (λ o. IsThere fields o → HasRecords fields (unwrap_or o (empty_member 0))) [
      | None ↦ λ t. absurd t
      | Some member ↦ λ t. t
    ] there

pub is_some-IsSome : {A : Type 0} (o : Option A) → IsSome o → is_some o ≡ true
is_some-IsSome None there = absurd (search rules)
is_some-IsSome (Some a) there = refl

pub at-member_of : (number : ℕ) (members : NumberedMembers) → is_some (member_at number members) ≡ true → member_at number members ≡ Some (member_of number members)
at-member_of number members there =
    elim (member_at number members) as (λ o. is_some o ≡ true → o ≡ Some (unwrap_or o (empty_member 0))) [
      | None ↦ λ t. absurd cc
      | Some member ↦ λ t. refl
    ] there

-- a member that is there after another was changed
pub IsThere-with_member : (fields : List Field) (members : NumberedMembers) (other number : ℕ) (member : MemberState) → IsThere fields (member_at other members) → (other ≡ number
    → HasRecords fields member)
    → IsThere fields (member_at other (with_member number member members))
IsThere-with_member fields members other number member there holds =
    elim (cases_eq other number) [
      | inl same ↦ (
          let before : is_some (member_at number members) ≡ true = subst (λ (n : ℕ). is_some (member_at n members) ≡ true) same (IsThere-is_some fields (member_at other members) there) in
          let here : member_at other (with_member number member members) ≡ Some member = ap (λ (n : ℕ). member_at n (with_member number member members)) same
          ∙ item_at-with_item_same number member members before in
          subst (IsThere fields) (sym here) (holds same))
      | inr differ ↦ subst (IsThere fields) (sym (item_at-with_item_other other number member members differ)) there
    ]

pub numbers-with_member : (members : NumberedMembers) (number bound : ℕ) (member : MemberState) → AllByRecursion (λ entry. entry.number < bound) members
    → AllByRecursion (λ entry. entry.number < bound) (with_member number member members)
numbers-with_member [] number bound member all = tt
numbers-with_member (entry ∷ members) number bound member all = grind (arith, nat_tests, all.0, numbers-with_member members number bound member all.1)

-- ---- its slots

AllByRecursion-append : {X : Type 0} (P : X → Type 0) (xs ys : List X) → AllByRecursion P xs → AllByRecursion P ys → AllByRecursion P (xs ++ ys)
AllByRecursion-append P [] ys all more = more
AllByRecursion-append P (x ∷ xs) ys all more = (all.0, AllByRecursion-append P xs ys all.1 more)

AllByRecursion-set : {X : Type 0} (P : X → Type 0) (xs : List X) (place : ℕ) (x : X) → AllByRecursion P xs → P x → AllByRecursion P (slice_set xs place x)
AllByRecursion-set P [] place x all holds = tt
AllByRecursion-set P (y ∷ xs) zero x all holds = (holds, all.1)
AllByRecursion-set P (y ∷ xs) (suc place) x all holds = (all.0, AllByRecursion-set P xs place x all.1 holds)

pub HasRecords-appended : (fields : List Field) (member : MemberState) (image : List ℕ) → HasRecords fields member → HoldsValues fields (Live image) → HasRecords fields (appended member image)
HasRecords-appended fields member image has held = record {
  long = has.long;
  values = AllByRecursion-append (HoldsValues fields) member.slots (Live image ∷ []) has.values (held, tt);
}

pub HasRecords-changed : (fields : List Field) (member : MemberState) (rrn : ℕ) (slot : Slot) → HasRecords fields member → HoldsValues fields slot → HasRecords fields (changed member rrn slot)
HasRecords-changed fields member rrn slot has held =
    elim (rrn == 0) as (λ b. HasRecords fields (if b then member else record member { slots = slice_set member.slots (rrn - 1) slot })) [
      | true ↦ has
      | false ↦ record { long = has.long; values = AllByRecursion-set (HoldsValues fields) member.slots (rrn - 1) slot has.values held }
    ]

pub AllByRecursion-get : {X : Type 0} (P : X → Type 0) (xs : List X) (place : ℕ) (x : X) → AllByRecursion P xs → slice_get xs place ≡ Some x → P x
AllByRecursion-get P [] place x all here = absurd cc
AllByRecursion-get P (y ∷ xs) zero x all here = let same : y ≡ x = cc in subst P same all.0
AllByRecursion-get P (y ∷ xs) (suc place) x all here = AllByRecursion-get P xs place x all.1 here

-- a slot of the member holds values
pub HoldsValues-at : (fields : List Field) (member : MemberState) (rrn : ℕ) (slot : Slot) → HasRecords fields member → slot_at member rrn ≡ Some slot → HoldsValues fields slot
HoldsValues-at fields member rrn slot has here =
    elim (rrn == 0) as (λ b. (if b then None else slice_get member.slots (rrn - 1)) ≡ Some slot → HoldsValues fields slot) [
      | true ↦ λ e. absurd cc
      | false ↦ λ e. AllByRecursion-get (HoldsValues fields) member.slots (rrn - 1) slot has.values e
    ] here

-- a record that is put behind the last slot
pub slot_put-appended : (member : MemberState) (image : List ℕ) → slot_put (length member.slots + 1) (Live image) member ≡ appended member image
slot_put-appended member image = let same : ((length member.slots + 1) == length member.slots + 1) ≡ true = grind (arith, nat_tests) in rw same refl

-- a slot that is put at a place that is there
pub slot_put-changed : (member : MemberState) (rrn : ℕ) (slot : Slot) → rrn ≤ length member.slots → slot_put rrn slot member ≡ changed member rrn slot
slot_put-changed member rrn Deleted within = refl
slot_put-changed member rrn (Live image) within = let other : (rrn == length member.slots + 1) ≡ false = grind (arith, nat_tests) in rw other refl

-- ---- the bytes of all members

pub library_bytes-cons : (entry : Numbered MemberState) (members : NumberedMembers) → library_bytes (entry ∷ members) ≡ weight entry.item + library_bytes members
library_bytes-cons entry members = sum_by-cons (λ e. length e.item.slots * e.item.record_length) entry members

pub library_bytes-with : (number : ℕ) (old new : MemberState) (members : NumberedMembers) → member_at number members ≡ Some old
    → library_bytes (with_member number new members) + weight old ≡ library_bytes members + weight new
library_bytes-with number old new [] there = absurd cc
library_bytes-with number old new (entry ∷ members) there =
    elim (entry.number == number) as (λ b. (if b then Some entry.item else item_at number members) ≡ Some old
    → library_bytes (if b then record { number = number; item = new } ∷ members else entry ∷ with_member number new members) + weight old ≡ library_bytes (entry ∷ members) + weight new) [
      | true ↦ λ e. let same : entry.item ≡ old = cc in
          let before = library_bytes-cons entry members in
          let after = library_bytes-cons (record { number = number; item = new }) members in
          let weighs : weight entry.item ≡ weight old = ap weight same in
          omega (arith, before, after, weighs)
      | false ↦ λ e.
          let before = library_bytes-cons entry members in
          let after = library_bytes-cons entry (with_member number new members) in
          let rest = library_bytes-with number old new members e in
          omega (arith, before, after, rest)
    ] there

pub length-push : {X : Type 0} (xs : List X) (x : X) → length (xs ++ x ∷ []) ≡ suc (length xs)
length-push [] x = refl
length-push (y ∷ xs) x = ap (λ n. suc n) (length-push xs x)

length-set : {X : Type 0} (xs : List X) (place : ℕ) (x : X) → length (slice_set xs place x) ≡ length xs
length-set [] place x = refl
length-set (y ∷ xs) zero x = refl
length-set (y ∷ xs) (suc place) x = ap (λ n. suc n) (length-set xs place x)

-- another slot leaves how many there are, and how long records are
pub length-changed : (member : MemberState) (rrn : ℕ) (slot : Slot) → length (changed member rrn slot).slots ≡ length member.slots
length-changed member rrn slot =
    elim (rrn == 0) as (λ b. length (if b then member else record member { slots = slice_set member.slots (rrn - 1) slot }).slots ≡ length member.slots) [
      | true ↦ refl
      | false ↦ length-set member.slots (rrn - 1) slot
    ]

pub record_length-changed : (member : MemberState) (rrn : ℕ) (slot : Slot) → (changed member rrn slot).record_length ≡ member.record_length
record_length-changed member rrn slot =
    elim (rrn == 0) as (λ b. (if b then member else record member { slots = slice_set member.slots (rrn - 1) slot }).record_length ≡ member.record_length) [ true ↦ refl | false ↦ refl ]

pub weight-appended : (member : MemberState) (image : List ℕ) → weight (appended member image) ≡ weight member + member.record_length
weight-appended member image = ap (λ n. n * member.record_length) (length-push member.slots (Live image)) ∙ suc-mul (length member.slots) member.record_length

pub weight-changed : (member : MemberState) (rrn : ℕ) (slot : Slot) → weight (changed member rrn slot) ≡ weight member
weight-changed member rrn slot =
    elim (rrn == 0) as (λ b. weight (if b then member else record member { slots = slice_set member.slots (rrn - 1) slot }) ≡ weight member) [
      | true ↦ refl
      | false ↦ ap (λ n. n * member.record_length) (length-set member.slots (rrn - 1) slot)
    ]

-- a member is no more than all are
pub weight-part : (number : ℕ) (members : NumberedMembers) → is_some (member_at number members) ≡ true → weight (member_of number members) ≤ library_bytes members
weight-part number members there =
    let member = member_of number members in
    let after = library_bytes-with number member (empty_member 0) members (at-member_of number members there) in
    let none : weight (empty_member 0) ≡ 0 = refl in
    omega (arith, after, none)

AllByRecursion-filter : {X : Type 0} (P : X → Type 0) (test : X → Bool) (xs : List X) → AllByRecursion P xs → AllByRecursion P (filter test xs)
AllByRecursion-filter P test [] all = tt
AllByRecursion-filter P test (x ∷ xs) all =
    elim (test x) as (λ b. AllByRecursion P (cond b (x ∷ filter test xs) (filter test xs))) [
      | true ↦ (all.0, AllByRecursion-filter P test xs all.1)
      | false ↦ AllByRecursion-filter P test xs all.1
    ]

length-filter : {X : Type 0} (test : X → Bool) (xs : List X) → length (filter test xs) ≤ length xs
length-filter test [] = omega arith
length-filter test (x ∷ xs) =
    let rest = length-filter test xs in
    elim (test x) as (λ b. length (cond b (x ∷ filter test xs) (filter test xs)) ≤ suc (length xs)) [
      | true ↦ omega (arith, rest)
      | false ↦ omega (arith, rest)
    ]

pub HasRecords-cleared : (fields : List Field) (member : MemberState) → HasRecords fields member → HasRecords fields (cleared member)
HasRecords-cleared fields member has = record { long = has.long; values = tt }

pub HasRecords-reorganized : (fields : List Field) (member : MemberState) → HasRecords fields member → HasRecords fields (reorganized member)
HasRecords-reorganized fields member has = record { long = has.long; values = AllByRecursion-filter (HoldsValues fields) is_live member.slots has.values }

pub weight-cleared : (member : MemberState) → weight (cleared member) ≡ 0
weight-cleared member = let none : 0 * member.record_length ≡ 0 = omega arith in none

pub weight-reorganized : (member : MemberState) → weight (reorganized member) ≤ weight member
weight-reorganized member = mul-le-mul_right member.record_length (length-filter is_live member.slots)

pub member_of-with : (number : ℕ) (member : MemberState) (members : NumberedMembers) → is_some (member_at number members) ≡ true → member_of number (with_member number member members) ≡ member
member_of-with number member members there = ap (λ (o : Option MemberState). unwrap_or o (empty_member 0)) (item_at-with_item_same number member members there)

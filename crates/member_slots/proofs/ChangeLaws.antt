-- The changes of slots and members, seen by one who looks at a place.
use Rattle.std.proofs.Common.{ℕ, zero, suc, ◌+◌, ◌-◌, ◌≤◌, ◌<◌, ◌≡◌, ◌≢◌, List, [], ◌∷◌, ◌++◌, length, map, set, get_or, Option, Some, None, IsSome, IsTrue, slice_get, slice_set, refl, arith, ap}
use Rattle.std.specs.List.{filter, All}
use Rattle.std.proofs.lemmas.Bool.Decides.{nat_tests}
use Rattle.member_slots.specs.declared.slot.Slot.{Slot}
use Rattle.member_slots.specs.declared.slot.Slot.TheVariants.{Live, Deleted}
use Rattle.member_slots.specs.Member.{MemberState, slot_at, records, records_from, is_live, appended, changed, reorganized}
use Rattle.member_slots.specs.Members.{Numbered, NumberedMembers, item_at, with_item, put_item, without_item, member_at, with_member, put_member, without_member}
use Rattle.member_slots.specs.Changes.{ChangesSlot, ChangesMember, images}

-- what a slot put at a place, or behind the last one, leaves to be got
get-push_same : (slots : List Slot) (slot : Slot) → slice_get (slots ++ slot ∷ []) (length slots) ≡ Some slot
get-push_same [] slot = refl
get-push_same (first ∷ slots) slot = get-push_same slots slot

get-push_other : (slots : List Slot) (slot : Slot) (k : ℕ) → k ≢ length slots → slice_get (slots ++ slot ∷ []) k ≡ slice_get slots k
get-push_other [] slot zero other = absurd (other refl)
get-push_other [] slot (suc k) other = refl
get-push_other (first ∷ slots) slot zero other = refl
get-push_other (first ∷ slots) slot (suc k) other = get-push_other slots slot k (λ same. other (ap suc same))

get-set_same : (slots : List Slot) (slot : Slot) (k : ℕ) → k < length slots → slice_get (slice_set slots k slot) k ≡ Some slot
get-set_same [] slot k within = absurd (omega arith)
get-set_same (first ∷ slots) slot zero within = refl
get-set_same (first ∷ slots) slot (suc k) within = get-set_same slots slot k (omega arith)

get-set_other : (slots : List Slot) (slot : Slot) (k other : ℕ) → other ≢ k → slice_get (slice_set slots k slot) other ≡ slice_get slots other
get-set_other [] slot k other differs = refl
get-set_other (first ∷ slots) slot zero zero differs = absurd (differs refl)
get-set_other (first ∷ slots) slot zero (suc other) differs = refl
get-set_other (first ∷ slots) slot (suc k) zero differs = refl
get-set_other (first ∷ slots) slot (suc k) (suc other) differs = get-set_other slots slot k other (λ same. differs (ap suc same))

pub ChangesSlot-appended : (member : MemberState) (image : List ℕ) → ChangesSlot member (appended member image) (length member.slots + 1) (Live image)
ChangesSlot-appended member image = record {
  this_slot = grind (arith, nat_tests, get-push_same member.slots (Live image));
  other_slots = λ other differs. grind (arith, nat_tests, get-push_other member.slots (Live image) (other - 1));
}

pub ChangesSlot-changed : (member : MemberState) (rrn : ℕ) (slot : Slot) → 1 ≤ rrn → rrn ≤ length member.slots → ChangesSlot member (changed member rrn slot) rrn slot
ChangesSlot-changed member rrn slot first last = record {
  this_slot = grind (arith, nat_tests, get-set_same member.slots slot (rrn - 1));
  other_slots = λ other differs. grind (arith, nat_tests, get-set_other member.slots slot (rrn - 1) (other - 1));
}

-- the images do not depend on the numbers, nor on the deleted slots
images_from-filter : (slots : List Slot) (n m : ℕ) → map (λ (pair : ℕ × List ℕ). pair.1) (records_from n (filter is_live slots)) ≡ map (λ (pair : ℕ × List ℕ). pair.1) (records_from m slots)
images_from-filter [] n m = refl
images_from-filter (Live image ∷ slots) n m = ap (λ rest. image ∷ rest) (images_from-filter slots (n + 1) (m + 1))
images_from-filter (Deleted ∷ slots) n m = images_from-filter slots n (m + 1)

pub images-reorganized : (member : MemberState) → images (reorganized member) ≡ images member
images-reorganized member = images_from-filter member.slots 1 1

-- what belongs to numbers, seen by number
module _ {A : Type 0} (number : ℕ) (item : A) where
  at-with_same : (entries : List (Numbered A)) → IsSome (item_at number entries) → item_at number (with_item number item entries) ≡ Some item
  at-with_same [] there = absurd (grind arith)
  at-with_same (entry ∷ entries) there = grind (arith, nat_tests, at-with_same entries)

  at-with_other : (entries : List (Numbered A)) (other : ℕ) → other ≢ number → item_at other (with_item number item entries) ≡ item_at other entries
  at-with_other [] other differs = refl
  at-with_other (entry ∷ entries) other differs = grind (arith, nat_tests, at-with_other entries other differs)

  at-put_same : (entries : List (Numbered A)) → item_at number (put_item number item entries) ≡ Some item
  at-put_same [] = grind (arith, nat_tests)
  at-put_same (entry ∷ entries) = grind (arith, nat_tests, at-put_same entries)

  at-put_other : (entries : List (Numbered A)) (other : ℕ) → other ≢ number → item_at other (put_item number item entries) ≡ item_at other entries
  at-put_other [] other differs = grind (arith, nat_tests)
  at-put_other (entry ∷ entries) other differs = grind (arith, nat_tests, at-put_other entries other differs)

module _ {A : Type 0} (number : ℕ) where
  at-without_same : (entries : List (Numbered A)) → item_at number (without_item number entries) ≡ None
  at-without_same [] = refl
  at-without_same (entry ∷ entries) = grind (arith, nat_tests, at-without_same entries)

  at-without_other : (entries : List (Numbered A)) (other : ℕ) → other ≢ number → item_at other (without_item number entries) ≡ item_at other entries
  at-without_other [] other differs = refl
  at-without_other (entry ∷ entries) other differs = grind (arith, nat_tests, at-without_other entries other differs)

pub ChangesMember-with_member : (number : ℕ) (member : MemberState) (members : NumberedMembers) → IsSome (member_at number members) → ChangesMember members (with_member number member members) number (Some member)
ChangesMember-with_member number member members there = record { this_member = at-with_same number member members there; other_members = at-with_other number member members }

pub ChangesMember-put_member : (number : ℕ) (member : MemberState) (members : NumberedMembers) → ChangesMember members (put_member number member members) number (Some member)
ChangesMember-put_member number member members = record { this_member = at-put_same number member members; other_members = at-put_other number member members }

pub ChangesMember-without_member : (number : ℕ) (members : NumberedMembers) → ChangesMember members (without_member number members) number None
ChangesMember-without_member number members = record { this_member = at-without_same number members; other_members = at-without_other number members }

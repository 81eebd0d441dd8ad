-- The slots of a member after one was put, as a change that takes it back finds them and as the journal tells them.
use Rattle.std.proofs.Common.{◌≡◌, ◌⊎◌, ℕ, zero, suc, ◌+◌, ◌-◌, ◌<◌, ◌≤◌, ◌==◌, Bool, true, false, cond, List, [], ◌∷◌, ◌++◌, length, slice_get, slice_set, None, IsSome, is_some, unwrap_or, refl, sym, ap, ◌∙◌, subst, arith, inl, inr}
use Rattle.std.proofs.lemmas.Bool.{cases_eq, eq-eqb, ne_eqb}
use Rattle.std.proofs.lemmas.Bool.Decides.{nat_tests}
use Rattle.member_slots.specs.declared.slot.Slot.{Slot}
use Rattle.member_slots.specs.declared.slot.Slot.TheVariants.{Live, Deleted}
use Rattle.member_slots.specs.Member.{MemberState, changed, is_live}
use Rattle.member_slots.specs.Members.{member_of}
use Rattle.journal_model.specs.Places.{slot_of}
use Rattle.library_steps.specs.State.{Memory}
use Rattle.library_steps.specs.Records.{live_record, record_in, slot_there}
use Rattle.library_steps.specs.SlotChange.{slot_put}
use Rattle.lawful_states.proofs.MemberLemmas.{is_some-IsSome, slot_put-appended, slot_put-changed}

shift : (a b : ℕ) → (suc a == suc b) ≡ (a == b)
shift a b = grind (arith, nat_tests)

slot_of-push : (slots : List Slot) (new : Slot) (place : ℕ) → cond (length slots == place) new (slot_of slots place) ≡ slot_of (slots ++ new ∷ []) place
slot_of-push [] new zero = refl
slot_of-push [] new (suc place) = ap (λ (b : Bool). cond b new Deleted) (ne_eqb 0 (suc place) (λ e. absurd (omega arith)))
slot_of-push (slot ∷ slots) new zero = ap (λ (b : Bool). cond b new slot) (ne_eqb (suc (length slots)) 0 (λ e. absurd (omega arith)))
slot_of-push (slot ∷ slots) new (suc place) = ap (λ (b : Bool). cond b new (slot_of slots place)) (shift (length slots) place) ∙ slot_of-push slots new place

slot_of-set : (slots : List Slot) (at place : ℕ) (new : Slot) → at < length slots → cond (at == place) new (slot_of slots place) ≡ slot_of (slice_set slots at new) place
slot_of-set [] at place new within = absurd (omega arith)
slot_of-set (slot ∷ slots) zero zero new within = refl
slot_of-set (slot ∷ slots) zero (suc place) new within = ap (λ (b : Bool). cond b new (slot_of slots place)) (ne_eqb 0 (suc place) (λ e. absurd (omega arith)))
slot_of-set (slot ∷ slots) (suc at) zero new within = ap (λ (b : Bool). cond b new slot) (ne_eqb (suc at) 0 (λ e. absurd (omega arith)))
slot_of-set (slot ∷ slots) (suc at) (suc place) new within = ap (λ (b : Bool). cond b new (slot_of slots place)) (shift at place) ∙ slot_of-set slots at place new (omega arith)

-- at a place that is there
pub slot_of-changed : (member : MemberState) (rrn place : ℕ) (new : Slot) → 1 ≤ rrn → rrn ≤ length member.slots
    → cond (rrn - 1 == place) new (slot_of member.slots place) ≡ slot_of (changed member rrn new).slots place
slot_of-changed member rrn place new counted within =
    slot_of-set member.slots (rrn - 1) place new (omega arith)
    ∙ sym (ap (λ (b : Bool). slot_of (cond b member (record member { slots = slice_set member.slots (rrn - 1) new })).slots place) (ne_eqb rrn 0 (λ e. absurd (omega arith))))

-- a slot that may be put: at a place that is there, or a record behind the last
abbrev pub MayPut : MemberState → ℕ → Slot → Type 0
MayPut member rrn new = (rrn ≤ length member.slots) ⊎ ((rrn ≡ length member.slots + 1) × (is_live new ≡ true))

pub slot_of-put : (member : MemberState) (rrn place : ℕ) (new : Slot) → 1 ≤ rrn → MayPut member rrn new
    → cond (rrn - 1 == place) new (slot_of member.slots place) ≡ slot_of (slot_put rrn new member).slots place
slot_of-put member rrn place new counted (inl within) =
    slot_of-changed member rrn place new counted within ∙ ap (λ (m : MemberState). slot_of m.slots place) (sym (slot_put-changed member rrn new within))
slot_of-put member rrn place Deleted counted (inr behind) = absurd (let live = behind.1 in cc)
slot_of-put member rrn place (Live image) counted (inr behind) =
    let at : rrn - 1 ≡ length member.slots = omega (arith, behind.0) in
    ap (λ (k : ℕ). cond (k == place) (Live image) (slot_of member.slots place)) at
    ∙ slot_of-push member.slots (Live image) place
    ∙ ap (λ (m : MemberState). slot_of m.slots place) (sym (ap (λ (k : ℕ). slot_put k (Live image) member) behind.0 ∙ slot_put-appended member image))

-- ---- the slot that stands there

get-slot : (slots : List Slot) (place : ℕ) → unwrap_or (slice_get slots place) Deleted ≡ slot_of slots place
get-slot [] place = refl
get-slot (slot ∷ slots) zero = refl
get-slot (slot ∷ slots) (suc place) = get-slot slots place

pub slot_there-is : (member rrn : ℕ) (m : Memory) → 1 ≤ rrn → slot_there member rrn m ≡ slot_of (member_of member m.members).slots (rrn - 1)
slot_there-is member rrn m counted =
    let slots = (member_of member m.members).slots in
    ap (λ (b : Bool). unwrap_or (cond b None (slice_get slots (rrn - 1))) Deleted) (ne_eqb rrn 0 (λ e. absurd (omega arith)))
    ∙ get-slot slots (rrn - 1)

get-within : (slots : List Slot) (place : ℕ) → is_some (record_in (slice_get slots place)) ≡ true → place < length slots
get-within [] place live = absurd cc
get-within (slot ∷ slots) zero live = omega arith
get-within (slot ∷ slots) (suc place) live = let rest = get-within slots place live in omega arith

-- a record that stands has a number and a place
pub live-within : (member rrn : ℕ) (m : Memory) → IsSome (live_record member rrn m) → (1 ≤ rrn) × (rrn ≤ length (member_of member m.members).slots)
live-within member rrn m live =
    let slots = (member_of member m.members).slots in
    let stands : is_some (live_record member rrn m) ≡ true = is_some-IsSome (live_record member rrn m) live in
    elim (cases_eq rrn 0) [
      | inl none ↦ (let bad : false ≡ true = subst (λ (b : Bool). is_some (record_in (cond b None (slice_get slots (rrn - 1)))) ≡ true) (eq-eqb rrn 0 none) stands in absurd cc)
      | inr some ↦ (
          let counted : 1 ≤ rrn = omega (arith, some) in
          let within = get-within slots (rrn - 1) (subst (λ (b : Bool). is_some (record_in (cond b None (slice_get slots (rrn - 1)))) ≡ true) (ne_eqb rrn 0 some) stands) in
          (counted, omega (arith, counted, within)))
    ]

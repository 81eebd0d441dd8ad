-- A record that stands there may be changed.
use Rattle.std.proofs.Common.{◌≡◌, ◌∙◌, ℕ, zero, suc, ◌+◌, ◌-◌, ◌<◌, ◌≤◌, ◌==◌, true, false, if◌then◌else◌, is_some, IsSome, Option, Some, None, unwrap_or, List, [], ◌∷◌, length, length-append, slice_get, sym, ap, subst, refl, arith}
use Rattle.std.specs.List.{AllByRecursion}
use Rattle.std.proofs.lemmas.Bool.Decides.{nat_tests}
use Rattle.member_slots.specs.declared.slot.Slot.{Slot}
use Rattle.member_slots.specs.declared.slot.Slot.TheVariants.{Live, Deleted}
use Rattle.member_slots.specs.Member.{MemberState, FitsSlot, is_live, appended, changed, empty_member, slot_at}
use Rattle.member_slots.specs.Members.{NumberedMembers, member_at, member_of, with_member}
use Rattle.record_fmt.specs.declared.formats.Field.{Field}
use Rattle.record_fmt.specs.Layout.{record_length}
use Rattle.record_fmt.specs.Records.{record_held}
use Rattle.lawful_states.specs.Owners.{Owns, AreApart}
use Rattle.library_model.specs.Named.{Named, named}
use Rattle.library_steps.specs.State.{Memory, State, FileState, fields_of, memory_of}
use Rattle.library_steps.specs.Records.{live_record, record_in, slot_there}
use Rattle.library_steps.specs.SlotChange.{slot_put, with_slot}
use Rattle.lawful_states.specs.Members.{HasMember}
use Rattle.lawful_states.specs.Lawful.{HoldsValues, HasRecords}
use Rattle.lawful_states.proofs.MemberLemmas.{IsThere-IsSome, HasRecords-member_of, item_at-with_item_same, length-changed, record_length-changed, slot_put-appended, slot_put-changed}
use Rattle.lawful_states.specs.Slots.{MayStand}
use Rattle.record_changes.specs.Places.{FitsMember, MayPut, MayReturn}
use Rattle.record_changes.proofs.MoveLemmas.{changed-there, appended-there}

-- a place where a record stands, and in each field of it a value
pub record IsLivePlace (fields : List Field) (slots : List Slot) (rrn : ℕ) (image : List ℕ) : Type 0 where
  pub first : 1 ≤ rrn
  pub within : rrn ≤ length slots
  pub held : is_some (record_held fields image) ≡ true

live-slot : (fields : List Field) (slots : List Slot) (place : ℕ) (image : List ℕ) → AllByRecursion (HoldsValues fields) slots → record_in (slice_get slots place) ≡ Some image
    → IsLivePlace fields slots (suc place) image
live-slot fields [] place image all found = absurd cc
live-slot fields (Live other ∷ slots) zero image all found =
    let same : other ≡ image = cc in
    record { first = omega arith; within = omega arith; held = subst (λ (i : List ℕ). is_some (record_held fields i) ≡ true) same all.0 }
live-slot fields (Deleted ∷ slots) zero image all found = absurd cc
live-slot fields (slot ∷ slots) (suc place) image all found =
    let rest = live-slot fields slots place image all.1 found in
    let within = rest.within in
    record { first = omega arith; within = omega (arith, within); held = rest.held }

live-place : (fields : List Field) (member : MemberState) (rrn : ℕ) (image : List ℕ) → HasRecords fields member → record_in (slot_at member rrn) ≡ Some image
    → IsLivePlace fields member.slots rrn image
live-place fields member rrn image has found =
    elim (rrn == 0) as (λ b. (rrn == 0) ≡ b → record_in (if b then None else slice_get member.slots (rrn - 1)) ≡ Some image → IsLivePlace fields member.slots rrn image) [
      | true ↦ λ e none. absurd cc
      | false ↦ λ e some. (
          let place : suc (rrn - 1) ≡ rrn = grind (arith, nat_tests) in
          subst (λ n. IsLivePlace fields member.slots n image) place (live-slot fields member.slots (rrn - 1) image has.values some))
    ] refl found

-- two files that have one member are the same
Owns-same : (files : Named FileState) (name other : List ℕ) (file another : FileState) (number : ℕ) → AreApart files → Owns files name file number → Owns files other another number → file ≡ another
Owns-same files name other file another number apart one two =
    let same : name ≡ other = apart.apart name other file another number one two in
    let found : Some file ≡ Some another = sym one.there ∙ ap (λ (n : List ℕ). named n files) same ∙ two.there in
    cc

pub its-there : (s : State) (name : List ℕ) (file : FileState) (member : ℕ) → HasMember s name file member → IsSome (member_at member s.members)
its-there s name file member has = IsThere-IsSome (fields_of file) member s.members has.there

-- a slot with a record of the file may stand in its member
module _ (s : State) (name : List ℕ) (file : FileState) (member : ℕ) (has : HasMember s name file member) (slot : Slot) where
  pub its-fits : FitsSlot (record_length (fields_of file)) slot → FitsSlot (member_of member s.members).record_length slot
  its-fits fits = subst (λ (n : ℕ). FitsSlot n slot) (sym (HasRecords-member_of (fields_of file) member s.members has.there).long) fits

  pub its-values : AreApart s.files → HoldsValues (fields_of file) slot → MayStand s member slot
  its-values apart holds other another owns =
      subst (λ (f : FileState). HoldsValues (fields_of f) slot) (Owns-same s.files name other file another member apart has.owns owns) holds

-- no record stands in a deleted slot
pub deleted-fits : (s : State) (name : List ℕ) (file : FileState) (member : ℕ) → HasMember s name file member → FitsMember s member Deleted
deleted-fits s name file member has = record { there = its-there s name file member has; fits = tt; values = λ other another owns. tt }

module _ (s : State) (name : List ℕ) (file : FileState) (member rrn : ℕ) (has : HasMember s name file member) (old : List ℕ) (found : live_record member rrn (memory_of s) ≡ Some old) where
  its-records : HasRecords (fields_of file) (member_of member s.members)
  its-records = HasRecords-member_of (fields_of file) member s.members has.there

  its-place : IsLivePlace (fields_of file) (member_of member s.members).slots rrn old
  its-place = live-place (fields_of file) (member_of member s.members) rrn old its-records found

  -- a value stands in each field of it
  pub live-held : is_some (record_held (fields_of file) old) ≡ true
  live-held = its-place.held

  -- so it may stand in the member
  pub live-fits : AreApart s.files → length old ≡ (member_of member s.members).record_length → FitsMember s member (Live old)
  live-fits apart long = record {
    there = its-there s name file member has;
    fits = long;
    values = its-values s name file member has (Live old) apart live-held;
  }

  pub MayPut-live : (slot : Slot) → FitsMember s member slot → MayPut s.files s.members member rrn slot
  MayPut-live slot may =
      let within = its-place.within in
      record {
        there = may.there;
        first = its-place.first;
        near = omega (arith, within);
        fits = may.fits;
        values = may.values;
        added = λ behind. absurd (omega (arith, within, behind));
      }

-- ---- a place without a record

pub deleted-there : (o : Option Slot) → record_in o ≡ None → unwrap_or o Deleted ≡ Deleted
deleted-there None none = refl
deleted-there (Some Deleted) none = refl
deleted-there (Some (Live image)) none = absurd cc

nothing-behind : (slots : List Slot) → slice_get slots (length slots) ≡ None
nothing-behind [] = refl
nothing-behind (slot ∷ slots) = nothing-behind slots

-- the place behind the last
pub next-empty : (member : MemberState) → unwrap_or (slot_at member (length member.slots + 1)) Deleted ≡ Deleted
next-empty member =
    elim ((length member.slots + 1) == 0) as (λ b. unwrap_or (if b then None else slice_get member.slots (length member.slots + 1 - 1)) Deleted ≡ Deleted) [
      | true ↦ refl
      | false ↦ (
          let place : length member.slots + 1 - 1 ≡ length member.slots = omega arith in
          ap (λ (n : ℕ). unwrap_or (slice_get member.slots n) Deleted) place ∙ ap (λ (o : Option Slot). unwrap_or o Deleted) (nothing-behind member.slots))
    ]

-- ---- the slot that stood at a place where another is put

live-of : (slot : Slot) → is_live slot ≡ true → (image : List ℕ) × (slot ≡ Live image)
live-of (Live image) live = (image, refl)
live-of Deleted live = absurd cc

length-appended : (member : MemberState) (image : List ℕ) → length (appended member image).slots ≡ length member.slots + 1
length-appended member image = length-append member.slots (Live image ∷ [])

module _ (before after : State) (member rrn : ℕ) (slot old : Slot) (put : memory_of after ≡ with_slot member rrn slot (memory_of before)) (may : MayPut before.files before.members member rrn slot)
    (fits : FitsSlot (member_of member before.members).record_length old) (stood : MayStand before member old) where
  abbrev its : MemberState
  its = member_of member before.members

  back-at : (now : MemberState) → slot_put rrn slot its ≡ now → rrn ≤ length now.slots → now.record_length ≡ its.record_length → MayReturn after member rrn old
  back-at now is near long =
      let there = may.there in
      let members : after.members ≡ with_member member now before.members =
      ap (λ (m : Memory). m.members) put ∙ ap (λ (s : MemberState). with_member member s before.members) is in
      let here : member_at member after.members ≡ Some now = ap (λ (ms : NumberedMembers). member_at member ms) members ∙ item_at-with_item_same member now before.members there in
      let first = may.first in
      record {
        there = ap (λ (o : Option MemberState). is_some o) here;
        place = subst (λ (o : Option MemberState). rrn - 1 < length (unwrap_or o (empty_member 0)).slots) (sym here) (omega (arith, first, near));
        fits = subst (λ (o : Option MemberState). FitsSlot (unwrap_or o (empty_member 0)).record_length old) (sym here) (subst (λ (n : ℕ). FitsSlot n old) (sym long) fits);
        values = subst (λ (files : Named FileState). (name : List ℕ) (file : FileState) → Owns files name file member → HoldsValues (fields_of file) old)
            (sym (ap (λ (m : Memory). m.files) put)) stood;
      }

  -- at a place that the member had
  pub MayReturn-within : rrn ≤ length its.slots → MayReturn after member rrn old
  MayReturn-within within =
      let same = length-changed its rrn slot in
      back-at (changed its rrn slot) (slot_put-changed its rrn slot within) (omega (arith, same, within)) (record_length-changed its rrn slot)

  -- behind the last
  pub MayReturn-behind : rrn ≡ length its.slots + 1 → MayReturn after member rrn old
  MayReturn-behind behind =
      let live = live-of slot (may.added behind).live in
      let same = length-appended its live.0 in
      back-at (appended its live.0) ((λ i. slot_put (behind i) (live.1 i) its) ∙ slot_put-appended its live.0) (omega (arith, same, behind)) refl

-- ---- it stands where it was put

module _ (before after : State) (member rrn : ℕ) (slot : Slot) (put : memory_of after ≡ with_slot member rrn slot (memory_of before)) (may : MayPut before.files before.members member rrn slot) where
  abbrev was : MemberState
  was = member_of member before.members

  there-at : (now : MemberState) → slot_put rrn slot was ≡ now → unwrap_or (slot_at now rrn) Deleted ≡ slot → slot_there member rrn (memory_of after) ≡ slot
  there-at now is stands =
      let there = may.there in
      let members : after.members ≡ with_member member now before.members =
      ap (λ (m : Memory). m.members) put ∙ ap (λ (s : MemberState). with_member member s before.members) is in
      let here : member_at member after.members ≡ Some now = ap (λ (ms : NumberedMembers). member_at member ms) members ∙ item_at-with_item_same member now before.members there in
      ap (λ (o : Option MemberState). unwrap_or (slot_at (unwrap_or o (empty_member 0)) rrn) Deleted) here ∙ stands

  pub stands-within : rrn ≤ length was.slots → slot_there member rrn (memory_of after) ≡ slot
  stands-within within = there-at (changed was rrn slot) (slot_put-changed was rrn slot within) (changed-there was rrn slot may.first within)

  pub stands-behind : rrn ≡ length was.slots + 1 → slot_there member rrn (memory_of after) ≡ slot
  stands-behind behind =
      let live = live-of slot (may.added behind).live in
      there-at (appended was live.0) ((λ i. slot_put (behind i) (live.1 i) was) ∙ slot_put-appended was live.0)
      ((λ i. unwrap_or (slot_at (appended was live.0) (behind i)) Deleted) ∙ appended-there was live.0 ∙ sym live.1)

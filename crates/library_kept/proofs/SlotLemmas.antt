-- A library stays one where a slot of a member is another, and the change is kept in a commit cycle.
use Rattle.std.proofs.Common.{◌≡◌, ℕ, ◌+◌, ◌-◌, ◌*◌, ◌<◌, ◌≤◌, ◌==◌, if◌then◌else◌, Bool, true, false, Option, Some, None, is_some, unwrap_or, List, [], ◌∷◌, ◌++◌, length, refl, sym, ap, subst, arith}
use Rattle.std.proofs.lemmas.Bool.{eqb-true, eqb-false}
use Rattle.std.proofs.lemmas.Bool.Decides.{nat_tests}
use Rattle.lawful_states.specs.Owners.{Owns}
use Rattle.lawful_states.specs.declared.changes.StatusChange.TheVariants.{Touched}
use Rattle.member_slots.specs.declared.member.TheConstants.{MOST_SLOTS, MOST_BYTES}
use Rattle.member_slots.specs.declared.slot.Slot.{Slot}
use Rattle.member_slots.specs.declared.slot.Slot.TheVariants.{Live, Deleted}
use Rattle.member_slots.specs.Member.{MemberState, FitsSlot, appended, changed, empty_member, is_live, slot_at}
use Rattle.member_slots.specs.Members.{member_at, member_of, with_member}
use Rattle.record_fmt.specs.declared.formats.Field.{Field}
use Rattle.library_steps.specs.declared.limits.TheConstants.{MOST_LIBRARY_BYTES}
use Rattle.library_steps.specs.Ranges.{library_bytes}
use Rattle.library_steps.specs.Records.{slot_there}
use Rattle.library_steps.specs.SlotChange.{NewSlot, change_made, cycle_for, noted, slot_changed, slot_put, touched, with_cycle, with_slot, with_undo}
use Rattle.library_steps.specs.State.{Memory, FileState, job_of, with_job, with_status, fields_of}
use Rattle.lawful_states.specs.Lawful.{HoldsValues, HasRecords, FitsPlace, GoesBack}
use Rattle.lawful_states.specs.Slots.{MayStand}
use Rattle.lawful_states.proofs.BackLemmas.{CycleGoesBack-of, CycleGoesBack-noted}
use Rattle.lawful_states.proofs.BoundaryLemmas.{is_some-there}
use Rattle.lawful_states.proofs.LawfulLemmas.{AreOne-appended, AreOne-changed}
use Rattle.lawful_states.proofs.MemberLemmas.{HasRecords-member_of, HoldsValues-at, item_at-with_item_same, length-changed, length-push, record_length-changed, weight-changed}
use Rattle.joint_state.specs.Limits.{IsWithin}
use Rattle.library_kept.proofs.FieldLemmas.{FitsSlot-held}
use Rattle.library_kept.proofs.StandLemmas.{bare, Stands, one-of, Stands-job, Stands-status, within-with, within-of}

-- a place behind the last that a member may have
pub record HasRoom (m : Memory) (member : ℕ) (slot : Slot) : Type 0 where
  pub live : is_live slot ≡ true
  pub few : length (member_of member m.members).slots + 1 ≤ MOST_SLOTS
  pub small : (length (member_of member m.members).slots + 1) * (member_of member m.members).record_length ≤ MOST_BYTES
  pub bytes : library_bytes m.members + (member_of member m.members).record_length ≤ MOST_LIBRARY_BYTES

-- the slot may come to stand at this place
pub record MayTake (m : Memory) (member rrn : ℕ) (slot : Slot) : Type 0 where
  pub there : is_some (member_at member m.members) ≡ true
  pub values : MayStand (bare m) member slot
  pub first : 1 ≤ rrn
  pub near : rrn ≤ length (member_of member m.members).slots + 1
  pub added : rrn ≡ length (member_of member m.members).slots + 1 → HasRoom m member slot

-- ---- the member

pub within-changed : (member : MemberState) (rrn : ℕ) (slot : Slot) → IsWithin member → IsWithin (changed member rrn slot)
within-changed member rrn slot is = record {
  few = subst (λ n. n ≤ MOST_SLOTS) (sym (length-changed member rrn slot)) is.few;
  small = subst (λ n. n ≤ MOST_BYTES) (sym (weight-changed member rrn slot)) is.small;
}

within-appended : (m : Memory) (member : ℕ) (slot : Slot) (image : List ℕ) → HasRoom m member slot → IsWithin (appended (member_of member m.members) image)
within-appended m member slot image room =
    let its = member_of member m.members in
    let more : length (its.slots ++ Live image ∷ []) ≡ length its.slots + 1 = (let pushed = length-push its.slots (Live image) in omega (arith, pushed)) in record {
      few = subst (λ n. n ≤ MOST_SLOTS) (sym more) room.few;
      small = subst (λ n. n * its.record_length ≤ MOST_BYTES) (sym more) room.small;
    }

module _ (m : Memory) (member rrn : ℕ) (stands : Stands m) where
  abbrev its : MemberState
  its = member_of member m.members

  changed-stands : (slot : Slot) → is_some (member_at member m.members) ≡ true → MayStand (bare m) member slot → Stands (record m { members = with_member member (changed its rrn slot) m.members })
  changed-stands slot there values = record {
    library = (AreOne-changed (bare m) (library_bytes m.members) member rrn slot (one-of (bare m) stands.library) (is_some-there (member_at member m.members) there) values).lawful;
    within = within-with m.members member (changed its rrn slot) (within-changed its rrn slot (within-of member m.members stands.within)) stands.within;
  }

  appended-stands : (image : List ℕ) → MayTake m member rrn (Live image) → rrn ≡ length its.slots + 1 → Stands (record m { members = with_member member (appended its image) m.members })
  appended-stands image may behind = let room = may.added behind in record {
    library = (AreOne-appended (bare m) (library_bytes m.members) its.record_length member image (one-of (bare m) stands.library) (is_some-there (member_at member m.members) may.there) may.values refl
        room.bytes).lawful;
    within = within-with m.members member (appended its image) (within-appended m member (Live image) image room) stands.within;
  }

  pub Stands-slot : (slot : Slot) → MayTake m member rrn slot → Stands (with_slot member rrn slot m)
  Stands-slot Deleted may = changed-stands Deleted may.there may.values
  Stands-slot (Live image) may =
      elim (rrn == length its.slots + 1) as (λ b. (rrn == length its.slots + 1) ≡ b
      → Stands (record m { members = with_member member (if b then appended its image else changed its rrn (Live image)) m.members })) [
        | true ↦ λ is. appended-stands image may (eqb-true rrn (length its.slots + 1) is)
        | false ↦ λ is. changed-stands (Live image) may.there may.values
      ] refl

  -- the place is there then
  put-within : (slot : Slot) → MayTake m member rrn slot → rrn ≤ length (slot_put rrn slot its).slots
  put-within Deleted may =
      let same = length-changed its rrn Deleted in
      let near = may.near in
      elim (rrn == length its.slots + 1) as (λ b. (rrn == length its.slots + 1) ≡ b → rrn ≤ length (changed its rrn Deleted).slots) [
        | true ↦ λ is. absurd (let live = (may.added (eqb-true rrn (length its.slots + 1) is)).live in cc)
        | false ↦ λ is. let other = eqb-false rrn (length its.slots + 1) is in grind (arith, nat_tests, same, near, is)
      ] refl
  put-within (Live image) may =
      let same = length-changed its rrn (Live image) in
      let more = length-push its.slots (Live image) in
      let near = may.near in
      elim (rrn == length its.slots + 1) as (λ b. (rrn == length its.slots + 1) ≡ b → rrn ≤ length (if b then appended its image else changed its rrn (Live image)).slots) [
        | true ↦ λ is. omega (arith, near, more)
        | false ↦ λ is. grind (arith, nat_tests, same, near, is)
      ] refl

  put-length : (slot : Slot) → (slot_put rrn slot its).record_length ≡ its.record_length
  put-length Deleted = record_length-changed its rrn Deleted
  put-length (Live image) =
      elim (rrn == length its.slots + 1) as (λ b. (if b then appended its image else changed its rrn (Live image)).record_length ≡ its.record_length) [
        | true ↦ refl
        | false ↦ record_length-changed its rrn (Live image)
      ]

-- ---- the slot that stood there

HoldsValues-there : (fields : List Field) (member : MemberState) (rrn : ℕ) → HasRecords fields member → HoldsValues fields (unwrap_or (slot_at member rrn) Deleted)
HoldsValues-there fields member rrn has = by (slot_at member rrn) refl
  where
    by : (o : Option Slot) → slot_at member rrn ≡ o → HoldsValues fields (unwrap_or o Deleted)
    by None is = tt
    by (Some slot) is = HoldsValues-at fields member rrn slot has is

-- it has values in each field of a file that has the member
pub there-stands : (m : Memory) (member rrn : ℕ) → Stands m → MayStand (bare m) member (slot_there member rrn m)
there-stands m member rrn stands name file owns =
    HoldsValues-there (fields_of file) (member_of member m.members) rrn (HasRecords-member_of (fields_of file) member m.members (stands.library.members name file member owns))

module _ (m : Memory) (name : List ℕ) (file : FileState) (member rrn : ℕ) (stands : Stands m) (owns : Owns m.files name file member) where
  pub its-records : HasRecords (fields_of file) (member_of member m.members)
  its-records = HasRecords-member_of (fields_of file) member m.members (stands.library.members name file member owns)

  -- and the member's record length
  there-fits : FitsSlot (member_of member m.members).record_length (slot_there member rrn m)
  there-fits =
      subst (λ (n : ℕ). FitsSlot n (slot_there member rrn m)) (sym its-records.long)
      (FitsSlot-held (fields_of file) (slot_there member rrn m) (there-stands m member rrn stands name file owns))

-- ---- the change is kept

module _ (m : Memory) (job : ℕ) (new : NewSlot) (stands : Stands m) (name : List ℕ) (file : FileState) (owns : Owns m.files name file new.opened.member)
    (may : MayTake m new.opened.member new.rrn new.slot) where
  abbrev put : Memory
  put = with_slot new.opened.member new.rrn new.slot m

  abbrev now : MemberState
  now = slot_put new.rrn new.slot (member_of new.opened.member m.members)

  undo-place : FitsPlace put.members (change_made m (job_of job m) new)
  undo-place =
      let here : member_at new.opened.member put.members ≡ Some now = item_at-with_item_same new.opened.member now m.members may.there in
      let within = put-within m new.opened.member new.rrn stands new.slot may in
      let first = may.first in
      record {
        there = ap (λ (o : Option MemberState). is_some o) here;
        place = subst (λ (o : Option MemberState). new.rrn - 1 < length (unwrap_or o (empty_member 0)).slots) (sym here) (omega (arith, within, first));
        fits = subst (λ (o : Option MemberState). FitsSlot (unwrap_or o (empty_member 0)).record_length (slot_there new.opened.member new.rrn m)) (sym here)
            (subst (λ (n : ℕ). FitsSlot n (slot_there new.opened.member new.rrn m)) (sym (put-length m new.opened.member new.rrn stands new.slot))
            (there-fits m name file new.opened.member new.rrn stands owns));
      }

  undo-back : GoesBack m.files put.members (cycle_for m (job_of job m)).sequence (change_made m (job_of job m) new)
  undo-back = record { cycle = refl; place = undo-place; values = there-stands m new.opened.member new.rrn stands }

  put-stands : Stands put
  put-stands = Stands-slot m new.opened.member new.rrn stands new.slot may

  undone-stands : (commit : Bool) → Stands (with_undo commit job (change_made m (job_of job m) new) (cycle_for m (job_of job m)) (with_status new.opened.member touched put))
  undone-stands false = Stands-status put new.opened.member Touched put-stands
  undone-stands true =
      let kept = CycleGoesBack-noted m.files put.members (m.last_entry + 1) (job_of job m).cycle (change_made m (job_of job m) new)
      (CycleGoesBack-of m.files put.members job m.jobs put-stands.library.changes) undo-back in
      Stands-status (with_job job (with_cycle (noted (change_made m (job_of job m) new) (cycle_for m (job_of job m)))) put) new.opened.member Touched
      (Stands-job put job (with_cycle (noted (change_made m (job_of job m) new) (cycle_for m (job_of job m)))) put-stands (λ j holds. holds) (λ j back. kept))

  pub Stands-changed : Stands (slot_changed job new m)
  Stands-changed = undone-stands new.opened.commit

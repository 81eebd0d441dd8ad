-- Changes of a commit cycle stand as they were made after whatever leaves the slots at their places.
use Rattle.std.proofs.Common.{◌≡◌, ◌⊎◌, inl, inr, ◌+◌, List, [], ◌∷◌, Option, unwrap_or, sym, ◌∙◌, ap, arith}
use Rattle.std.specs.List.{AllByRecursion}
use Rattle.std.specs.Option.{option_map}
use Rattle.std.proofs.lemmas.Bool.{cases_eq}
use Rattle.member_slots.specs.declared.slot.Slot.{Slot}
use Rattle.member_slots.specs.declared.slot.Slot.TheVariants.{Deleted}
use Rattle.member_slots.specs.Member.{changed}
use Rattle.member_slots.specs.Members.{NumberedMembers, member_of, with_member}
use Rattle.journal_model.specs.Places.{slot_of}
use Rattle.journal_model.specs.Replay.{before_of}
use Rattle.journal_model.specs.Rollback.{MemberChange}
use Rattle.joint_state.specs.Cycles.{StandAsMade}
use Rattle.cycles_kept.proofs.PlaceLemmas.{record_at, slot_of-get, record-changed_other, record-changed_same}

-- the slot that was changed is the same in both
abbrev pub Alike : NumberedMembers → NumberedMembers → MemberChange → Type 0
Alike members later undo = record_at undo.member undo.change.place later ≡ record_at undo.member undo.change.place members

-- the change taken back
abbrev pub back : MemberChange → NumberedMembers → NumberedMembers
back undo members = with_member undo.member (changed (member_of undo.member members) (undo.change.place + 1) (before_of undo.change)) members

-- both are of one record, or not
abbrev pub IsOfOne : MemberChange → MemberChange → Type 0
IsOfOne undo other = (other.member ≡ undo.member) × (other.change.place ≡ undo.change.place)

abbrev pub AreOfTwo : MemberChange → MemberChange → Type 0
AreOfTwo undo other = other.member ≡ undo.member → other.change.place ≡ undo.change.place → ⊥

pub one_or_two : (undo other : MemberChange) → IsOfOne undo other ⊎ AreOfTwo undo other
one_or_two undo other =
    elim (cases_eq other.member undo.member) [
      | inl member ↦ elim (cases_eq other.change.place undo.change.place) [ inl place ↦ inl (member, place) | inr differ ↦ inr (λ m p. differ p) ]
      | inr differ ↦ inr (λ m p. differ m)
    ]

pub back-other : (undo other : MemberChange) (members : NumberedMembers) → AreOfTwo undo other → Alike members (back undo members) other
back-other undo other members differ =
    record-changed_other other.member undo.member other.change.place (undo.change.place + 1) (before_of undo.change) members (λ member place. differ member (omega (arith, place)))

pub back-same : (undo : MemberChange) (members : NumberedMembers)
    → record_at undo.member undo.change.place (back undo members) ≡ option_map (λ old. before_of undo.change) (record_at undo.member undo.change.place members)
back-same undo members = record-changed_same undo.member undo.change.place (before_of undo.change) members

back-alike : (undo other : MemberChange) (members later : NumberedMembers) → Alike members later undo → Alike members later other → Alike (back undo members) (back undo later) other
back-alike undo other members later first second =
    elim (one_or_two undo other) [
      | inl one ↦ (λ i. record_at (one.0 i) (one.1 i) (back undo later)) ∙ back-same undo later ∙ ap (option_map (λ old. before_of undo.change)) first ∙ sym (back-same undo members)
          ∙ sym (λ i. record_at (one.0 i) (one.1 i) (back undo members))
      | inr two ↦ back-other undo other later two ∙ second ∙ sym (back-other undo other members two)
    ]

all-alike : (undo : MemberChange) (undos : List MemberChange) (members later : NumberedMembers) → Alike members later undo → AllByRecursion (Alike members later) undos
    → AllByRecursion (Alike (back undo members) (back undo later)) undos
all-alike undo [] members later first all = tt
all-alike undo (other ∷ undos) members later first all = (back-alike undo other members later first all.0, all-alike undo undos members later first all.1)

pub slot-alike : (undo : MemberChange) (members later : NumberedMembers) → Alike members later undo
    → slot_of (member_of undo.member later).slots undo.change.place ≡ slot_of (member_of undo.member members).slots undo.change.place
slot-alike undo members later same =
    slot_of-get (member_of undo.member later).slots undo.change.place ∙ ap (λ (o : Option Slot). unwrap_or o Deleted) same
    ∙ sym (slot_of-get (member_of undo.member members).slots undo.change.place)

pub stand-alike : (undos : List MemberChange) (members later : NumberedMembers) → AllByRecursion (Alike members later) undos → StandAsMade undos members → StandAsMade undos later
stand-alike [] members later all stand = tt
stand-alike (undo ∷ undos) members later all stand =
    (slot-alike undo members later all.0 ∙ stand.0, stand-alike undos (back undo members) (back undo later) (all-alike undo undos members later all.0 all.1) stand.1)

-- members that are the same
pub alike-same : (undos : List MemberChange) (members later : NumberedMembers) → later ≡ members → AllByRecursion (Alike members later) undos
alike-same [] members later same = tt
alike-same (undo ∷ undos) members later same = (ap (record_at undo.member undo.change.place) same, alike-same undos members later same)

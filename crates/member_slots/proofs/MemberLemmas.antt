-- What stays true of a member when it changes.
use Rattle.std.proofs.Common.{◌≤◌, ◌*◌, not, length, arith, refl}
use Rattle.std.specs.List.{filter}
use Rattle.std.proofs.Math.Nat.{mul-le-mul_right}
use Rattle.std.proofs.lemmas.List.Elements.{All-filter}
use Rattle.std.proofs.lemmas.List.Filters.{length-filter_both}
use Rattle.member_slots.specs.declared.slot.Slot.{Slot}
use Rattle.member_slots.specs.Member.{MemberState, IsMember, FitsSlot, is_live, reorganized}

-- a member stays one when it is reorganized
pub IsMember-reorganized : (member : MemberState) → IsMember member → IsMember (reorganized member)
IsMember-reorganized member h =
    let fewer : length (filter is_live member.slots) ≤ length member.slots =
    omega (arith, length-filter_both is_live (λ (slot : Slot). not (is_live slot)) (λ _. refl) member.slots) in
    let smaller : length (filter is_live member.slots) * member.record_length ≤ length member.slots * member.record_length = mul-le-mul_right member.record_length fewer in
    record {
      records = All-filter is_live (FitsSlot member.record_length) member.slots h.records;
      slots = omega (arith, h.slots);
      bytes = omega (arith, h.bytes);
    }

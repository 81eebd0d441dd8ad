use Rattle.std.proofs.Common.{◌≤◌, length, arith, sym}
use Rattle.range_images.proofs.GivenLemmas.{slot_of-there, slot_of-past}
use Rattle.given_changes.proofs.standing.member_slot.Goals as goal

pub returns-then-place-slots : goal.returns-then-place-slots
returns-then-place-slots c = slot_of-there c.args.member.now.state c.args.place c.slot.result.now c.slot.ensures.value

pub returns-else-place-slots : goal.returns-else-place-slots
returns-else-place-slots c =
    let past : length c.args.member.now.state.slots ≤ c.args.place = omega (arith, c.slots.ensures.value, c.if-place-slots.false) in
    sym (slot_of-past c.args.member.now.state.slots c.args.place past)

use Rattle.std.proofs.Common.{◌+◌, arith}
use Rattle.display.proofs.MemberLemmas.{count-next, count-end}
use Rattle.display.proofs.members.live_records.Goals as goal

pub loop-place-preserved : goal.loop-place-preserved
loop-place-preserved c =
    let step = count-next c.args.member.now.state c.loop-place.place c.slot.result.now c.slot.ensures.value in
    let so_far = c.loop-place.invariant.counted in
    let here = c.live_in-live.ensures.count in
    record {
      counted = omega (arith, step, so_far, here);
      few = omega (arith, c.loop-place.invariant.few, c.live_in-live.ensures.few);
    }

pub returns : goal.returns
returns c =
    let all = c.slots-place-end.ensures.value in
    let none = count-end (c.loop-place.place + 1) c.loop-place.place c.args.member.now.state.slots (omega (arith, all)) in
    let so_far = c.loop-place.invariant.counted in
    omega (arith, none, so_far)

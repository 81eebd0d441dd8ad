use Rattle.std.proofs.Common.{◌+◌, arith}
use Rattle.display.proofs.MemberLemmas.{records-next, records-end}
use Rattle.display.proofs.members.push_records.Goals as goal

pub loop-place-preserved : goal.loop-place-preserved
loop-place-preserved c =
    records-next c.args.member.now.state c.loop-place.place c.slot.result.now c.loop-place.out.items c.push_slot.new.out.items _
    c.slot.ensures.value c.in_ok-push_slot.ensures c.loop-place.invariant

pub returns : goal.returns
returns c =
    let all = c.slots-place-end.ensures.value in
    records-end (c.loop-place.place + 1) c.loop-place.place c.args.member.now.state.slots c.loop-place.out.items _ (omega (arith, all)) c.loop-place.invariant

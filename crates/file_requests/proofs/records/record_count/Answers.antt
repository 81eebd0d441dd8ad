use Rattle.std.proofs.Common.{◌+◌, ◌<◌, ◌≤◌, length, arith}
use Rattle.member_slots.specs.Members.{member_of}
use Rattle.file_requests.proofs.RecordLemmas.{records_from-place, records_from-end}
use Rattle.file_requests.proofs.records.record_count.Goals as goal

pub loop-place-preserved : goal.loop-place-preserved
loop-place-preserved c =
    let member = member_of c.args.member c.args.contents.now.state.members in
    let within : c.loop-place.place < length member.slots = omega arith in
    let step = records_from-place member c.loop-place.place within in
    let so_far = c.loop-place.invariant.counted in
    let here = c.count_at-count.ensures.count in
    record {
      counted = omega (arith, step, so_far, here);
      few = omega (arith, c.loop-place.invariant.few, c.count_at-count.ensures.few);
    }

pub returns : goal.returns
returns c =
    let member = member_of c.args.member c.args.contents.now.state.members in
    let past : length member.slots ≤ c.loop-place.place = omega arith in
    let none = records_from-end (c.loop-place.place + 1) c.loop-place.place member.slots past in
    let so_far = c.loop-place.invariant.counted in
    omega (arith, none, so_far)

use Rattle.std.proofs.Common.{◌<◌, ◌≤◌, length, arith}
use Rattle.member_slots.specs.Members.{member_of}
use Rattle.file_requests.proofs.RecordLemmas.{drafts-step, drafts-end}
use Rattle.file_requests.proofs.records.drafts_of_start.Goals as goal

pub loop-place-preserved : goal.loop-place-preserved
loop-place-preserved c =
    let member = member_of c.args.member c.args.contents.now.state.members in
    let within : c.loop-place.place < length member.slots = omega arith in
    record {
      drafts = drafts-step c.args.author.now c.args.member member c.loop-place.place _ _ _ within c.loop-place.invariant.drafts c.in_ok-push_record.ensures.drafts;
      few = omega (arith, c.loop-place.invariant.few, c.in_ok-push_record.ensures.few);
    }

pub returns-clause-drafts : goal.returns-clause-drafts
returns-clause-drafts c =
    let member = member_of c.args.member c.args.contents.now.state.members in
    let past : length member.slots ≤ c.loop-place.place = omega arith in
    drafts-end c.args.author.now c.args.member _ c.loop-place.place member.slots _ _ past c.loop-place.invariant.drafts

pub returns-clause-few : goal.returns-clause-few
returns-clause-few c = omega (arith, c.loop-place.invariant.few, c.slots_of-slots.ensures.few)

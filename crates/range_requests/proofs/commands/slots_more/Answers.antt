use Rattle.std.proofs.Common.{◌≡◌, List, Option, unwrap_or, length, ap, ◌∙◌, arith}
use Rattle.member_slots.specs.Member.{MemberState, empty_member}
use Rattle.member_slots.specs.Members.{member_at, member_of}
use Rattle.range_images.specs.declared.slot_given.SlotGiven.{SlotGiven}
use Rattle.range_images.specs.Given.{given_slots}
use Rattle.library_parts.proofs.GivenLemmas.{grows}
use Rattle.range_requests.proofs.PlanLemmas.{shown-member}
use Rattle.range_requests.proofs.commands.slots_more.Goals as goal

pub overflow_sub-result : goal.overflow_sub-result
overflow_sub-result c =
    let plan = c.args.plan.now in
    let member = c.unwrap-member.result.now.state in
    let count : c.slots_after.result ≡ length (given_slots plan.given.items member.slots) = c.slots_after.ensures ∙ ap (λ (given : List SlotGiven). length (given_slots given member.slots)) c.as_slice.ensures.value in
    omega (arith, count, c.slots.ensures.value, grows plan.given.items member.slots)

pub returns : goal.returns
returns c =
    let s = c.args.contents.now.state in
    let plan = c.args.plan.now in
    let member = c.unwrap-member.result.now.state in
    let there = shown-member c.member.result c.unwrap-member.result (member_at plan.member s.members) c.unwrap-member.ensures c.member.ensures in
    let found : member_of plan.member s.members ≡ member = ap (λ (o : Option MemberState). unwrap_or o (empty_member 0)) there in
    let count : c.slots_after.result ≡ length (given_slots plan.given.items member.slots) = c.slots_after.ensures ∙ ap (λ (given : List SlotGiven). length (given_slots given member.slots)) c.as_slice.ensures.value in
    let after = ap (λ (m : MemberState). length (given_slots plan.given.items m.slots)) found in
    let before = ap (λ (m : MemberState). length m.slots) found in
    omega (arith, count, after, before, c.slots.ensures.value, grows plan.given.items member.slots)

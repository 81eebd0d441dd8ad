use Rattle.std.proofs.Common.{◌≡◌, List, length, ap, ◌∙◌, arith}
use Rattle.entry_codec.specs.declared.entries.Draft.{Draft}
use Rattle.member_slots.specs.Members.{member_at}
use Rattle.library_parts.specs.Sizes.{draft_bytes}
use Rattle.range_images.specs.declared.slot_given.SlotGiven.{SlotGiven}
use Rattle.range_images.specs.Given.{given_slots}
use Rattle.library_parts.proofs.GivenLemmas.{grows}
use Rattle.range_requests.proofs.PlanLemmas.{bytes-after, limits-entries, limits-members, limits-ok, shown-member}
use Rattle.range_requests.proofs.plans.check_limits.Goals as goal

pub overflow_sub-slots_after : goal.overflow_sub-slots_after
overflow_sub-slots_after c =
    let s = c.args.contents.now.state in
    let plan = c.args.plan.now in
    let member = c.unwrap-member.result.now.state in
    let there = shown-member c.member.result c.unwrap-member.result (member_at plan.member s.members) c.unwrap-member.ensures c.member.ensures in
    let count : c.slots_after.result ≡ length (given_slots plan.given.items member.slots) = c.slots_after.ensures ∙ ap (λ (given : List SlotGiven). length (given_slots given member.slots)) c.as_slice.ensures.value in
    omega (arith, count, c.slots.ensures.value, grows plan.given.items member.slots)

pub returns-then-member_bytes-more-gt-MOST_LIBRARY_BYTES : goal.returns-then-member_bytes-more-gt-MOST_LIBRARY_BYTES
returns-then-member_bytes-more-gt-MOST_LIBRARY_BYTES c =
    let s = c.args.contents.now.state in
    let plan = c.args.plan.now in
    let member = c.unwrap-member.result.now.state in
    let there = shown-member c.member.result c.unwrap-member.result (member_at plan.member s.members) c.unwrap-member.ensures c.member.ensures in
    let count : c.slots_after.result ≡ length (given_slots plan.given.items member.slots) = c.slots_after.ensures ∙ ap (λ (given : List SlotGiven). length (given_slots given member.slots)) c.as_slice.ensures.value in
    let bytes = bytes-after s plan member c.slots_after.result c.slots.result c.from-more.result c.from.result c.member_bytes.result there count c.slots.ensures.value c.from-more.ensures (c.from.ensures ∙ c.length.ensures.value) c.member_bytes.ensures.value in
    rw c.exceeded.ensures (limits-members s plan (omega (arith, bytes, c.if-member_bytes-more-gt-MOST_LIBRARY_BYTES.true)))

pub returns-then-bytes_of-gt-MOST_BLOCK_BYTES : goal.returns-then-bytes_of-gt-MOST_BLOCK_BYTES
returns-then-bytes_of-gt-MOST_BLOCK_BYTES c =
    let s = c.args.contents.now.state in
    let plan = c.args.plan.now in
    let member = c.unwrap-member.result.now.state in
    let there = shown-member c.member.result c.unwrap-member.result (member_at plan.member s.members) c.unwrap-member.ensures c.member.ensures in
    let count : c.slots_after.result ≡ length (given_slots plan.given.items member.slots) = c.slots_after.ensures ∙ ap (λ (given : List SlotGiven). length (given_slots given member.slots)) c.as_slice.ensures.value in
    let bytes = bytes-after s plan member c.slots_after.result c.slots.result c.from-more.result c.from.result c.member_bytes.result there count c.slots.ensures.value c.from-more.ensures (c.from.ensures ∙ c.length.ensures.value) c.member_bytes.ensures.value in
    let drafts = ap (λ (ds : List Draft). draft_bytes ds) c.as_slice-2.ensures.value in
    rw c.exceeded-then-bytes_of-gt-MOST_BLOCK_BYTES.ensures
    (limits-entries s plan (omega (arith, bytes, c.if-member_bytes-more-gt-MOST_LIBRARY_BYTES.false)) (omega (arith, drafts, c.bytes_of.ensures, c.if-bytes_of-gt-MOST_BLOCK_BYTES.true)))

pub returns : goal.returns
returns c =
    let s = c.args.contents.now.state in
    let plan = c.args.plan.now in
    let member = c.unwrap-member.result.now.state in
    let there = shown-member c.member.result c.unwrap-member.result (member_at plan.member s.members) c.unwrap-member.ensures c.member.ensures in
    let count : c.slots_after.result ≡ length (given_slots plan.given.items member.slots) = c.slots_after.ensures ∙ ap (λ (given : List SlotGiven). length (given_slots given member.slots)) c.as_slice.ensures.value in
    let bytes = bytes-after s plan member c.slots_after.result c.slots.result c.from-more.result c.from.result c.member_bytes.result there count c.slots.ensures.value c.from-more.ensures (c.from.ensures ∙ c.length.ensures.value) c.member_bytes.ensures.value in
    let drafts = ap (λ (ds : List Draft). draft_bytes ds) c.as_slice-2.ensures.value in
    limits-ok s plan (omega (arith, bytes, c.if-member_bytes-more-gt-MOST_LIBRARY_BYTES.false)) (omega (arith, drafts, c.bytes_of.ensures, c.if-bytes_of-gt-MOST_BLOCK_BYTES.false))

use Rattle.std.proofs.Common.{◌≡◌, IfOk, Option, unwrap_or, sym, ap, subst}
use Rattle.member_slots.specs.Member.{MemberState, empty_member}
use Rattle.member_slots.specs.Members.{member_at, member_of}
use Rattle.library_parts.specs.Given.{AddRecords}
use Rattle.range_requests.proofs.PlanLemmas.{shown-member}
use Rattle.range_requests.proofs.plans.walk_back.Goals as goal

pub returns-clause-records : goal.returns-clause-records
returns-clause-records c =
    let s = c.args.contents.now.state in
    let found = c.args.found in
    let there = shown-member c.member.result c.unwrap-member.result (member_at found.member s.members) c.unwrap-member.ensures c.member.ensures in
    let same : member_of found.member s.members ≡ c.unwrap-member.result.now.state = ap (λ (o : Option MemberState). unwrap_or o (empty_member 0)) there in
    subst (λ (m : MemberState). IfOk c.backward.result (λ walk. AddRecords walk.given.items m.slots)) (sym same) c.backward.ensures.records

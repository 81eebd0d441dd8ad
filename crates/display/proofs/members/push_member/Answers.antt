use Rattle.display.proofs.MemberLemmas.{member-absent}
use Rattle.display.proofs.members.push_member.Goals as goal

pub returns-in_ok-push_member_line-in-None : goal.returns-in_ok-push_member_line-in-None
returns-in_ok-push_member_line-in-None c =
    member-absent c.args.name.now c.args.status.now c.number.result c.args.members.now.members _ _
    c.number.ensures c.in-None.ensures.found c.in_ok-push_member_line-in-None.ensures

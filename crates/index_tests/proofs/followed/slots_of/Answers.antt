use Rattle.index_tests.proofs.FollowLemmas.{slots-in, slots-none}
use Rattle.index_tests.proofs.followed.slots_of.Goals as goal

pub returns-in-Some : goal.returns-in-Some
returns-in-Some c = slots-in c.args.members.now.members c.in-Some.member.now.state c.slots.result c.in-Some.ensures.found c.slots.ensures.value

pub returns-in-None : goal.returns-in-None
returns-in-None c = slots-none c.args.members.now.members c.in-None.ensures.found

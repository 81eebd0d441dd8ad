use Rattle.member_slots.specs.Members.{without_member}
use Rattle.path_set.proofs.MemberStepLemmas.{over-new, over-others, same-without}
use Rattle.path_set.proofs.member_laws.paths_stay_where_members_come_and_go.Goals as goal

pub returns-clause-put : goal.returns-clause-put
returns-clause-put c = over-new

pub returns-clause-gone : goal.returns-clause-gone
returns-clause-gone c number members paths = over-others number members (without_member number members) paths (same-without number members)

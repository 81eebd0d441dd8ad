use Rattle.journal_model.proofs.MemberLemmas.{members_after-each}
use Rattle.journal_model.proofs.members.members_are_apart.Goals as goal

pub returns : goal.returns
returns c = members_after-each

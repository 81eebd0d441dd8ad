use Rattle.path_set.proofs.MemberStepLemmas.{entries-others, moves-others, moves-over}
use Rattle.path_set.proofs.member_laws.paths_of_others_stay.Goals as goal

pub returns-clause-entries : goal.returns-clause-entries
returns-clause-entries c = entries-others

pub returns-clause-moves : goal.returns-clause-moves
returns-clause-moves c = moves-others

pub returns-clause-all : goal.returns-clause-all
returns-clause-all c = moves-over

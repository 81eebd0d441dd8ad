use Rattle.path_set.proofs.MemberStepLemmas.{same-with}
use Rattle.path_set.proofs.RebuildLemmas.{rebuilt-ties, rebuilt-over, rebuilt-shared}
use Rattle.path_set.proofs.member_laws.rebuilt_paths_are_those_of_the_members.Goals as goal

pub returns-clause-ties : goal.returns-clause-ties
returns-clause-ties c = rebuilt-ties

pub returns-clause-over : goal.returns-clause-over
returns-clause-over c = rebuilt-over

pub returns-clause-same : goal.returns-clause-same
returns-clause-same c = same-with

pub returns-clause-shared : goal.returns-clause-shared
returns-clause-shared c paths rebuilt = rebuilt-shared rebuilt paths

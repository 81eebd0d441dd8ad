use Rattle.path_set.proofs.ManyLemmas.{many-over, many-made, many-few, all-of-member, shared-after}
use Rattle.path_set.proofs.many_laws.paths_follow_many_changes.Goals as goal

pub returns-clause-over : goal.returns-clause-over
returns-clause-over c = many-over

pub returns-clause-made : goal.returns-clause-made
returns-clause-made c = many-made

pub returns-clause-few : goal.returns-clause-few
returns-clause-few c = many-few

pub returns-clause-member : goal.returns-clause-member
returns-clause-member c = all-of-member

pub returns-clause-shared : goal.returns-clause-shared
returns-clause-shared c = shared-after

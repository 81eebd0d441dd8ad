use Rattle.path_set.proofs.RecordLemmas.{paths-made, paths-over}
use Rattle.path_set.proofs.laws.paths_follow_a_change.Goals as goal

pub returns-clause-made : goal.returns-clause-made
returns-clause-made c = paths-made

pub returns-clause-over : goal.returns-clause-over
returns-clause-over c = paths-over

use Rattle.path_set.proofs.RecordLemmas.{moves-opposite, moves-later}
use Rattle.path_set.proofs.laws.opposite_is_the_change_back.Goals as goal

pub returns-clause-opposite : goal.returns-clause-opposite
returns-clause-opposite c = moves-opposite

pub returns-clause-later : goal.returns-clause-later
returns-clause-later c = moves-later

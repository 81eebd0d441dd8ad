use Rattle.access_path.proofs.MoveLemmas.{move-undone, opposite-fits}
use Rattle.access_path.proofs.laws.opposite_undoes_a_move.Goals as goal

pub returns-clause-fits : goal.returns-clause-fits
returns-clause-fits c = opposite-fits

pub returns-clause-undone : goal.returns-clause-undone
returns-clause-undone c = move-undone

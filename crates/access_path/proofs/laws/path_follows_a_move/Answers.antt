use Rattle.access_path.proofs.MoveLemmas.{path-fits, path-moved}
use Rattle.access_path.proofs.laws.path_follows_a_move.Goals as goal

pub returns-clause-fits : goal.returns-clause-fits
returns-clause-fits c keys falling before after front back old new = path-fits keys falling before after front back old new

pub returns-clause-moved : goal.returns-clause-moved
returns-clause-moved c keys falling before after front back old new = path-moved keys falling before after front back old new

use Rattle.logical_paths.proofs.ViewLemmas.{same-keys, view-allowed, view-few}
use Rattle.logical_paths.proofs.laws.positions_stay_in_views.Goals as goal

pub returns-clause-keys : goal.returns-clause-keys
returns-clause-keys c = same-keys

pub returns-clause-allowed : goal.returns-clause-allowed
returns-clause-allowed c = view-allowed

pub returns-clause-few : goal.returns-clause-few
returns-clause-few c = view-few

use Rattle.physical_paths.proofs.PositionLemmas.{path-keys, parts-allowed, parts-few, same-key_fault, same-given_key}
use Rattle.physical_paths.proofs.laws.positions_stay_in_paths.Goals as goal

pub returns-clause-keys : goal.returns-clause-keys
returns-clause-keys c = path-keys

pub returns-clause-allowed : goal.returns-clause-allowed
returns-clause-allowed c = parts-allowed

pub returns-clause-few : goal.returns-clause-few
returns-clause-few c = parts-few

pub returns-clause-fault : goal.returns-clause-fault
returns-clause-fault c = same-key_fault

pub returns-clause-given : goal.returns-clause-given
returns-clause-given c = same-given_key

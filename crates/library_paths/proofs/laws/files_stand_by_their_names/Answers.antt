use Rattle.library_paths.proofs.OwnerLemmas.{all-stand, one-stands}
use Rattle.library_paths.proofs.laws.files_stand_by_their_names.Goals as goal

pub returns-clause-all : goal.returns-clause-all
returns-clause-all c = all-stand

pub returns-clause-one : goal.returns-clause-one
returns-clause-one c = one-stands

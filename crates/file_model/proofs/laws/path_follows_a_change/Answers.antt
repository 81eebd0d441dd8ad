use Rattle.file_model.proofs.ChangeLemmas.{path-changed}
use Rattle.file_model.proofs.laws.path_follows_a_change.Goals as goal

pub returns : goal.returns
returns c = path-changed

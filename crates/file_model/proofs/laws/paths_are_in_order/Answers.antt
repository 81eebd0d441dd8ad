use Rattle.file_model.proofs.PathLemmas.{path-strict}
use Rattle.file_model.proofs.laws.paths_are_in_order.Goals as goal

pub returns : goal.returns
returns c = path-strict

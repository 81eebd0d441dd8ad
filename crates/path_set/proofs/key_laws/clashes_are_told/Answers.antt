use Rattle.path_set.proofs.ClashLemmas.{clash-told}
use Rattle.path_set.proofs.key_laws.clashes_are_told.Goals as goal

pub returns : goal.returns
returns c = clash-told

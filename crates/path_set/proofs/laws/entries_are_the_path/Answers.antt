use Rattle.path_set.proofs.ShareLemmas.{entries-path}
use Rattle.path_set.proofs.laws.entries_are_the_path.Goals as goal

pub returns : goal.returns
returns c = entries-path

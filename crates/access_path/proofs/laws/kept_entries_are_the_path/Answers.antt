use Rattle.access_path.proofs.BytesLemmas.{kept-path}
use Rattle.access_path.proofs.laws.kept_entries_are_the_path.Goals as goal

pub returns : goal.returns
returns c = kept-path

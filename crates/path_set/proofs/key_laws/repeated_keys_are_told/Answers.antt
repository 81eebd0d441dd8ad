use Rattle.path_set.proofs.ShareLemmas.{judged}
use Rattle.path_set.proofs.key_laws.repeated_keys_are_told.Goals as goal

pub returns : goal.returns
returns c path members = judged path.spec members path.entries

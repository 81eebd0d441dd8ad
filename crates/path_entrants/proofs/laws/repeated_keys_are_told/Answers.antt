use Rattle.path_entrants.proofs.RepeatedLemmas.{told}
use Rattle.path_entrants.proofs.laws.repeated_keys_are_told.Goals as goal

pub returns : goal.returns
returns c = told

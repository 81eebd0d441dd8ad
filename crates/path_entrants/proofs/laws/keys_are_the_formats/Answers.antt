use Rattle.path_entrants.proofs.FormatLemmas.{keys-formats}
use Rattle.path_entrants.proofs.laws.keys_are_the_formats.Goals as goal

pub returns : goal.returns
returns c = keys-formats

use Rattle.restart_laws.proofs.LengthLemmas.{lengths-kept}
use Rattle.restart_laws.proofs.laws.descriptions_keep_lengths.Goals as goal

pub returns : goal.returns
returns c = lengths-kept

use Rattle.range_histories.proofs.StopLemmas.{stops-back, stops-forward}
use Rattle.range_histories.proofs.refused_walks_name_the_first.Goals as goal

pub returns : goal.returns
returns c = record { removed = stops-back; applied = stops-forward }

use Rattle.range_histories.proofs.HistoryLemmas.{goes_forward}
use Rattle.range_histories.proofs.applied_ranges_go_forward.Goals as goal

pub returns : goal.returns
returns c = goes_forward

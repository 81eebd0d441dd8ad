use Rattle.range_histories.proofs.HistoryLemmas.{goes_back}
use Rattle.range_histories.proofs.removed_ranges_go_back.Goals as goal

pub returns : goal.returns
returns c = goes_back

use Rattle.range_histories.proofs.HistoryLemmas.{applies_again}
use Rattle.range_histories.proofs.a_removed_range_is_applied_again.Goals as goal

pub returns : goal.returns
returns c = applies_again

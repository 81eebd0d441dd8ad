use Rattle.replayed_histories.proofs.HistoryLemmas.{histories-replayed}
use Rattle.replayed_histories.proofs.laws_histories.histories_keep_what_requests_keep.Goals as goal

pub returns : goal.returns
returns c = histories-replayed

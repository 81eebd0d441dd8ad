use Rattle.replayed_histories.proofs.JoinedLemmas.{all-kept}
use Rattle.replayed_histories.proofs.laws_joined.requests_keep_replays.Goals as goal

pub returns : goal.returns
returns c = all-kept

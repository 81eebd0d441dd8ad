use Rattle.replayed_histories.proofs.EndedRequests.{ended-replayed}
use Rattle.replayed_histories.proofs.ended_journaling_keeps_replays.Goals as goal

pub returns : goal.returns
returns c = ended-replayed

use Rattle.replayed_histories.proofs.ClearRequests.{end-replayed}
use Rattle.replayed_histories.proofs.member_laws.ended_journaling_is_replayed.Goals as goal

pub returns : goal.returns
returns c = end-replayed

use Rattle.replayed_histories.proofs.AddRequests.{add-replayed}
use Rattle.replayed_histories.proofs.member_laws.added_members_are_replayed.Goals as goal

pub returns : goal.returns
returns c = add-replayed

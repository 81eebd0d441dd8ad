use Rattle.replayed_histories.proofs.ClearRequests.{clear-replayed, reorganize-replayed}
use Rattle.replayed_histories.proofs.member_laws.emptied_members_are_replayed.Goals as goal

pub returns-clause-cleared : goal.returns-clause-cleared
returns-clause-cleared c = clear-replayed

pub returns-clause-reorganized : goal.returns-clause-reorganized
returns-clause-reorganized c = reorganize-replayed

use Rattle.replayed_histories.proofs.PutRequests.{delete-replayed, update-replayed, write-replayed}
use Rattle.replayed_histories.proofs.member_laws.changed_records_are_replayed.Goals as goal

pub returns-clause-written : goal.returns-clause-written
returns-clause-written c = write-replayed

pub returns-clause-updated : goal.returns-clause-updated
returns-clause-updated c = update-replayed

pub returns-clause-deleted : goal.returns-clause-deleted
returns-clause-deleted c = delete-replayed

use Rattle.replayed_histories.proofs.DeleteRequests.{delete_file-replayed}
use Rattle.replayed_histories.proofs.member_laws.deleted_files_are_replayed.Goals as goal

pub returns : goal.returns
returns c = delete_file-replayed

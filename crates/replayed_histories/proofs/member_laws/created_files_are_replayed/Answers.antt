use Rattle.replayed_histories.proofs.CreateRequests.{create_logical-replayed}
use Rattle.replayed_histories.proofs.PhysicalRequests.{create_physical-replayed}
use Rattle.replayed_histories.proofs.member_laws.created_files_are_replayed.Goals as goal

pub returns-clause-physical : goal.returns-clause-physical
returns-clause-physical c = create_physical-replayed

pub returns-clause-logical : goal.returns-clause-logical
returns-clause-logical c = create_logical-replayed

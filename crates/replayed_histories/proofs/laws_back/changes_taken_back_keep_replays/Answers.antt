use Rattle.replayed_histories.proofs.BackLaws.{end_job-kept, rollback-kept}
use Rattle.replayed_histories.proofs.laws_back.changes_taken_back_keep_replays.Goals as goal

pub returns : goal.returns
returns c = record { rollback = rollback-kept; end_job = end_job-kept }

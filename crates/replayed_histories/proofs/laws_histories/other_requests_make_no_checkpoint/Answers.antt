use Rattle.replayed_histories.proofs.CheckpointLemmas.{checkpoint-stays}
use Rattle.replayed_histories.proofs.laws_histories.other_requests_make_no_checkpoint.Goals as goal

pub returns : goal.returns
returns c = checkpoint-stays

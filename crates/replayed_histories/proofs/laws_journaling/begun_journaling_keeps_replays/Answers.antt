use Rattle.replayed_histories.proofs.BeginLaws.{start_journaling-kept}
use Rattle.replayed_histories.proofs.laws_journaling.begun_journaling_keeps_replays.Goals as goal

pub returns : goal.returns
returns c = start_journaling-kept

use Rattle.replayed_histories.proofs.RangeLaws.{apply_changes-kept, remove_changes-kept}
use Rattle.replayed_histories.proofs.laws_journaling.ranges_keep_replays.Goals as goal

pub returns : goal.returns
returns c = record { applied = apply_changes-kept; removed = remove_changes-kept }

use Rattle.locks_kept.proofs.CurrentKept.{current-kept}
use Rattle.locks_kept.proofs.current_records_are_kept.Goals as goal

pub returns : goal.returns
returns c = current-kept

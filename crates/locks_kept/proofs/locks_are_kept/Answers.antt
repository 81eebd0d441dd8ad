use Rattle.locks_kept.proofs.CompatibleKept.{compatible-kept}
use Rattle.locks_kept.proofs.LocksKept.{locks-kept}
use Rattle.locks_kept.proofs.locks_are_kept.Goals as goal

pub returns-clause-compatible : goal.returns-clause-compatible
returns-clause-compatible c = compatible-kept

pub returns-clause-locks : goal.returns-clause-locks
returns-clause-locks c = locks-kept

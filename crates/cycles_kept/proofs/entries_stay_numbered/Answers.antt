use Rattle.cycles_kept.proofs.StepLemmas.{numbered-kept}
use Rattle.cycles_kept.proofs.entries_stay_numbered.Goals as goal

pub returns-clause-kept : goal.returns-clause-kept
returns-clause-kept c = numbered-kept

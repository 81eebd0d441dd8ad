use Rattle.cycles_kept.proofs.StepLemmas.{journaled-kept}
use Rattle.cycles_kept.proofs.opens_stay_journaled.Goals as goal

pub returns-clause-kept : goal.returns-clause-kept
returns-clause-kept c = journaled-kept

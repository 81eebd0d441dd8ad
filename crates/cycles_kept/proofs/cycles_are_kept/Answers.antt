use Rattle.cycles_kept.proofs.StepLemmas.{begun-kept, locked-kept, made-kept}
use Rattle.cycles_kept.proofs.cycles_are_kept.Goals as goal

pub returns-clause-begun : goal.returns-clause-begun
returns-clause-begun c = begun-kept

pub returns-clause-locked : goal.returns-clause-locked
returns-clause-locked c = locked-kept

pub returns-clause-made : goal.returns-clause-made
returns-clause-made c = made-kept

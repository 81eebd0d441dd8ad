use Rattle.std.specs.List.{IsDistinct}
use Rattle.cycles_kept.proofs.StepLemmas.{names-kept}
use Rattle.cycles_kept.proofs.names_stay_apart.Goals as goal

pub returns-clause-empty : goal.returns-clause-empty
unfolding IsDistinct
returns-clause-empty c = tt

pub returns-clause-kept : goal.returns-clause-kept
returns-clause-kept c = names-kept

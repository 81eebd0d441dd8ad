use Rattle.bench.proofs.ReadyLemmas.{AreReady-begun}
use Rattle.bench.proofs.library.Bench.over.Goals as goal

pub invariant_of-result : goal.invariant_of-result
invariant_of-result c = (λ alive. AreReady-begun _ _ c.in-Ok.ensures, c.requires)

use Rattle.path_set.proofs.IndexLemmas.{none-indexed}
use Rattle.path_set.proofs.set.PathSet.new.Goals as goal

pub invariant_of-result : goal.invariant_of-result
invariant_of-result c = none-indexed _ _ c.new.ensures.items c.new-2.ensures.items

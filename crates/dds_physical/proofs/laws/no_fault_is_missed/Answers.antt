use Rattle.dds_physical.proofs.OrderLemmas.{no_fault_is_missed}
use Rattle.dds_physical.proofs.laws.no_fault_is_missed.Goals as goal

pub returns : goal.returns
returns c = λ formats source order. no_fault_is_missed formats source order

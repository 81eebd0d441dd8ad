use Rattle.lock_table.proofs.Stored.{IsMarked-empty}
use Rattle.lock_table.proofs.table.LockTable.new.Goals as goal

pub invariant_of-result : goal.invariant_of-result
invariant_of-result c = IsMarked-empty _ _ _ _ c.new.ensures c.new-2.ensures.len c.new-3.ensures

-- The list loses the lock.
use Rattle.lock_table.proofs.Stored.{IsMarked-without_lock}
use Rattle.lock_table.proofs.table.LockTable.free.Goals as goal

pub invariant_of-self : goal.invariant_of-self
invariant_of-self c = IsMarked-without_lock _ _ _ _ _ _ _ _ _ _ c.take_lock.ensures.capacity c.take_lock.ensures.nodes c.self.invariant c.args.lock c.take_lock.ensures.locks c.take.ensures

-- The list loses the lock.
use Rattle.lock_table.proofs.Stored.{AreMarks-without_lock}
use Rattle.lock_table.proofs.marks.Marks.take.Goals as goal

pub invariant_of-self : goal.invariant_of-self
invariant_of-self c = AreMarks-without_lock _ _ _ _ _ _ _ c.take_lock.ensures.capacity c.take_lock.ensures.nodes c.self.invariant c.record_first-mark.result c.take_lock.ensures.locks

use Rattle.lock_table.proofs.Stored.{AreMarks-empty}
use Rattle.lock_table.proofs.marks.Marks.new.Goals as goal

pub invariant_of-result : goal.invariant_of-result
invariant_of-result c = AreMarks-empty _ _ _ c.new.ensures c.new-2.ensures.len

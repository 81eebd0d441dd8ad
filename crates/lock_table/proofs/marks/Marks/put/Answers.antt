-- The list gains the lock.
use Rattle.std.proofs.Common.{◌≤◌, length, sym, subst}
use Rattle.lock_table.specs.declared.lock.Lock.{Lock}
use Rattle.lock_table.specs.Table.{Locks, with_lock}
use Rattle.lock_table.specs.Index.{record_first}
use Rattle.lock_table.proofs.Stored.{AreMarks-with_lock, put-mark_room}
use Rattle.lock_table.proofs.marks.Marks.put.Goals as goal

pub put_lock-requires : goal.put_lock-requires
put_lock-requires c =
    put-mark_room _ _ _ _ c.self.invariant c.record_first.result
    (subst (λ (l : Lock). length (with_lock l c.self.inside.locks) ≤ c.self.inside.nodes) (sym c.record_first.ensures)
    (subst (λ (t : Locks). length (with_lock (record_first c.args.lock) t.held) ≤ t.room) (sym c.self.view_is) c.requires))

pub invariant_of-self : goal.invariant_of-self
invariant_of-self c = AreMarks-with_lock _ _ _ _ _ _ _ c.put_lock.ensures.capacity c.put_lock.ensures.nodes c.self.invariant c.record_first.result c.put_lock.ensures.locks

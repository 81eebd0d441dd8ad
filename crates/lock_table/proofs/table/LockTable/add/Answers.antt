-- The list gains the lock.
use Rattle.std.proofs.Common.{◌≤◌, length, sym, subst}
use Rattle.std.specs.List.{All}
use Rattle.lock_table.specs.Lock.{Clashes}
use Rattle.lock_table.specs.Table.{Locks, with_lock}
use Rattle.lock_table.proofs.Stored.{IsMarked-with_lock, mark-room, put-room}
use Rattle.lock_table.proofs.table.LockTable.add.Goals as goal

pub put_lock-requires : goal.put_lock-requires
put_lock-requires c = put-room _ _ _ _ _ c.self.invariant.stored c.args.lock (subst (λ (t : Locks). length (with_lock c.args.lock t.held) ≤ t.room) (sym c.self.view_is) c.requires.room)

pub put-requires : goal.put-requires
put-requires c = mark-room _ _ _ _ _ _ c.self.invariant c.args.lock (subst (λ (t : Locks). length (with_lock c.args.lock t.held) ≤ t.room) (sym c.self.view_is) c.requires.room)

pub invariant_of-self : goal.invariant_of-self
invariant_of-self c =
    IsMarked-with_lock _ _ _ _ _ _ _ _ _ _ c.put_lock.ensures.capacity c.put_lock.ensures.nodes c.self.invariant c.args.lock
    (subst (λ (t : Locks). length (with_lock c.args.lock t.held) ≤ t.room) (sym c.self.view_is) c.requires.room)
    (subst (λ (t : Locks). All (λ other. Clashes c.args.lock other → ⊥) t.held) (sym c.self.view_is) c.requires.alone)
    c.put_lock.ensures.locks c.put.ensures

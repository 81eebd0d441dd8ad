-- The lock leaves the list, and comes back with the other reach.
use Rattle.std.proofs.Common.{◌≤◌, length, sym, subst}
use Rattle.std.specs.List.{All}
use Rattle.lock_table.specs.declared.lock.Lock.{Lock}
use Rattle.lock_table.specs.Lock.{Clashes}
use Rattle.lock_table.specs.Table.{Locks, with_lock, without_lock}
use Rattle.lock_table.proofs.Stored.{kept-alone, kept-fits}
use Rattle.lock_table.proofs.table.LockTable.keep.Goals as goal

pub add-requires-clause-room : goal.add-requires-clause-room
add-requires-clause-room c =
    subst (λ (t : Locks). length (with_lock c.to_boundary.result t.held) ≤ t.room) (sym c.free.ensures)
    (subst (λ (l : Lock). length (with_lock l (without_lock c.args.lock c.args.self.now.held)) ≤ c.args.self.now.room) (sym c.to_boundary.ensures)
    (kept-fits c.args.self.now.held c.args.self.now.room c.requires.table c.args.lock c.requires.there))

pub add-requires-clause-alone : goal.add-requires-clause-alone
add-requires-clause-alone c =
    subst (λ (t : Locks). All (λ other. Clashes c.to_boundary.result other → ⊥) t.held) (sym c.free.ensures)
    (subst (λ (l : Lock). All (λ other. Clashes l other → ⊥) (without_lock c.args.lock c.args.self.now.held)) (sym c.to_boundary.ensures)
    (kept-alone c.args.self.now.held c.args.self.now.room c.requires.table c.args.lock c.requires.there))

-- No job blocks the request, so no lock clashes, also once the same lock to the next read is gone.
use Rattle.std.proofs.Common.{not, sym, subst}
use Rattle.std.specs.List.{All}
use Rattle.std.specs.Ordering.{is_eq}
use Rattle.std.proofs.lemmas.List.Elements.{All-filter}
use Rattle.lock_table.specs.declared.lock.Lock.{Lock}
use Rattle.lock_table.specs.declared.lock.Reach.TheVariants.{Boundary}
use Rattle.lock_table.specs.Lock.{Clashes, lock_by, lock_cmp}
use Rattle.lock_table.specs.Table.{Locks}
use Rattle.lock_table.proofs.Found.{alone-from_blocker}
use Rattle.lock_table.proofs.table.LockTable.hold_to_boundary.Goals as goal

pub add-requires-clause-alone : goal.add-requires-clause-alone
add-requires-clause-alone c =
    let alone : All (λ other. Clashes c.lock-to_boundary.result other → ⊥) c.args.self.now.held =
    subst (λ (l : Lock). All (λ other. Clashes l other → ⊥) c.args.self.now.held) (sym c.lock-to_boundary.ensures)
    (alone-from_blocker (lock_by c.args.holder c.args.at c.args.kind Boundary) c.args.self.now.held c.requires.unlocked)
    in
    subst (λ (t : Locks). All (λ other. Clashes c.lock-to_boundary.result other → ⊥) t.held) (sym c.free.ensures)
    (All-filter (λ l. not (is_eq (lock_cmp l c.lock-to_next_read.result))) (λ other. Clashes c.lock-to_boundary.result other → ⊥) c.args.self.now.held alone)

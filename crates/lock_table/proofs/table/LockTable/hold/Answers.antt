-- No job blocks the lock, so none clashes with it.
use Rattle.std.proofs.Common.{sym, subst}
use Rattle.std.specs.List.{All}
use Rattle.lock_table.specs.declared.lock.Lock.{Lock}
use Rattle.lock_table.specs.declared.lock.Reach.TheVariants.{Open}
use Rattle.lock_table.specs.Lock.{Clashes, lock_by}
use Rattle.lock_table.proofs.Found.{alone-from_blocker}
use Rattle.lock_table.proofs.table.LockTable.hold.Goals as goal

pub add-requires-clause-alone : goal.add-requires-clause-alone
add-requires-clause-alone c =
    subst (λ (l : Lock). All (λ other. Clashes l other → ⊥) c.args.self.now.held) (sym c.lock.ensures)
    (alone-from_blocker (lock_by c.args.holder c.args.at c.args.kind Open) c.args.self.now.held c.requires.unlocked)

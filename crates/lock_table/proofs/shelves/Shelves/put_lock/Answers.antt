-- The lock comes to its shelf, and so among all locks.
use Rattle.std.proofs.Common.{List, length, refl, arith, sym, ap, ◌∙◌, subst}
use Rattle.lock_table.specs.declared.lock.Lock.{Lock}
use Rattle.lock_table.specs.Lock.{lock_cmp}
use Rattle.lock_table.specs.Table.{in_order, with_lock}
use Rattle.lock_table.specs.Shelves.{all_on, AreShelved}
use Rattle.lock_table.proofs.Shelved.{place-sorted, place-within, put-keeps, put-locks, shelf-of, shelf-with}
use Rattle.lock_table.proofs.shelves.Shelves.put_lock.Goals as goal

pub put-requires-clause-place : goal.put-requires-clause-place
put-requires-clause-place c = rw c.count.ensures (place-within c.self.inside.row c.self.invariant c.args.lock.job)

pub put-requires-clause-ordered : goal.put-requires-clause-ordered
put-requires-clause-ordered c = rw c.count.ensures (place-sorted c.self.inside.row c.self.invariant c.args.lock.job)

pub put-requires-clause-room : goal.put-requires-clause-room
put-requires-clause-room c =
    let told = shelf-with (shelf-of c.self.inside.row c.self.invariant c.args.lock.job) c.args.lock refl in
    let fits = rw (← c.self.view_is) at c.requires in
    rw c.count.ensures (omega (arith, told, fits))

pub returns-clause-locks : goal.returns-clause-locks
returns-clause-locks c =
    let is = rw c.count.ensures at c.put.ensures.locks in
    ap (λ (row : List (List Lock)). in_order lock_cmp (all_on row)) is ∙ put-locks c.self.inside.row c.self.invariant c.args.lock ∙ ap (with_lock c.args.lock) c.self.view_is

pub returns-clause-nodes : goal.returns-clause-nodes
returns-clause-nodes c =
    let is = rw c.count.ensures at c.put.ensures.locks in
    let now = ap (λ (row : List (List Lock)). length (in_order lock_cmp (all_on row))) is ∙ ap length (put-locks c.self.inside.row c.self.invariant c.args.lock) in
    let told = shelf-with (shelf-of c.self.inside.row c.self.invariant c.args.lock.job) c.args.lock refl in
    let nodes = rw c.count.ensures at c.put.ensures.nodes in
    rw (← c.self.view_is) (omega (arith, now, told, nodes))

pub invariant_of-self : goal.invariant_of-self
invariant_of-self c = subst AreShelved (sym (rw c.count.ensures at c.put.ensures.locks)) (put-keeps c.self.inside.row c.self.invariant c.args.lock)

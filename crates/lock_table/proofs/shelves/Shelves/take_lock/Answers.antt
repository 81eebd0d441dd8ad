-- The lock goes from its shelf, and so from all locks.
use Rattle.std.proofs.Common.{List, length, refl, arith, sym, ap, ◌∙◌, subst}
use Rattle.lock_table.specs.declared.lock.Lock.{Lock}
use Rattle.lock_table.specs.Lock.{lock_cmp}
use Rattle.lock_table.specs.Table.{in_order, without_lock}
use Rattle.lock_table.specs.Shelves.{all_on, AreShelved}
use Rattle.lock_table.proofs.Shelved.{place-sorted, place-within, shelf-few, shelf-of, shelf-without, take-keeps, take-locks}
use Rattle.lock_table.proofs.shelves.Shelves.take_lock.Goals as goal

pub take-requires-clause-place : goal.take-requires-clause-place
take-requires-clause-place c = rw c.count.ensures (place-within c.self.inside.row c.self.invariant c.args.lock.now.job)

pub take-requires-clause-ordered : goal.take-requires-clause-ordered
take-requires-clause-ordered c = rw c.count.ensures (place-sorted c.self.inside.row c.self.invariant c.args.lock.now.job)

pub take-requires-clause-stored : goal.take-requires-clause-stored
take-requires-clause-stored c =
    let few = shelf-few (shelf-of c.self.inside.row c.self.invariant c.args.lock.now.job) in
    let stored = rw (← c.self.view_is) at c.requires in
    rw c.count.ensures (omega (arith, few, stored))

pub returns-clause-locks : goal.returns-clause-locks
returns-clause-locks c =
    let is = rw c.count.ensures at c.take.ensures.locks in
    ap (λ (row : List (List Lock)). in_order lock_cmp (all_on row)) is ∙ take-locks c.self.inside.row c.self.invariant c.args.lock.now ∙ ap (without_lock c.args.lock.now) c.self.view_is

pub returns-clause-nodes : goal.returns-clause-nodes
returns-clause-nodes c =
    let is = rw c.count.ensures at c.take.ensures.locks in
    let now = ap (λ (row : List (List Lock)). length (in_order lock_cmp (all_on row))) is ∙ ap length (take-locks c.self.inside.row c.self.invariant c.args.lock.now) in
    let told = shelf-without (shelf-of c.self.inside.row c.self.invariant c.args.lock.now.job) c.args.lock.now refl in
    let nodes = rw c.count.ensures at c.take.ensures.nodes in
    rw (← c.self.view_is) (omega (arith, now, told, nodes))

pub invariant_of-self : goal.invariant_of-self
invariant_of-self c = subst AreShelved (sym (rw c.count.ensures at c.take.ensures.locks)) (take-keeps c.self.inside.row c.self.invariant c.args.lock.now)

use Rattle.std.proofs.Common.{List, ◌==◌, length, arith, sym}
use Rattle.std.specs.List.{filter}
use Rattle.lock_table.specs.declared.lock.Lock.{Lock}
use Rattle.lock_table.specs.Index.{is_part}
use Rattle.lock_table.proofs.Nodes.{at_node, length-sides, length-through-≤, told-here, told-left, told-right, through-out}
use Rattle.lock_table.proofs.chosen.+count_in.Goals as goal

pub count_in-requires : goal.count_in-requires
count_in-requires t c = let n = at_node _ _ c.in-At.node c.tree.view_is c.in-At.is c.requires.ordered in rw c.deref-in-Less.ensures (omega (arith, c.decreases, length-sides n), (n.sides.second, omega (arith, c.requires.few, length-sides n)))

pub count_in-requires-in-Equal : goal.count_in-requires-in-Equal
count_in-requires-in-Equal t c = let n = at_node _ _ c.in-At.node c.tree.view_is c.in-At.is c.requires.ordered in rw c.deref-in-Equal.ensures (omega (arith, c.decreases, length-sides n), (n.sides.first, omega (arith, c.requires.few, length-sides n)))

pub count_in-requires-in-Equal-2 : goal.count_in-requires-in-Equal-2
count_in-requires-in-Equal-2 t c = let n = at_node _ _ c.in-At.node c.tree.view_is c.in-At.is c.requires.ordered in rw c.deref-in-Equal-2.ensures (omega (arith, c.decreases, length-sides n), (n.sides.second, omega (arith, c.requires.few, length-sides n)))

pub overflow_add-sides : goal.overflow_add-sides
overflow_add-sides t c = let n = at_node _ _ c.in-At.node c.tree.view_is c.in-At.is c.requires.ordered in omega (arith, c.requires.few, length-sides n, rw c.deref-in-Equal.ensures at c.count_in-in-Equal.ensures, rw c.deref-in-Equal-2.ensures at c.count_in-in-Equal-2.ensures, length-through-≤ c.args.part c.args.opened c.in-At.node.value.left, length-through-≤ c.args.part c.args.opened c.in-At.node.value.right)

pub overflow_add-result : goal.overflow_add-result
overflow_add-result t c = let n = at_node _ _ c.in-At.node c.tree.view_is c.in-At.is c.requires.ordered in omega (arith, c.requires.few, length-sides n, rw c.deref-in-Equal.ensures at c.count_in-in-Equal.ensures, rw c.deref-in-Equal-2.ensures at c.count_in-in-Equal-2.ensures, length-through-≤ c.args.part c.args.opened c.in-At.node.value.left, length-through-≤ c.args.part c.args.opened c.in-At.node.value.right)

pub count_in-requires-in-Greater : goal.count_in-requires-in-Greater
count_in-requires-in-Greater t c = let n = at_node _ _ c.in-At.node c.tree.view_is c.in-At.is c.requires.ordered in rw c.deref-in-Greater.ensures (omega (arith, c.decreases, length-sides n), (n.sides.first, omega (arith, c.requires.few, length-sides n)))

pub returns-in-Less : goal.returns-in-Less
returns-in-Less t c = told-right c.args.part (at_node _ _ c.in-At.node c.tree.view_is c.in-At.is c.requires.ordered) (λ (xs : List Lock). length (filter (λ l. l.opened == c.args.opened) xs)) _ (sym (rw c.deref.ensures at c.in-Less.ensures)) (rw c.deref-in-Less.ensures at c.count_in.ensures)

pub returns-else-deref-opened : goal.returns-else-deref-opened
returns-else-deref-opened t c =
    let first = rw c.deref-in-Equal.ensures at c.count_in-in-Equal.ensures in
    let second = rw c.deref-in-Equal-2.ensures at c.count_in-in-Equal-2.ensures in
    told-here c.args.part (at_node _ _ c.in-At.node c.tree.view_is c.in-At.is c.requires.ordered) (λ (xs : List Lock). length (filter (λ l. l.opened == c.args.opened) xs)) _ (sym (rw c.deref.ensures at c.in-Equal.ensures))
    (omega (arith, first, second, through-out c.args.part c.args.opened (filter (is_part c.args.part) c.in-At.node.value.left) c.in-At.node.value.lock (filter (is_part c.args.part) c.in-At.node.value.right) (rw c.deref-in-Equal-3.ensures at c.if-deref-opened.false)))

pub returns-in-Greater : goal.returns-in-Greater
returns-in-Greater t c = told-left c.args.part (at_node _ _ c.in-At.node c.tree.view_is c.in-At.is c.requires.ordered) (λ (xs : List Lock). length (filter (λ l. l.opened == c.args.opened) xs)) _ (sym (rw c.deref.ensures at c.in-Greater.ensures)) (rw c.deref-in-Greater.ensures at c.count_in-in-Greater.ensures)

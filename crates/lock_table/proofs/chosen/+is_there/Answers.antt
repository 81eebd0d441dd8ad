use Rattle.std.proofs.Common.{arith, sym}
use Rattle.lock_table.proofs.Nodes.{at_node, length-sides, more-left, more-right, more-here, fewer-left, fewer-right, fewer-here}
use Rattle.lock_table.proofs.chosen.+is_there.Goals as goal

pub is_there-requires : goal.is_there-requires
is_there-requires t c = let n = at_node _ _ c.in-At.node c.tree.view_is c.in-At.is c.requires in rw c.deref-in-Less.ensures (omega (arith, c.decreases, length-sides n), n.sides.first)

pub is_there-requires-in-Greater : goal.is_there-requires-in-Greater
is_there-requires-in-Greater t c = let n = at_node _ _ c.in-At.node c.tree.view_is c.in-At.is c.requires in rw c.deref-in-Greater.ensures (omega (arith, c.decreases, length-sides n), n.sides.second)

pub returns-in-Less-clause-with_it : goal.returns-in-Less-clause-with_it
returns-in-Less-clause-with_it t c = more-left (at_node _ _ c.in-At.node c.tree.view_is c.in-At.is c.requires) c.args.lock.now (sym (rw c.deref.ensures at c.in-Less.ensures)) _ (rw c.deref-in-Less.ensures at c.is_there.ensures.with_it)

pub returns-in-Less-clause-without_it : goal.returns-in-Less-clause-without_it
returns-in-Less-clause-without_it t c = fewer-left (at_node _ _ c.in-At.node c.tree.view_is c.in-At.is c.requires) c.args.lock.now (sym (rw c.deref.ensures at c.in-Less.ensures)) _ (rw c.deref-in-Less.ensures at c.is_there.ensures.without_it)

pub returns-in-Equal-clause-with_it : goal.returns-in-Equal-clause-with_it
returns-in-Equal-clause-with_it t c = more-here (at_node _ _ c.in-At.node c.tree.view_is c.in-At.is c.requires) c.args.lock.now (sym (rw c.deref.ensures at c.in-Equal.ensures))

pub returns-in-Equal-clause-without_it : goal.returns-in-Equal-clause-without_it
returns-in-Equal-clause-without_it t c = fewer-here (at_node _ _ c.in-At.node c.tree.view_is c.in-At.is c.requires) c.args.lock.now (sym (rw c.deref.ensures at c.in-Equal.ensures))

pub returns-in-Greater-clause-with_it : goal.returns-in-Greater-clause-with_it
returns-in-Greater-clause-with_it t c = more-right (at_node _ _ c.in-At.node c.tree.view_is c.in-At.is c.requires) c.args.lock.now (sym (rw c.deref.ensures at c.in-Greater.ensures)) _ (rw c.deref-in-Greater.ensures at c.is_there-in-Greater.ensures.with_it)

pub returns-in-Greater-clause-without_it : goal.returns-in-Greater-clause-without_it
returns-in-Greater-clause-without_it t c = fewer-right (at_node _ _ c.in-At.node c.tree.view_is c.in-At.is c.requires) c.args.lock.now (sym (rw c.deref.ensures at c.in-Greater.ensures)) _ (rw c.deref-in-Greater.ensures at c.is_there-in-Greater.ensures.without_it)

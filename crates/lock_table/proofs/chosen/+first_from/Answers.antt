use Rattle.std.proofs.Common.{arith, sym, ◌∙◌}
use Rattle.lock_table.proofs.Nodes.{at_node, from-here, from-left, from-right, length-sides}
use Rattle.lock_table.proofs.chosen.+first_from.Goals as goal

pub first_from-requires : goal.first_from-requires
first_from-requires t c = let n = at_node _ _ c.in-At.node c.tree.view_is c.in-At.is c.requires in rw c.deref-then-deref-job.ensures (omega (arith, c.decreases, length-sides n), n.sides.second)

pub first_from-requires-else-deref-job : goal.first_from-requires-else-deref-job
first_from-requires-else-deref-job t c = let n = at_node _ _ c.in-At.node c.tree.view_is c.in-At.is c.requires in rw c.deref-else-deref-job.ensures (omega (arith, c.decreases, length-sides n), n.sides.first)

pub returns-then-deref-job : goal.returns-then-deref-job
returns-then-deref-job t c = from-right (at_node _ _ c.in-At.node c.tree.view_is c.in-At.is c.requires) c.args.job _ (rw c.deref.ensures at c.if-deref-job.true) (rw c.deref-then-deref-job.ensures at c.first_from.ensures)

pub returns-in-Some : goal.returns-in-Some
returns-in-Some t c = from-left (at_node _ _ c.in-At.node c.tree.view_is c.in-At.is c.requires) c.args.job c.in-Some.lock (sym (rw c.deref-else-deref-job.ensures at c.first_from-else-deref-job.ensures) ∙ c.in-Some.is)

pub returns-in-None : goal.returns-in-None
returns-in-None t c = rw c.deref-in-None.ensures (from-here (at_node _ _ c.in-At.node c.tree.view_is c.in-At.is c.requires) c.args.job (rw c.deref.ensures at c.if-deref-job.false) (sym (rw c.deref-else-deref-job.ensures at c.first_from-else-deref-job.ensures) ∙ c.in-None.is))

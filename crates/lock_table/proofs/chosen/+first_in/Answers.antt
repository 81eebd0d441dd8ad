use Rattle.std.proofs.Common.{arith, sym, ◌∙◌}
use Rattle.std.specs.List.{find}
use Rattle.lock_table.specs.Index.{is_sought}
use Rattle.lock_table.proofs.Nodes.{at_node, first-after, first-before, first-here, length-sides, told-here, told-left, told-right}
use Rattle.lock_table.proofs.chosen.+first_in.Goals as goal

pub first_in-requires : goal.first_in-requires
first_in-requires t c = let n = at_node _ _ c.in-At.node c.tree.view_is c.in-At.is c.requires in rw c.deref-in-Less.ensures (omega (arith, c.decreases, length-sides n), n.sides.second)

pub first_in-requires-in-Equal : goal.first_in-requires-in-Equal
first_in-requires-in-Equal t c = let n = at_node _ _ c.in-At.node c.tree.view_is c.in-At.is c.requires in rw c.deref-in-Equal-2.ensures (omega (arith, c.decreases, length-sides n), n.sides.first)

pub first_in-requires-in-None-here : goal.first_in-requires-in-None-here
first_in-requires-in-None-here t c = let n = at_node _ _ c.in-At.node c.tree.view_is c.in-At.is c.requires in rw c.deref-in-None-here.ensures (omega (arith, c.decreases, length-sides n), n.sides.second)

pub first_in-requires-in-Greater : goal.first_in-requires-in-Greater
first_in-requires-in-Greater t c = let n = at_node _ _ c.in-At.node c.tree.view_is c.in-At.is c.requires in rw c.deref-in-Greater.ensures (omega (arith, c.decreases, length-sides n), n.sides.first)

pub returns-in-Less : goal.returns-in-Less
returns-in-Less t c = told-right c.args.part (at_node _ _ c.in-At.node c.tree.view_is c.in-At.is c.requires) (find (is_sought c.args.sought)) _ (sym (rw c.deref.ensures at c.in-Less.ensures)) (rw c.deref-in-Less.ensures at c.first_in.ensures)

pub returns-in-Some : goal.returns-in-Some
returns-in-Some t c = told-here c.args.part (at_node _ _ c.in-At.node c.tree.view_is c.in-At.is c.requires) (find (is_sought c.args.sought)) _ (sym (rw c.deref.ensures at c.in-Equal.ensures)) (first-before (is_sought c.args.sought) _ _ _ c.in-Some.lock (sym (rw c.deref-in-Equal-2.ensures at c.first_in-in-Equal.ensures) ∙ c.in-Some.is))

pub returns-in-Some-here : goal.returns-in-Some-here
returns-in-Some-here t c = told-here c.args.part (at_node _ _ c.in-At.node c.tree.view_is c.in-At.is c.requires) (find (is_sought c.args.sought)) _ (sym (rw c.deref.ensures at c.in-Equal.ensures)) (first-here (is_sought c.args.sought) _ _ _ c.own-here.result c.in-Some-here.lock (sym (rw c.deref-in-Equal-2.ensures at c.first_in-in-Equal.ensures) ∙ c.in-None.is) (rw c.deref-in-Equal.ensures at c.own-here.ensures) c.in-Some-here.is)

pub returns-in-None-here : goal.returns-in-None-here
returns-in-None-here t c = told-here c.args.part (at_node _ _ c.in-At.node c.tree.view_is c.in-At.is c.requires) (find (is_sought c.args.sought)) _ (sym (rw c.deref.ensures at c.in-Equal.ensures)) (first-after (is_sought c.args.sought) _ _ _ c.own-here.result (sym (rw c.deref-in-Equal-2.ensures at c.first_in-in-Equal.ensures) ∙ c.in-None.is) (rw c.deref-in-Equal.ensures at c.own-here.ensures) c.in-None-here.is ∙ sym (rw c.deref-in-None-here.ensures at c.first_in-in-None-here.ensures))

pub returns-in-Greater : goal.returns-in-Greater
returns-in-Greater t c = told-left c.args.part (at_node _ _ c.in-At.node c.tree.view_is c.in-At.is c.requires) (find (is_sought c.args.sought)) _ (sym (rw c.deref.ensures at c.in-Greater.ensures)) (rw c.deref-in-Greater.ensures at c.first_in-in-Greater.ensures)

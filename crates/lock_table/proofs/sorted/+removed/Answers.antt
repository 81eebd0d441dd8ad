use Rattle.std.proofs.Common.{Box, arith, sym, ap, ◌∙◌}
use Rattle.std.specs.declared.alloc.Global.{Global}
use Rattle.lock_table.specs.declared.tree.Node.{Node}
use Rattle.lock_table.proofs.Nodes.{at_node, gone-here-is, gone-left-is, gone-right-is, length-sides}
use Rattle.lock_table.proofs.sorted.+removed.Goals as goal

pub removed-left-requires : goal.removed-left-requires
removed-left-requires t c =
    let n = at_node _ _ c.in-At.top c.tree.view_is c.in-At.is c.requires in rw (c.replace-left.ensures.value ∙ ap (λ (d : Node). d.left) c.deref_mut.ensures.value ∙ ap (λ (b : Box Node Global). b.value.left) c.in-At.top-is) (omega (arith, c.decreases, length-sides n), n.sides.first)

pub removed-right-requires : goal.removed-right-requires
removed-right-requires t c =
    let n = at_node _ _ c.in-At.top c.tree.view_is c.in-At.is c.requires in rw (c.replace-right.ensures.value ∙ ap (λ (d : Node). d.right) c.deref_mut-in-At.ensures.value ∙ ap (λ (d : Node). d.right) c.deref_mut.ensures.value ∙ ap (λ (b : Box Node Global). b.value.right) c.in-At.top-is) (omega (arith, c.decreases, length-sides n), n.sides.second)

pub returns-in-Less-clause-locks : goal.returns-in-Less-clause-locks
returns-in-Less-clause-locks t c =
    c.joined.ensures ∙ gone-left-is (at_node _ _ c.in-At.top c.tree.view_is c.in-At.is c.requires) c.args.lock.now _ (ap (λ (d : Node). d.lock) c.deref_mut-in-At.ensures.value ∙ ap (λ (d : Node). d.lock) c.deref_mut.ensures.value ∙ ap (λ (b : Box Node Global). b.value.lock) c.in-At.top-is) _ _ _ (sym (rw c.deref.ensures at c.order.ensures) ∙ c.in-Less.is) c.removed-left.ensures.locks (c.replace-left.ensures.value ∙ ap (λ (d : Node). d.left) c.deref_mut.ensures.value ∙ ap (λ (b : Box Node Global). b.value.left) c.in-At.top-is) (c.replace-right.ensures.value ∙ ap (λ (d : Node). d.right) c.deref_mut-in-At.ensures.value ∙ ap (λ (d : Node). d.right) c.deref_mut.ensures.value ∙ ap (λ (b : Box Node Global). b.value.right) c.in-At.top-is)

pub returns-in-Equal-clause-locks : goal.returns-in-Equal-clause-locks
returns-in-Equal-clause-locks t c =
    c.appended.ensures ∙ gone-here-is (at_node _ _ c.in-At.top c.tree.view_is c.in-At.is c.requires) c.args.lock.now _ (ap (λ (d : Node). d.lock) c.deref_mut-in-At.ensures.value ∙ ap (λ (d : Node). d.lock) c.deref_mut.ensures.value ∙ ap (λ (b : Box Node Global). b.value.lock) c.in-At.top-is) _ _ (sym (rw c.deref.ensures at c.order.ensures) ∙ c.in-Equal.is) (c.replace-left.ensures.value ∙ ap (λ (d : Node). d.left) c.deref_mut.ensures.value ∙ ap (λ (b : Box Node Global). b.value.left) c.in-At.top-is) (c.replace-right.ensures.value ∙ ap (λ (d : Node). d.right) c.deref_mut-in-At.ensures.value ∙ ap (λ (d : Node). d.right) c.deref_mut.ensures.value ∙ ap (λ (b : Box Node Global). b.value.right) c.in-At.top-is)

pub returns-in-Greater-clause-locks : goal.returns-in-Greater-clause-locks
returns-in-Greater-clause-locks t c =
    c.joined-in-Greater.ensures ∙ gone-right-is (at_node _ _ c.in-At.top c.tree.view_is c.in-At.is c.requires) c.args.lock.now _ (ap (λ (d : Node). d.lock) c.deref_mut-in-At.ensures.value ∙ ap (λ (d : Node). d.lock) c.deref_mut.ensures.value ∙ ap (λ (b : Box Node Global). b.value.lock) c.in-At.top-is) _ _ _ (sym (rw c.deref.ensures at c.order.ensures) ∙ c.in-Greater.is) c.removed-right.ensures.locks (c.replace-right.ensures.value ∙ ap (λ (d : Node). d.right) c.deref_mut-in-At.ensures.value ∙ ap (λ (d : Node). d.right) c.deref_mut.ensures.value ∙ ap (λ (b : Box Node Global). b.value.right) c.in-At.top-is) (c.replace-left.ensures.value ∙ ap (λ (d : Node). d.left) c.deref_mut.ensures.value ∙ ap (λ (b : Box Node Global). b.value.left) c.in-At.top-is)

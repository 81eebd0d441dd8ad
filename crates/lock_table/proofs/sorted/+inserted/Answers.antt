use Rattle.std.proofs.Common.{Box, arith, sym, ap, ◌∙◌}
use Rattle.std.specs.Ordering.{is_lt}
use Rattle.std.specs.declared.alloc.Global.{Global}
use Rattle.lock_table.specs.declared.tree.Node.{Node}
use Rattle.lock_table.specs.Lock.{lock_cmp}
use Rattle.lock_table.proofs.Nodes.{above-from_new, at_node, less-from_lt, length-sides, new-left, new-right, with-left-is, with-right-is}
use Rattle.lock_table.proofs.sorted.+inserted.Goals as goal

pub inserted-requires : goal.inserted-requires
inserted-requires t c =
    let n = at_node _ _ c.in-At.top c.tree.view_is c.in-At.is c.requires.ordered in rw (c.replace-left.ensures.value ∙ ap (λ (d : Node). d.left) c.deref_mut.ensures.value ∙ ap (λ (b : Box Node Global). b.value.left) c.in-At.top-is) (omega (arith, c.decreases, length-sides n), (n.sides.first, new-left n c.args.lock (less-from_lt _ (ap is_lt (sym (rw (c.deref.ensures, c.in-At.top-is) at c.order.ensures)) ∙ sym c.is_lt.ensures ∙ c.if-is_lt.true)) c.requires.missing))

pub inserted-requires-else-is_lt : goal.inserted-requires-else-is_lt
inserted-requires-else-is_lt t c =
    let n = at_node _ _ c.in-At.top c.tree.view_is c.in-At.is c.requires.ordered in rw (c.replace-right.ensures.value ∙ ap (λ (d : Node). d.right) c.deref_mut-else-is_lt.ensures.value ∙ ap (λ (b : Box Node Global). b.value.right) c.in-At.top-is) (omega (arith, c.decreases, length-sides n), (n.sides.second, new-right n c.args.lock (above-from_new n c.args.lock (ap is_lt (sym (rw (c.deref.ensures, c.in-At.top-is) at c.order.ensures)) ∙ sym c.is_lt.ensures ∙ c.if-is_lt.false) c.requires.missing) c.requires.missing))

pub returns-then-is_lt : goal.returns-then-is_lt
returns-then-is_lt t c =
    let n = at_node _ _ c.in-At.top c.tree.view_is c.in-At.is c.requires.ordered in
    rw (c.deref_mut-then-is_lt.ensures.value, c.deref_mut.ensures.value) at c.balanced.ensures
    ∙ with-left-is n c.args.lock _ (ap (λ (b : Box Node Global). b.value.lock) c.in-At.top-is) _ _ _ (ap (lock_cmp c.args.lock) (ap (λ (b : Box Node Global). b.value.lock) c.in-At.top-is) ∙ (less-from_lt _ (ap is_lt (sym (rw (c.deref.ensures, c.in-At.top-is) at c.order.ensures)) ∙ sym c.is_lt.ensures ∙ c.if-is_lt.true))) c.inserted.ensures (c.replace-left.ensures.value ∙ ap (λ (d : Node). d.left) c.deref_mut.ensures.value ∙ ap (λ (b : Box Node Global). b.value.left) c.in-At.top-is) (ap (λ (b : Box Node Global). b.value.right) c.in-At.top-is)

pub returns-else-is_lt : goal.returns-else-is_lt
returns-else-is_lt t c =
    let n = at_node _ _ c.in-At.top c.tree.view_is c.in-At.is c.requires.ordered in
    rw (c.deref_mut-else-is_lt-2.ensures.value, c.deref_mut-else-is_lt.ensures.value) at c.balanced-else-is_lt.ensures
    ∙ with-right-is n c.args.lock _ (ap (λ (b : Box Node Global). b.value.lock) c.in-At.top-is) _ _ _ (ap (lock_cmp c.args.lock) (ap (λ (b : Box Node Global). b.value.lock) c.in-At.top-is) ∙ (above-from_new n c.args.lock (ap is_lt (sym (rw (c.deref.ensures, c.in-At.top-is) at c.order.ensures)) ∙ sym c.is_lt.ensures ∙ c.if-is_lt.false) c.requires.missing)) c.inserted-else-is_lt.ensures (c.replace-right.ensures.value ∙ ap (λ (d : Node). d.right) c.deref_mut-else-is_lt.ensures.value ∙ ap (λ (b : Box Node Global). b.value.right) c.in-At.top-is) (ap (λ (b : Box Node Global). b.value.left) c.in-At.top-is)

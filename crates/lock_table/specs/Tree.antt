-- The locks of a search tree, from left to right. Our own.
use Rattle.std.specs.Prelude.{List, [], ◌∷◌, ◌++◌}
use Rattle.lock_table.specs.declared.lock.Lock.{Lock}
use Rattle.lock_table.specs.declared.tree.Node.{Node}
use Rattle.lock_table.specs.declared.tree.Top.{Top}
use Rattle.lock_table.specs.declared.tree.Top.TheVariants.{Empty, At}

-- those of the left side, the node's own, those of the right side
abbrev pub locks_of : Node → List Lock
locks_of node = node.left ++ node.lock ∷ node.right

abbrev pub locks_at : Top → List Lock
locks_at Empty = []
locks_at (At node) = locks_of node.value

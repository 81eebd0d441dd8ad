use Rattle.std.proofs.Common.{◌∙◌, arith}
use Rattle.script_numbers.proofs.OrderLemmas.{number_order-finer, number_order-coarser}
use Rattle.script_numbers.proofs.order.number_order.Goals as goal

pub returns-then-left-right : goal.returns-then-left-right
returns-then-left-right c = c.order_with_finer.ensures ∙ number_order-finer c.args.left c.args.right c.if-left-right.true

pub returns-else-left-right : goal.returns-else-left-right
returns-else-left-right c = c.reverse.ensures ∙ rw c.order_with_finer-else-left-right.ensures (number_order-coarser c.args.left c.args.right (omega arith))

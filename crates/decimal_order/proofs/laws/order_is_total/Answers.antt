use Rattle.decimal_order.proofs.OrderLemmas.{compare_numbers-total, compare_numbers-value}
use Rattle.decimal_order.proofs.laws.order_is_total.Goals as goal

pub returns-clause-total : goal.returns-clause-total
returns-clause-total c = compare_numbers-total

pub returns-clause-value : goal.returns-clause-value
returns-clause-value c = compare_numbers-value

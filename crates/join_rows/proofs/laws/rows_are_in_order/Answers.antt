use Rattle.join_rows.proofs.OrderLemmas.{rows-rise}
use Rattle.join_rows.proofs.laws.rows_are_in_order.Goals as goal

pub returns : goal.returns
returns c = rows-rise

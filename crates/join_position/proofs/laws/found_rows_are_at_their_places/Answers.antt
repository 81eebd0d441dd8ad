use Rattle.join_position.proofs.AloneLemmas.{at-place}
use Rattle.join_position.proofs.laws.found_rows_are_at_their_places.Goals as goal

pub returns : goal.returns
returns c = λ by parts spec members position row found. at-place by parts spec members position row (c.rows_are_in_order.ensures spec members) found

use Rattle.join_records.proofs.RowLemmas.{row-is}
use Rattle.join_records.proofs.laws.rows_are_made_of_records.Goals as goal

pub returns : goal.returns
returns c = λ bases view members place row keyed have defaults. row-is bases view members keyed have defaults place row

use Rattle.join_rows.proofs.WantedLemmas.{is_related-wanted}
use Rattle.join_rows.proofs.laws.joined_values_are_held.Goals as goal

pub returns : goal.returns
returns c = is_related-wanted

use Rattle.file_model.proofs.OrderLemmas.{compare_values-total, compare_keys-total, compare_entries-total, compare_places-total}
use Rattle.file_model.proofs.laws.orders_are_total.Goals as goal

pub returns-clause-values : goal.returns-clause-values
returns-clause-values c = compare_values-total

pub returns-clause-keys : goal.returns-clause-keys
returns-clause-keys c = compare_keys-total

pub returns-clause-entries : goal.returns-clause-entries
returns-clause-entries c = compare_entries-total

pub returns-clause-rows : goal.returns-clause-rows
returns-clause-rows c = compare_places-total

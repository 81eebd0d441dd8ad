use Rattle.file_model.specs.Paths.{compare_entries}
use Rattle.file_model.proofs.OrderLemmas.{compare_entries-total}
use Rattle.file_model.proofs.SortLemmas.{in_order-middle}
use Rattle.file_model.proofs.laws.entry_is_put_in_its_place.Goals as goal

pub returns : goal.returns
returns c = λ ties. in_order-middle (compare_entries ties) (compare_entries-total ties)

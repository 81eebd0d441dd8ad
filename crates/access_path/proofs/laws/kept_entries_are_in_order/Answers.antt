use Rattle.access_path.proofs.EntryLemmas.{kept-strict}
use Rattle.access_path.proofs.laws.kept_entries_are_in_order.Goals as goal

pub returns : goal.returns
returns c = kept-strict

use Rattle.replayed_histories.proofs.EmptyLemmas.{empty-replayed}
use Rattle.replayed_histories.proofs.an_empty_library_is_replayed.Goals as goal

pub returns : goal.returns
returns c = empty-replayed

use Rattle.replayed_histories.proofs.FreeLemmas.{unused-free}
use Rattle.replayed_histories.proofs.unused_members_are_free.Goals as goal

pub returns : goal.returns
returns c = unused-free

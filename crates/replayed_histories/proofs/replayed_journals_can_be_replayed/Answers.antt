use Rattle.replayed_histories.proofs.EmptyLemmas.{whole-replays}
use Rattle.replayed_histories.proofs.replayed_journals_can_be_replayed.Goals as goal

pub returns : goal.returns
returns c = record { replays = whole-replays; deposited = λ s r. r.journal.deposited }

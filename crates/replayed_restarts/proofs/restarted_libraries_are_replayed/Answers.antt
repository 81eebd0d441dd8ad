use Rattle.replayed_restarts.proofs.RestartLemmas.{restarted-replayed}
use Rattle.replayed_restarts.proofs.restarted_libraries_are_replayed.Goals as goal

pub returns : goal.returns
returns c entries attached moment names can deposited = restarted-replayed entries moment can deposited attached names

use Rattle.journal_model.proofs.RestartLemmas.{CanReplay-restarted, cycles-restarted, slots-restarted, settled-restarted}
use Rattle.journal_model.proofs.restarts.restart_settles.Goals as goal

pub returns : goal.returns
returns c = record { replays = CanReplay-restarted; closed = cycles-restarted; slots = slots-restarted; settled = settled-restarted }

use Rattle.replayed_histories.proofs.StepLemmas.{these-kept}
use Rattle.replayed_histories.proofs.quiet_requests_keep_replays.Goals as goal

pub returns : goal.returns
returns c = these-kept

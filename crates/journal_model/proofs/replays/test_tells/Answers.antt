use Rattle.journal_model.proofs.ReplayLemmas.{CanReplay-test}
use Rattle.journal_model.proofs.replays.test_tells.Goals as goal

pub returns : goal.returns
returns c = CanReplay-test
